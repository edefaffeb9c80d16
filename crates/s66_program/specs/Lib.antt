pub mod AsWritten
pub mod BlockHead
pub mod Listing
pub mod TimeText
pub mod DepsText
pub mod ChartText
pub mod BestReasons
pub mod WhyText
pub mod Statement
pub mod Entries
pub mod JsonText
pub mod OrderText
pub mod PageText
pub mod ProveText
pub mod CheckText
pub mod LintText
pub mod GuardText
pub mod Moved
pub mod Words
pub mod Loops
pub mod SumText
pub mod CompareText
pub mod OrderedAgain
pub mod Reports
pub mod CheckedAnswers
pub mod Fault
pub mod Device
pub mod KeptInput
pub mod ReadFaults
pub mod Hints
pub mod Comparing
pub mod Output
pub mod Remarks
pub mod Run
pub mod Ends
pub mod Program
pub mod Examples
pub use AsWritten.{as_written}
pub use BlockHead.{block_head, timed_line}
pub use Listing.{lines_of_blocks, IsListing}
pub use TimeText.{trace_lines}
pub use DepsText.{needs_line, needs_lines, named, pair_line, pair_lines}
pub use BestReasons.{best_reasons}
pub use WhyText.{waits_lines, IsWhyOutput}
pub use Statement.{is_same, name_in, location_of, name_of_part, begins_word, behind_commas, target_in, is_named_among, is_conditional, step_by, step_of, is_end_step, is_passed_by_loops, branches, target_of}
pub use Entries.{last_name, or_last, entries_from, entries_of, entry_at}
pub use JsonText.{written_line, IsJsonOutput}
pub use OrderText.{placed_by, rise_from, given_by, all_given, given_part, columns_by, IsOrdered, all_placed, placed_part}
pub use PageText.{all_found, found_part}
pub use ProveText.{all_documents, document_part, IsProveOutput}
pub use CheckText.{verdict_line, reasons_by, verdict_text, verdict_lines, is_yes, verdicts_status, IsCheckOutput}
pub use LintText.{lint_status, IsLintOutput}
pub use GuardText.{IsGuardOutput}
pub use Moved.{longest_above, moved}
pub use Words.{parcel_after, words_for, words_of}
pub use Loops.{Orders, word_from, begin_at, step_after, block_after, part_after, counted, parcels_through, loop_through, loop_start_before, loop_start_of, loop_closed, loop_or_else, loop_behind, loops_from}
pub use Loops.{loops_of, loop_at}
pub use SumText.{sum_row_of, sum_rows_of, AreNumbered, is_row_best, MayPrecede, AreInOrder, sum_bound_text, splits_text, words_text, sum_counts_text, line_end, ending_of, loop_mark, entry_text, row_end, sum_row_line}
pub use SumText.{sum_row_lines, splits_in, sum_total_of, total_times, sum_total_line, sum_profile_line, IsSumText, orders_of, IsSumOutput}
pub use CompareText.{IsViewOf, IsViewOutput, IsCompareOutput}
pub use OrderedAgain.{written_time, with_times, TakePrintedTimes}
pub use Reports.{EndsIn, IsReported, is_asked, AreChosen, ReportsBlocks}
pub use CheckedAnswers.{yes_text, yes_lines, AreYesLines}
pub use Fault.{new_source_fault, fault_code, fault_line}
pub use Device.{HasRoom, Calls, ReadsAll, ReadsSome, Tells}
pub use KeptInput.{IsFull, IsKeptInput, Puts}
pub use ReadFaults.{IsReadFault}
pub use Hints.{source_way_out, way_out}
pub use Comparing.{IsNewRefusal, IsCompareRefusal}
pub use Output.{IsUnder, source_in, IsAskedOutput, IsOutput, is_source, reads_source, shows_blocks}
pub use Remarks.{lines_word, found_words, lint_words, listed_line, regions_line, missing_line, remark_text, asks_for_facts, bounded_line, told_text, IsTold, prints_orders, without_blocks, without_block}
pub use Remarks.{missing_of_source, missing_of_documents, counted_sources, IsCount, AreCounts, IsRemark, raised}
pub use Run.{IsRefusal, IsOutcomeUnder, IsProfileFault, IsOutcome}
pub use Ends.{EndsAt, EndsWith, EndsByFault, ShowsUsage, LacksWords}
pub use Program.{IsRun}
pub use Examples.{one_load_source, blocks_in, one_load_answer, one_load_ordered}
pub use declared.fault.Fault.TheVariants.{Memory}
pub use declared.limits.TheConstants.{FEED_CALLS, FEED_ROOM, LOOP_LIMIT, SOURCE_FRONT}
pub use declared.loops.Loop.{Loop}
pub use declared.remark.Ended.{Ended}
pub use declared.remark.Finished.{Finished}
pub use declared.remark.Remark.{Remark}
pub use declared.statement.Step.TheVariants.{Branch, End, Jump, Nothing, Word}
pub use declared.sum_text.Row.{Row}
