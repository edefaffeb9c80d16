pub mod Counts
pub mod Redefinitions
pub mod Redefining
pub mod LeftAlone
pub mod Source
pub mod BlockParts
pub mod Roles
pub mod Printed
pub mod ReadAgain
pub mod Gives
pub mod Columns
pub mod Replaced
pub mod Keeper
pub mod Reader
pub mod SourceReader
pub mod Refusals
pub mod UpperRead
pub mod Halves
pub mod Frame
pub mod Kept
pub use Counts.{is_one_of, range_ends, counted_alone, counted_after_one, counted_after_two, is_numeral, spelled_after, lines_covered, cover_by_count, cover_by_numeral, before_byte, after_comma}
pub use Counts.{after_byte, cover_after_third, cover_after_strings, cover_by_strings, strings_in, counting_text, cover_of, is_counting, nothing_covered, is_covering, count_down, with_cover}
pub use Counts.{repetitions_after, covered_after}
pub use Redefinitions.{Redefined, nothing_redefined, own_operation, macros, renaming, forming, defined_name, defined_by, is_short, redefined_in, is_in_name, is_bank, ends_name, letters_of, form_of}
pub use Redefinitions.{form_in, is_redefined}
pub use Redefining.{names_in, begins_so, one_begins_so, with_bodies, with_lines}
pub use LeftAlone.{Reading, plain, is_switch, is_off_switch, is_on_switch, is_letter, is_correction, is_place, are_places, separates, skip_separators, corrects, is_brief, directs, is_directive}
pub use LeftAlone.{operand_behind, directive_cover, has_operation, Standing, definitions, at_first, bodies_after, after_operation, off_after, after_directive, with_directive, with_operation}
pub use LeftAlone.{after_body, after_line, is_continued, is_held, distance, is_far, is_doubtful, is_alone, Flagged, flagged_from, redefined_by, flagged_lines, class_at}
pub use Source.{Line, instructions, run_at, run_after, place_at, place_after, label_at, label_after, classes_from, classed_lines, operand_refusal, refusal_at, or_else, refusal, begins_block}
pub use Source.{put_before, parts_of, entry_of, label_in, block_of, blocks_of, unless_refused, source_of}
pub use BlockParts.{all_of, AreFull, AreParts}
pub use Roles.{is_comment_class, is_pad_class, is_note_of, is_note, has_block, is_dropped, is_leading, is_copied, roles, lines_that, mixed_source, outside_source}
pub use Printed.{Placed, ArePlaced, splits_line, bound_text, times_text, report, label_field, instruction_lines, copied_line, notes_text}
pub use ReadAgain.{AreComplete, IsSameAgain, IsPlacedAgain, IsGivenAgain, AreGivenAgain}
pub use Columns.{before_operation, indent, bytes_on, indents, line_start, indented_line, indented_lines}
pub use Replaced.{others, begins, begun, owner, text_for, line_text, replaced, anew_text, texts_of, printed_in, AreGiven}
pub use Keeper.{IsKeeper, placed_of, last_of, owner_by, bytes_in, bytes_at, indents_by, note_by_kind, note_in, block_at, text_in, text_by, whole_text}
pub use Reader.{SourceState, start, with_open, end_block, begin_run, begin_run_if, with_entry, count_line, by_class, line_step, and_then, lines_step, read_from, Steps}
pub use SourceReader.{state, flagged}
pub use Refusals.{refusal_line}
pub use UpperRead.{upper_entry, upper_block, upper_read}
pub use Halves.{is_new_mark, halves_from, halves_of}
pub use Frame.{FramePart, block_part, line_part, is_beside, part_beside, frame_of_lines, frame_of}
pub use Kept.{KeptLine, kind_of, kept_line, nothing_kept, put_line, put_lines, begins_at, is_run, runs_next, has_block_by, is_beside_by, part_by}
pub use declared.columns.Columns.TheVariants.{Own, Usual}
pub use declared.cover.Cover.{Cover}
pub use declared.cover.Cover.TheVariants.{Lines, Nothing, ToItsEnd}
pub use declared.cover.Covered.{Covered}
pub use declared.error.SourceError.{SourceError}
pub use declared.error.SourceError.TheVariants.{BadOperand, LineTooLong, OutOfMemory, TooLarge}
pub use declared.limits.TheConstants.{DIRECTIVE_LIMIT, SOURCE_LINES_LIMIT}
