pub mod Words
pub mod Examples
pub mod FactWords
pub mod ChainWords
pub mod LongestPaths
pub mod Reasons
pub mod Shown
pub mod Within
pub use Words.{instruction, unit_name, separator, listed, counted, longest_use, each_words, Reason, row_text, rows_text}
pub use Examples.{shifts_in_turn, end_at_16}
pub use FactWords.{from_words, to_words, work_of_load, begins, left_to, one_words, which_words, units_words, side_by_side, in_all, need_words, last_words, mixed_words, so_words, load_end, many_words}
pub use FactWords.{until_words, load_sentence, soonest_known, rest_known, rest_words, issues_words, could_words, by_parcels, has_words, by_unit, pair_words, late_words, pair_sentence, fact_sentence}
pub use FactWords.{suppose_sentence, comes_words, through_words, late_number, wait_to_end, stays_known, end_line, end_by_words, end_comes_words, too_late_words, refuted_words, to_show, refuted_sentence, lines_before, step_sentence, margin, numbered_step, facts_from}
pub use ChainWords.{awaited, link_words, link_row, lasting, last_result, end_words, end_row, walk_rows, start_rows, chain_rows}
pub use LongestPaths.{arcs, to_end, hop_to, first_hop, next_hop, hop_and, hops_from, hops_of, to_show_after, pair_left, load_left, each_left, pairs_left, loads_left, is_some_passing, first_number, up_to}
pub use LongestPaths.{puts_before, pair_by, pair_from, second_of_pair, pairs_over, pairs_of, keeps_apart, line_of_load, line_name, by_words, parcels_words, free_unit_words, third_words, later_words}
pub use LongestPaths.{at_end_words, table_rows, reached_words, longest_load_row, hop_rows, path_rows}
pub use Reasons.{numbers_of, work, slot_after, work_before, sharing_words, unit_words, no_need_words, who_needs_words, how_long_words, load_words, before_words, slot_words, after_words, last_slot}
pub use Reasons.{if_last_words, last_row, whole_row, faster_words, issue_row, next_rows, left_row, turned_text, leaf_rows, leaf_text, then_words, if_words, tree_line_text, lines_text, is_line_said}
pub use Reasons.{is_said, opening_words, splits_words, and_facts, counts_text, colon, fact_reasons_text, leaves_text, tree_text, closing_line, reasons_text}
pub use Shown.{last_number, end_by, IsReachedAfter, IsLeafAt, IsAlong, sum_of, AreRowsOf, IsPathShown, IsLoadShown, AreNoSooner, HasNoneSooner, HasKnown, HasSupposed, HoldsIn, IsRefutedIn}
pub use Shown.{AddUp, IsPairShown, IsThroughShown}
pub use Within.{AreWithin, is_split, IsFaultless, IsRight, IsGranted, with_load, with_loads, IsNumberOf, vertex_text, AreLoaded, AreKnown, AreBegun}
pub use declared.hop.Hop.{Hop}
pub use declared.work.Work.{Work}
