pub mod JsonExamples
pub mod Json
pub mod Labels
pub mod Pieces
pub mod Escape
pub mod PageExamples
pub mod FoundOrders
pub mod Page
pub mod Pairs
pub mod Rows
pub mod Still
pub use JsonExamples.{loads_and_two}
pub use Json.{wait_data, point_data, order_members, instruction_data, num, items_of, list_of, character, characters, register_data, points, result_data, points_items, fillers_in, written_data}
pub use Json.{found_data, result_register, row_of, without_blank, parcels_in, change_members, profile_members, block_data, json_line}
pub use Labels.{bytes_in}
pub use Pieces.{json_listed, list_text, write_text, is_some, points_text, lost_of, truth_text, changes_listed, profile_member_text}
unfoldable pub use Pieces.{string_text, json_register_text, unit_text, memory_text, conflict_text, sort_text, name_text, label_text, numbers_text, registers_text, writes_text, wait_start, json_cause_text}
unfoldable pub use Pieces.{wait_text, waits_text, result_text, results_text, place_text, json_times_text, lists_text, point_text, lost_text, path_text, steps_text, timed_text, json_bound_text, source_text}
unfoldable pub use Pieces.{work_text, operands_text, needs_text, json_instruction_text, json_instructions_text, name_of_block, json_lines_text, size_text, head_text, start_text}
pub use Escape.{is_printed, escaped_byte, escaped, escaped_or_newline, escaped_lines, is_harmless, is_harmless_or_newline, is_reference_or}
unfoldable pub use Escape.{digits}
pub use PageExamples.{one_boolean, labelled, third_order_lines, found_for}
pub use FoundOrders.{FoundOrder, AreOf}
pub use Page.{summary, bar, cause_words, taken, words, shown_as, arrow, row_start, on_path, page_instruction_row, instruction_rows, percentage_of, worked, unit_row_of, unit_rows, register_row_of, page_register_rows}
pub use Page.{index, tick, ticks, all_rows, entry, best_text, reasons_below, is_best, total_of_all, as_written, as_found, page_entries, summaries, page_title, profile_line, page_head, page_text}
unfoldable pub use Page.{span, bar_start, stretch_title, stretch_bar, stretch_words, work_title, work_bar, row_head, row_words, row_marks, numbered_bar, number_at, unit_bars, unit_shares, page_unit_head}
unfoldable pub use Page.{page_unit_row, page_kind_rows, all_kind_rows, register_bar, page_register_head, page_register_row, heading_end, heading, table_start, order_head, why_below, page_order_text, block_place, block_times}
unfoldable pub use Page.{block_anchor, block_title, block_verdict, page_block_head, page_listing, block_text, index_link, table_cell, bound_cell, entry_cell, time_cells, index_row, best_cell, total_row}
pub use Pairs.{in_order, in_old, in_new, both_orders, row_orders, behind, row_said, pair_part, pair_parts, all_pairs, pairs_head, pairs_list, pairs_text, IsPairsPage}
pub use Rows.{Holds, title_of_times, place_of_bar}
pub use Still.{is_still}
pub use declared.page.page.Part.TheVariants.{Orders, Row}
pub use declared.page.row.Shown.TheVariants.{Bar}
pub use declared.page.start.TheConstants.{PAGE_HEAD, PAGE_LIST, PAGE_PAIRS, PAGE_START}
pub use declared.page.summary.Summary.{Summary}
