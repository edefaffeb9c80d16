pub mod Pairing
pub mod Verdict
pub mod Difference
pub mod Rows
pub mod Broken
pub mod Compared
pub mod Meant
pub use Pairing.{texts_of, is_untaken, partner, partners, paired, first_left, AreWithin}
pub use Verdict.{Judged, is_missing, first_missing, by_order, kept_verdict, verdict_of, judged, is_kept}
pub use Difference.{is_alike, first_difference, Shape, shape_of, shapes, DifferFirst}
pub use Rows.{side_of, both, rows_of, rows_by, has_old, has_new, counted, old_time, new_time, is_legal, AreAligned, IsRowOf, AreOfBlocks}
pub use Broken.{first_shared, reason, access, memory_reason, place_of, instruction_text, pair_text, broken_at, broken_text}
pub use Compared.{not_legal_text, block_verdict_text, side_text, compared_row_text, row_line, row_lines, source_line_text, difference_line, sums_text, total_text, total_line, ending_text, compared_text, is_accepted}
pub use Compared.{IsCompared}
pub use Meant.{IsReordered, AreReordered, KeepsSource}
pub use declared.alignment.Step.{Step}
pub use declared.alignment.Step.TheVariants.{Added, Gone, Pair}
pub use declared.rows.Row.{Row}
pub use declared.rows.Row.TheVariants.{Both, NewAlone, OldAlone}
pub use declared.verdict.BlockVerdict.{BlockVerdict}
pub use declared.verdict.BlockVerdict.TheVariants.{NotLegal, OtherNew, OtherOld, Reordered, Same}
