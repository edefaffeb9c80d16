pub mod Guarded
pub mod LineMarks
pub mod Listing
pub mod Marks
pub mod Switched
pub use Guarded.{between, Mark, MarkedLine, is_guarded, guarded, marked_line, unmarked, marked_lines, GuardedLine, Begins, Ends, Kept, shown_reason, guarded_bytes, beginnings, written_from}
pub use Guarded.{guarded_lines, guarded_text, is_end, IsGuard, source_lines, read_flags, guarded_flags, is_left_alone, flag_of}
pub use LineMarks.{reason_texts, mark_of, marks_of, first_mark, later_marks, GainsLines, Finishes}
pub use Listing.{rule_words, after_blank, finding_line, is_listed, listing, is_in_order, AreFindings, has_more, past_line, IsFindings}
pub use Marks.{as_read, alone_from, alone_lines, is_alone_at, is_marked}
pub use Switched.{between_switches, switched_lines, switched, is_refused, unnumbered_entry, unnumbered}
pub use declared.finding.Finding.{Finding}
pub use declared.guard.guard.TheConstants.{REASON_LIMIT}
pub use declared.guard.marks.LineMark.{LineMark}
