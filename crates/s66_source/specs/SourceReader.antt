-- Used by contracts within the crate alone: what a reader shows, and its next line.
use Rattle.std.specs.Prelude.{ℕ, Bool, List}
use Rattle.s66_source.specs.LeftAlone.{Flagged, is_alone}
use Rattle.s66_source.specs.declared.reader.Reader.{Reader}
use Rattle.s66_source.specs.Reader.{SourceState}

abbrev pub state : Reader → SourceState
state r = record { blocks = r.blocks.items; label = r.label.now; entries = r.entries.items; count = r.kept.count; after = r.after_code }

-- a line, if it comes next
abbrev pub flagged : Reader → Bool → List ℕ → Flagged
flagged r continued line = record { alone = is_alone r.cut r.standing line continued; bytes = line }
