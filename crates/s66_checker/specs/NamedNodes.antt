-- Used by contracts within the crate alone: the node on a line that a leaf names.
use Rattle.std.specs.Prelude.{ℕ, ◌≡◌, false, Option, None, Some, List}
use Rattle.s66_model.specs.{Vertex, Ending}
use Rattle.s66_cert.specs.{Document}
use Rattle.s66_checker.specs.Verdict.{is_name_at, node_on}

-- the vertex of a line of the document, with its prefix; none only if no prefix may name it
abbrev pub IsNodeOn : Document → ℕ → Option (Vertex Ending) → List ℕ → Type 0
IsNodeOn d line None name = (at : List ℕ) → is_name_at d at (node_on d line) ≡ false
IsNodeOn d line (Some vertex) name = node_on d line ≡ Some (name, vertex)
