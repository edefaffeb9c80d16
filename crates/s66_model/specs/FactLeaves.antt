-- To be believed: leaves by facts, which only the fact lines of a document, or its lines, give a meaning.
use Rattle.std.specs.Prelude.{ℕ, Bool, true, false, List}

pub data FactLeaf : Type 0 where
  -- the number came too late if it came next
  Next : (number : ℕ) → FactLeaf
  -- the second is placed and the first isn't, which stands before it
  Turned : (first second : ℕ) → FactLeaf
  -- the node of this line of the document dominates the prefix
  AtLine : (line : ℕ) → FactLeaf
  -- units of one kind do all that these numbers need of them, from a minor cycle on at the soonest
  LoadFrom : (after : ℕ) (numbers : List ℕ) → FactLeaf

-- whether it names no other node
abbrev pub names_none : FactLeaf → Bool
names_none (Next number) = true
names_none (Turned first second) = true
names_none (AtLine line) = false
names_none (LoadFrom after numbers) = true
