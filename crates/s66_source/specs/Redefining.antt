-- Used by contracts within the crate alone: what lines add to what is redefined.
use Rattle.std.specs.Prelude.{ℕ, Bool, false, ◌&&◌, ◌||◌, ◌==◌, List, [], ◌∷◌, ◌++◌, map, Vec, filter}
use Rattle.std.specs.declared.alloc.Global.{Global}
use Rattle.s66_line.specs.{body}
use Rattle.s66_source.specs.Redefinitions.{Redefined, defined_by, forming, is_short, renaming}

abbrev pub names_in : List (Vec ℕ Global) → List (List ℕ)
names_in names = map (λ (name : Vec ℕ Global). name.items) names

-- a name that begins with these two bytes, and whether one of some does
abbrev pub begins_so : (first second : ℕ) → List ℕ → Bool
begins_so first second (a ∷ b ∷ name) = a == first && b == second
begins_so first second name = false

abbrev pub one_begins_so : (first second : ℕ) → List (List ℕ) → Bool
one_begins_so first second [] = false
one_begins_so first second (name ∷ names) = begins_so first second name || one_begins_so first second names

abbrev pub with_bodies : Redefined → List (List ℕ) → Redefined
with_bodies known bodies = record { operations = known.operations ++ filter is_short (defined_by renaming bodies); forms = known.forms ++ defined_by forming bodies }

abbrev pub with_lines : Redefined → List (List ℕ) → Redefined
with_lines known lines = with_bodies known (map body lines)
