-- Used by examples alone: the numbers of the standard profile with one of them changed.
use Rattle.std.specs.Prelude.{ℕ, List, slice_set, Option, Some}
use Rattle.s66_isa.specs.{entries, standard}

-- the numbers of the standard profile, but one at this place, from 0
abbrev pub standard_but : ℕ → ℕ → Option (List ℕ)
standard_but place n = Some (slice_set (entries standard) place n)
