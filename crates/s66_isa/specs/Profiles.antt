-- To be believed: which numbers are a profile's, and the profile that has them.
use Rattle.std.specs.Prelude.{◌≡◌, ◌≤◌, ℕ, List, All, get_or, length, max, min}
use Rattle.std.proofs.Math.Nat.{le-max_left, max-le, min-le_left}
use Rattle.std.proofs.Common.{lit≤}
use Rattle.s66_isa.specs.declared.limits.TheConstants.{PROFILE_LENGTH, PROFILE_LIMIT}
use Rattle.s66_isa.specs.declared.profile.Profile.{Profile}

-- seventeen numbers, each 1 to 100
abbrev pub IsProfile : List ℕ → Type 0
IsProfile ns = (length ns ≡ PROFILE_LENGTH) × All (λ n. (1 ≤ n) × (n ≤ PROFILE_LIMIT)) ns

-- the number of a profile that is nearest
abbrev pub nearest : ℕ → ℕ
nearest n = max 1 (min PROFILE_LIMIT n)

unfoldable pub at-least : (n : ℕ) → 1 ≤ nearest n
at-least n = le-max_left 1 (min PROFILE_LIMIT n)

unfoldable pub at-most : (n : ℕ) → nearest n ≤ PROFILE_LIMIT
at-most n = max-le (lit≤ tt) (min-le_left PROFILE_LIMIT n)

abbrev pub entry_at : List ℕ → ℕ → ℕ
entry_at ns i = nearest (get_or ns i 1)

-- the profile of these numbers, if they are a profile's; for one that is none, the nearest is taken
unfoldable pub profile_of : List ℕ → Profile
profile_of ns = record {
  boolean = entry_at ns 0;
  shift = entry_at ns 1;
  normalise = entry_at ns 2;
  add = entry_at ns 3;
  longadd = entry_at ns 4;
  multiply = entry_at ns 5;
  divide = entry_at ns 6;
  population = entry_at ns 7;
  increment = entry_at ns 8;
  load = entry_at ns 9;
  units_boolean = entry_at ns 10;
  units_shift = entry_at ns 11;
  units_add = entry_at ns 12;
  units_longadd = entry_at ns 13;
  units_multiply = entry_at ns 14;
  units_divide = entry_at ns 15;
  units_increment = entry_at ns 16;
  least = (at-least (get_or ns 0 1), at-least (get_or ns 1 1), at-least (get_or ns 2 1), at-least (get_or ns 3 1), at-least (get_or ns 4 1), at-least (get_or ns 5 1), at-least (get_or ns 6 1), at-least (get_or ns 7 1), at-least (get_or ns 8 1), at-least (get_or ns 9 1));
  greatest = (at-most (get_or ns 0 1), at-most (get_or ns 1 1), at-most (get_or ns 2 1), at-most (get_or ns 3 1), at-most (get_or ns 4 1), at-most (get_or ns 5 1), at-most (get_or ns 6 1), at-most (get_or ns 7 1), at-most (get_or ns 8 1), at-most (get_or ns 9 1));
  units = (at-least (get_or ns 10 1), at-least (get_or ns 11 1), at-least (get_or ns 12 1), at-least (get_or ns 13 1), at-least (get_or ns 14 1), at-least (get_or ns 15 1), at-least (get_or ns 16 1));
  few = (at-most (get_or ns 10 1), at-most (get_or ns 11 1), at-most (get_or ns 12 1), at-most (get_or ns 13 1), at-most (get_or ns 14 1), at-most (get_or ns 15 1), at-most (get_or ns 16 1));
}
