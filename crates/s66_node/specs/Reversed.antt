-- Used by contracts: how far an order is from the source order: how many pairs of it stand in reverse.
use Rattle.std.specs.Prelude.{ℕ, ◌+◌, List, [], ◌∷◌, nat_lt}
use Rattle.s66_isa.specs.{tally}

-- how many of these numbers are below this one
abbrev pub below : ℕ → List ℕ → ℕ
below n numbers = tally (λ m. nat_lt m n) numbers

-- how many pairs stand in reverse, the greater number first
abbrev pub reversed : List ℕ → ℕ
reversed [] = 0
reversed (n ∷ numbers) = below n numbers + reversed numbers
