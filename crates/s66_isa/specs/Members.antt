-- Used by contracts: the numbers in a set: n is there if its bit is set, bit n - 1 of the low word up to 64, and bit n - 65 of
-- the high word above.
use Rattle.std.specs.Prelude.{ℕ, ◌-◌, ◌==◌, if◌then◌else◌, nat_le, Bool, List, filter}
use Rattle.std.specs.Int.{bit_at}
use Rattle.s66_isa.specs.declared.limits.TheConstants.{BLOCK_LIMIT}
use Rattle.s66_isa.specs.Lists.{rising}
use Rattle.s66_isa.specs.declared.set.Set.{Set}

abbrev pub bit_of : Set → ℕ → ℕ
bit_of set n = if nat_le n 64 then bit_at set.low (n - 1) else bit_at set.high (n - 65)

abbrev pub is_member : Set → ℕ → Bool
is_member set n = bit_of set n == 1

-- rising, one for each bit that is set
unfoldable pub numbers_in : Set → List ℕ
numbers_in set = filter (is_member set) (rising BLOCK_LIMIT 1)

-- what a read past the end of a table of sets gives
abbrev pub no_set : Set
no_set = record { low = 0; high = 0 }
