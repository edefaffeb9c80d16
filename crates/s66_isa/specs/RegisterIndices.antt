-- Used by the model of a register: the index of the register of an index is that index.
use Rattle.std.specs.Prelude.{ℕ, zero, suc, ◌+◌, ◌*◌, ◌/◌, ◌%◌, ◌<◌, ◌≡◌, refl}
use Rattle.std.proofs.Common.{ap, ◌∙◌}
use Rattle.std.proofs.Math.Nat.{not-suc-le-zero, le_of_suc-le-suc, zero-lt-suc, div-lt_iff_lt-mul, div-add-mod}
use Rattle.s66_isa.specs.Table.{bank_number}
use Rattle.s66_isa.specs.Registers.{index_of, bank_at, register_at}

bank_at-number : (n : ℕ) → n < 3 → bank_number (bank_at n) ≡ n
bank_at-number zero few = refl
bank_at-number (suc zero) few = refl
bank_at-number (suc (suc zero)) few = refl
bank_at-number (suc (suc (suc more))) few = absurd (not-suc-le-zero (le_of_suc-le-suc (le_of_suc-le-suc (le_of_suc-le-suc few))))

pub register_at-index : (index : ℕ) → index < 24 → index_of (register_at index) ≡ index
register_at-index index few =
    ap (λ n. 8 * n + index % 8) (bank_at-number (index / 8) ((div-lt_iff_lt-mul {k = 8} {x = index} {y = 3} (zero-lt-suc 7)).1 few)) ∙ div-add-mod index 8
