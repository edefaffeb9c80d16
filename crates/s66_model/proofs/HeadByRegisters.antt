-- When an instruction can start at the soonest, by the registers that are late.
use Rattle.std.proofs.Common.{ℕ, ◌≤◌, ◌≡◌, cond, max, List, arith, inl, inr}
use Rattle.std.proofs.lemmas.Bool.{cases_Bool, cond-true, cond-false}
use Rattle.s66_isa.specs.{Reg, greatest}
use Rattle.s66_isa.proofs.Lists.{cases_le, greatest-le}
use Rattle.s66_isa.proofs.SameRegister.{has_reg-le}
use Rattle.s66_model.specs.{Problem, row_at, points_of, next, done_of, uses, head, HasLate}
use Rattle.s66_model.proofs.ChainParts.{used_of, used-late, used-le}

-- when the register is done, if n reads or writes it
abbrev pub done_for : Problem → List ℕ → ℕ → Reg → ℕ
done_for b prefix n x = cond (uses (row_at b n) x) (done_of (points_of b prefix) x) 0

-- of the registers that are done after the next slot it waits for the last that it reads or writes
pub head-by-registers : (b : Problem) (prefix : List ℕ) (n : ℕ) (xs : List Reg) → HasLate b prefix xs →
    head (points_of b prefix) (row_at b n) ≡ max (next (points_of b prefix)) (greatest (done_for b prefix n) xs)
head-by-registers b prefix n xs late =
    let used : ℕ = used_of (done_of (points_of b prefix)) (row_at b n) in
    let low : ℕ = next (points_of b prefix) in
    let at_most : greatest (done_for b prefix n) xs ≤ used =
    greatest-le (done_for b prefix n) used xs (λ x among.
    elim (cases_Bool (uses (row_at b n) x)) [
      | inl is ↦ omega (arith, cond-true {A = ℕ} (uses (row_at b n) x) (done_of (points_of b prefix) x) 0 is, used-le (done_of (points_of b prefix)) (row_at b n) x is)
      | inr off ↦ omega (arith, cond-false {A = ℕ} (uses (row_at b n) x) (done_of (points_of b prefix) x) 0 off)
    ])
    in
    elim (cases_le used low) [
      | inl le ↦ omega (arith, le, at_most)
      | inr lt ↦
          let (x, is_used, is) = used-late (done_of (points_of b prefix)) low (row_at b n) lt in
          let within : done_for b prefix n x ≤ greatest (done_for b prefix n) xs = has_reg-le (done_for b prefix n) x xs (late x (omega (arith, lt, is))) in
          let same : done_for b prefix n x ≡ done_of (points_of b prefix) x = cond-true {A = ℕ} (uses (row_at b n) x) (done_of (points_of b prefix) x) 0 is_used in
          omega (arith, lt, is, same, within, at_most)
    ]
