-- The registers whose words are after a time, as far as a loop has looked at them (`RegisterWords::after`).
use Rattle.std.proofs.Common.{ℕ, ◌+◌, ◌≤◌, ◌<◌, ◌≡◌, ◌⊎◌, ◌&&◌, ◌||◌, List, [], get_or, ltb, sym, ap, arith, inl, inr, ◌∙◌, lt-ltb, le-ltb}
use Rattle.std.proofs.lemmas.Bool.{cases_eq, cases_lt, cases_Bool, and_left, and_right, and_from, or_left}
use Rattle.s66_isa.specs.Table.{Reg}
use Rattle.s66_isa.specs.{same_reg, has_reg, index_of, register_at, word_of, registers_in, register_at-index}
use Rattle.s66_isa.specs.declared.registers.Registers.{Registers}
use Rattle.s66_isa.proofs.RegisterBits.{index-apart, index-few, register_at-digit}
use Rattle.s66_isa.proofs.SameRegister.{same_reg-true}
use Rattle.s66_time.specs.{Tells}

abbrev pub AreAfter : List ℕ → ℕ → ℕ → Registers → Type 0
AreAfter words time index set = (r : Reg) → r.digit ≤ 7 → has_reg r (registers_in set) ≡ (ltb (index_of r) index && ltb time (word_of words r))

pub after-none : (words : List ℕ) (time : ℕ) (set : Registers) → registers_in set ≡ [] → AreAfter words time 0 set
after-none words time set none r low = ap (has_reg r) none ∙ sym (and_left (ltb (index_of r) 0) (ltb time (word_of words r)) (le-ltb (index_of r) 0 (omega arith)))

-- a register of another index was looked at before, or comes later
other-index : (words : List ℕ) (time index : ℕ) (r : Reg) → (index_of r ≡ index → ⊥) → (ltb (index_of r) index && ltb time (word_of words r)) ≡ (ltb (index_of r) (index + 1) && ltb time (word_of words r))
other-index words time index r other =
    ap (λ before. before && ltb time (word_of words r)) (below (cases_lt (index_of r) index))
  where
    below : (index_of r < index) ⊎ (index ≤ index_of r) → ltb (index_of r) index ≡ ltb (index_of r) (index + 1)
    below (inl lt) = lt-ltb (index_of r) index lt ∙ sym (lt-ltb (index_of r) (index + 1) (omega (arith, lt)))
    below (inr le) = le-ltb (index_of r) index le ∙ sym (le-ltb (index_of r) (index + 1) (omega (arith, le, other)))

pub after-push : (words : List ℕ) (time index : ℕ) (set more : Registers) (x : Reg) → index < 24 → x ≡ register_at index → time < get_or words index 0 →
    ((r : Reg) → has_reg r (registers_in more) ≡ (same_reg r x || has_reg r (registers_in set))) → AreAfter words time index set → AreAfter words time (index + 1) more
after-push words time index set more x few is late joined known r low =
    let here : index_of x ≡ index = ap index_of is ∙ register_at-index index few in
    joined r
    ∙ elim (cases_eq (index_of r) index) [
      | inl same ↦
          or_left (same_reg r x) (has_reg r (registers_in set)) (index-apart r x low (omega (arith, ap (λ (y : Reg). y.digit) is, register_at-digit index)) (same ∙ sym here))
          ∙ sym (and_from (ltb (index_of r) (index + 1)) (ltb time (word_of words r)) (lt-ltb (index_of r) (index + 1) (omega (arith, same))) (lt-ltb time (word_of words r) (omega (arith, late, ap (λ k. get_or words k 0) same))))
      | inr other ↦
          elim (cases_Bool (same_reg r x)) [
            | inl same ↦ absurd (other (ap index_of (same_reg-true r x same) ∙ here))
            | inr apart ↦ rw apart (known r low ∙ other-index words time index r other)
          ]
    ]

pub after-pass : (words : List ℕ) (time index : ℕ) (set : Registers) → get_or words index 0 ≤ time → AreAfter words time index set → AreAfter words time (index + 1) set
after-pass words time index set early known r low =
    known r low
    ∙ elim (cases_eq (index_of r) index) [
      | inl same ↦
          and_left (ltb (index_of r) index) (ltb time (word_of words r)) (le-ltb (index_of r) index (omega (arith, same)))
          ∙ sym (and_right (ltb (index_of r) (index + 1)) (ltb time (word_of words r)) (le-ltb time (word_of words r) (omega (arith, early, ap (λ k. get_or words k 0) same))))
      | inr other ↦ other-index words time index r other
    ]

pub after-all : (words : List ℕ) (time index : ℕ) (set : Registers) (f : Reg → ℕ) (r : Reg) → AreAfter words time index set → Tells words f → r.digit ≤ 7 → 24 ≤ index → has_reg r (registers_in set) ≡ ltb time (f r)
after-all words time index set f r known tells low all =
    known r low
    ∙ (ap (λ before. before && ltb time (word_of words r)) (lt-ltb (index_of r) index (omega (arith, index-few r low, all)))
    ∙ ap (ltb time) (tells r low))
