-- Registers that the tests call the same are the same, and which are in a list.
use Rattle.std.proofs.Common.{ℕ, zero, suc, ◌≤◌, ◌≡◌, Bool, true, false, true≢false, cond, ◌||◌, List, [], ◌∷◌, ◌++◌, refl, sym, ap, arith, inl, inr, eqb, ◌∙◌, eqb-true, eq-eqb}
use Rattle.std.proofs.lemmas.Bool.{cases_Bool, or_cases, or_left, or_right, and_parts, and_from}
use Rattle.std.proofs.Math.Bool.{or_assoc, or-false}
use Rattle.s66_isa.specs.{Bank, A, B, X, greatest, some_of, bank_number, b_reg, same_reg, is_b0, has_reg, insert, insert_all, operands_of, stored_registers, reads_of, memory_of}
use Rattle.s66_isa.specs.Table.{Reg, Instr}

bank_of_number : ℕ → Bank
bank_of_number zero = A
bank_of_number (suc zero) = B
bank_of_number (suc (suc n)) = X

bank-back : (a : Bank) → bank_of_number (bank_number a) ≡ a
unfolding bank_of_number
bank-back A = refl
bank-back B = refl
bank-back X = refl

pub same_reg-true : (r s : Reg) → same_reg r s ≡ true → r ≡ s
same_reg-true r s h =
    let both = and_parts (eqb (bank_number r.bank) (bank_number s.bank)) (eqb r.digit s.digit) h in
    let bank : r.bank ≡ s.bank = sym (bank-back r.bank) ∙ ap bank_of_number (eqb-true (bank_number r.bank) (bank_number s.bank) both.0) ∙ bank-back s.bank in
    let digit : r.digit ≡ s.digit = eqb-true r.digit s.digit both.1 in
    ap (λ (x : Bank). record { bank = x; digit = r.digit }) bank ∙ ap (λ x. record { bank = s.bank; digit = x }) digit

pub same_reg-self : (r : Reg) → same_reg r r ≡ true
same_reg-self r =
    and_from (eqb (bank_number r.bank) (bank_number r.bank)) (eqb r.digit r.digit) (eq-eqb (bank_number r.bank) (bank_number r.bank) refl) (eq-eqb r.digit r.digit refl)

eqb-sym : (a b : ℕ) → eqb a b ≡ eqb b a
eqb-sym a b = grind arith

pub same_reg-sym : (r s : Reg) → same_reg r s ≡ same_reg s r
same_reg-sym r s = rw (eqb-sym (bank_number r.bank) (bank_number s.bank), eqb-sym r.digit s.digit) refl

-- f of a register of a list is at most the greatest f of the list
pub has_reg-le : (f : Reg → ℕ) (r : Reg) (rs : List Reg) → has_reg r rs ≡ true → f r ≤ greatest f rs
has_reg-le f r [] h = absurd cc
has_reg-le f r (s ∷ rs) h =
    elim (or_cases (same_reg r s) (has_reg r rs) h) [
      | inl here ↦ omega (arith, ap f (same_reg-true r s here))
      | inr past ↦ omega (arith, has_reg-le f r rs past)
    ]

-- some register of a list is r
pub has_reg-from : (r : Reg) (rs : List Reg) → some_of (λ (s : Reg). same_reg s r) rs ≡ true → has_reg r rs ≡ true
has_reg-from r [] h = absurd cc
has_reg-from r (s ∷ rs) h =
    elim (or_cases (same_reg s r) (some_of (λ (x : Reg). same_reg x r) rs) h) [
      | inl here ↦ or_left (same_reg r s) (has_reg r rs) (same_reg-sym r s ∙ here)
      | inr past ↦ or_right (same_reg r s) (has_reg r rs) (has_reg-from r rs past)
    ]

-- registers that are the same are the same as the same others, and are in the same sets
same_reg-at : (r s : Reg) → same_reg r s ≡ true → (q : Reg) → same_reg r q ≡ same_reg s q
same_reg-at r s h q = ap (λ (x : Reg). same_reg x q) (same_reg-true r s h)

pub has_reg-at : (r s : Reg) → same_reg r s ≡ true → (set : List Reg) → has_reg r set ≡ has_reg s set
has_reg-at r s h set = ap (λ (x : Reg). has_reg x set) (same_reg-true r s h)

-- WHICH STAND IN A SET

pub has_reg-append : (q : Reg) (rs ss : List Reg) → has_reg q (rs ++ ss) ≡ (has_reg q rs || has_reg q ss)
has_reg-append q [] ss = refl
has_reg-append q (r ∷ rs) ss = ap (λ t. same_reg q r || t) (has_reg-append q rs ss) ∙ sym (or_assoc (same_reg q r) (has_reg q rs) (has_reg q ss))

-- what implies a test adds nothing to it
implied : (x y : Bool) → (y ≡ true → x ≡ true) → x ≡ (x || y)
implied true y h = refl
implied false true h = h refl
implied false false h = refl

has_reg-insert : (q : Reg) → is_b0 q ≡ false → (set : List Reg) (r : Reg) → has_reg q (insert set r) ≡ (has_reg q set || same_reg q r)
has_reg-insert q named set r =
    elim (cases_Bool (is_b0 r || has_reg r set)) [
      | inl is ↦
          ap (λ t. has_reg q (cond t set (set ++ r ∷ []))) is
          ∙ implied (has_reg q set) (same_reg q r)
          (λ same.
          elim (or_cases (is_b0 r) (has_reg r set) is) [
            | inl b0 ↦ absurd (true≢false (sym b0 ∙ (sym (same_reg-at q r same (b_reg 0)) ∙ named)))
            | inr there ↦ has_reg-at q r same set ∙ there
          ])
      | inr is ↦
          ap (λ t. has_reg q (cond t set (set ++ r ∷ []))) is
          ∙ (has_reg-append q set (r ∷ [])
          ∙ ap (λ t. has_reg q set || t) (or-false (same_reg q r)))
    ]

-- save B0, what was in the set and what joined it are there
pub has_reg-insert_all : (q : Reg) → is_b0 q ≡ false → (set rs : List Reg) → has_reg q (insert_all set rs) ≡ (has_reg q set || has_reg q rs)
has_reg-insert_all q named set [] = sym (or-false (has_reg q set))
has_reg-insert_all q named set (r ∷ rs) =
    has_reg-insert_all q named (insert set r) rs
    ∙ (ap (λ t. t || has_reg q rs) (has_reg-insert q named set r)
    ∙ or_assoc (has_reg q set) (same_reg q r) (has_reg q rs))

-- save B0, an instruction reads its operands and what it stores
pub has_reg-reads : (q : Reg) → is_b0 q ≡ false → (n : Instr) → has_reg q (reads_of n) ≡ (has_reg q (operands_of n) || has_reg q (stored_registers (memory_of n) n))
has_reg-reads q named n =
    has_reg-insert_all q named [] (operands_of n ++ stored_registers (memory_of n) n)
    ∙ has_reg-append q (operands_of n) (stored_registers (memory_of n) n)
