-- The registers in a set, the bits of its word, and a word for each register.
use Rattle.std.specs.Int.{bit_at, trailing_zeros}
use Rattle.std.proofs.Common.{ℕ, ◌*◌, ◌%◌, ◌^◌, ◌≤◌, ◌<◌, ◌≡◌, ◌≢◌, Bool, true, false, not, ◌&&◌, ◌||◌, ◌==◌, List, [], ◌∷◌, filter, bit_and, bit_or, w32, eqb-true, eq-eqb, ne_eqb, true≢false, leb}
use Rattle.std.proofs.Common.{cond, max, length, set, refl, sym, ap, ◌∙◌, inl, inr, arith, le-leb, get_or-set_same, get_or-set_other}
use Rattle.std.proofs.lemmas.Nat.{or_lt, pow_below, and_le_l}
use Rattle.std.proofs.lemmas.Bool.{cases_eq, cases_lt, cases_Bool, false_from_ne_true, or_from, or_cases, or_left, or_right, and_from, and_left, and_right, lt-leb}
use Rattle.std.proofs.lemmas.Nat.Bits.{shr_and_one, bit_at-lt, bit_at_and, bit_at_above, bit_at_set_same, bit_at_set_other, bit_at-zero, bit_at-trailing_zeros}
use Rattle.s66_isa.specs.{Bank, A, B, X, some_of, bank_number, same_reg, has_reg, index_of, register_at, word_of, all_registers, is_there, registers_in, register_at-index}
use Rattle.s66_isa.specs.declared.registers.Registers.{Registers}
use Rattle.s66_isa.specs.Table.{Reg}
use Rattle.s66_isa.proofs.SameRegister.{same_reg-true, same_reg-self}

-- THE REGISTERS BY THEIR INDICES

pub index-apart : (r s : Reg) → r.digit ≤ 7 → s.digit ≤ 7 → index_of r ≡ index_of s → same_reg r s ≡ true
index-apart r s few more same =
    and_from (bank_number r.bank == bank_number s.bank) (r.digit == s.digit)
    (eq-eqb (bank_number r.bank) (bank_number s.bank) (omega arith)) (eq-eqb r.digit s.digit (omega arith))

pub index-few : (r : Reg) → r.digit ≤ 7 → index_of r < 24
index-few r few = omega (arith, bank-few r.bank)
  where
    bank-few : (bank : Bank) → bank_number bank ≤ 2
    bank-few A = omega arith
    bank-few B = omega arith
    bank-few X = omega arith

pub register_at-digit : (i : ℕ) → (register_at i).digit ≤ 7
register_at-digit i = omega arith

-- WHICH ARE THERE

-- of the members that pass a test, the register is one if it is a member and passes
has-filter : (test : Reg → Bool) (r : Reg) (rs : List Reg) → has_reg r (filter test rs) ≡ (test r && has_reg r rs)
has-filter test r [] = sym (and_right (test r) false refl)
has-filter test r (s ∷ rs) =
    let rest = filter test rs in
    let later = has-filter test r rs in
    elim (cases_Bool (same_reg r s)) [
      | inl same ↦
          let is : r ≡ s = same_reg-true r s same in
          elim (cases_Bool (test s)) [
            | inl passes ↦ rw (passes, same, ap test is ∙ passes) refl
            | inr fails ↦ rw (fails, ap test is ∙ fails) (later ∙ and_left (test r) (has_reg r rs) (ap test is ∙ fails))
          ]
      | inr other ↦
          elim (cases_Bool (test s)) [
            | inl passes ↦ rw (passes, other) later
            | inr fails ↦ rw (fails, other) later
          ]
    ]

below-eight : (d : ℕ) → (d == 0 || (d == 1 || (d == 2 || (d == 3 || (d == 4 || (d == 5 || (d == 6 || (d == 7 || false)))))))) ≡ leb d 7
below-eight d = grind arith

has-all : (bank : Bank) (digit : ℕ) → has_reg (record { bank = bank; digit = digit }) all_registers ≡ leb digit 7
has-all A digit = below-eight digit
has-all B digit = below-eight digit
has-all X digit = below-eight digit

-- a register whose digit is 0 to 7 is there if its bit is set
pub has-bit : (set : Registers) (r : Reg) → r.digit ≤ 7 → has_reg r (registers_in set) ≡ (bit_at set.bits (index_of r) == 1)
unfolding registers_in
has-bit set r few =
    has-filter (is_there set.bits) r all_registers
    ∙ (ap (λ is. is_there set.bits r && is) (has-all r.bank r.digit ∙ le-leb r.digit 7 few)
    ∙ (and_true (is_there set.bits r) ∙ ap (λ bit. bit == 1) (shr_and_one set.bits (index_of r))))
  where
    and_true : (test : Bool) → (test && true) ≡ test
    and_true true = refl
    and_true false = refl

-- and no other is
pub has-none : (set : Registers) (r : Reg) → 7 < r.digit → has_reg r (registers_in set) ≡ false
unfolding registers_in
has-none set r past =
    has-filter (is_there set.bits) r all_registers
    ∙ and_right (is_there set.bits r) (has_reg r all_registers) (has-all r.bank r.digit ∙ lt-leb r.digit 7 past)

-- ONE REGISTER MORE

pub with-few : (bits index : ℕ) → bits < 2 ^ 24 → index < 24 → bit_or bits (1 * 2 ^ index % 2 ^ 32) < 2 ^ 24
with-few bits index few below = or_lt 24 bits (1 * 2 ^ index % 2 ^ 32) few (omega (arith, pow_below index 24 below))

pub with-register : (set more : Registers) (x : Reg) → x.digit ≤ 7 → more.bits ≡ bit_or set.bits (1 * 2 ^ index_of x % 2 ^ 32) →
    (r : Reg) → has_reg r (registers_in more) ≡ (same_reg r x || has_reg r (registers_in set))
with-register set more x few is r =
    let below : index_of x < 32 = omega (arith, index-few x few) in
    elim (cases_lt 7 r.digit) [
      | inl past ↦
          has-none more r past
          ∙ sym (or_from (same_reg r x) (has_reg r (registers_in set)) (false_from_ne_true (same_reg r x) (λ same. omega (arith, past, few, ap (λ (y : Reg). y.digit) (same_reg-true r x same)))) (has-none set r past))
      | inr inside ↦
          let low : r.digit ≤ 7 = omega arith in
          let new = has-bit more r low ∙ ap (λ bits. bit_at bits (index_of r) == 1) is in
          elim (cases_Bool (same_reg r x)) [
            | inl same ↦
                let here : index_of r ≡ index_of x = ap index_of (same_reg-true r x same) in
                new
                ∙ eq-eqb _ 1 (ap (bit_at (bit_or set.bits (1 * 2 ^ index_of x % 2 ^ 32))) here ∙ bit_at_set_same w32 set.bits (index_of x) below)
                ∙ sym (or_left (same_reg r x) (has_reg r (registers_in set)) same)
            | inr other ↦
                let apart : index_of r ≢ index_of x = λ e. true≢false (sym (index-apart r x low few e) ∙ other) in
                new
                ∙ ap (λ bit. bit == 1) (bit_at_set_other w32 set.bits (index_of x) below (index_of r) apart)
                ∙ (sym (has-bit set r low)
                ∙ sym (rw other refl))
          ]
    ]

-- TWO SETS THAT MEET

pub some-has : (test : Reg → Bool) (r : Reg) (rs : List Reg) → has_reg r rs ≡ true → test r ≡ true → some_of test rs ≡ true
some-has test r [] there passes = absurd (true≢false (sym there))
some-has test r (s ∷ rs) there passes =
    elim (or_cases (same_reg r s) (has_reg r rs) there) [
      | inl same ↦ or_left (test s) (some_of test rs) (ap test (sym (same_reg-true r s same)) ∙ passes)
      | inr more ↦ or_right (test s) (some_of test rs) (some-has test r rs more passes)
    ]

pub some-found : (test : Reg → Bool) (rs : List Reg) → some_of test rs ≡ true → (r : Reg) × (has_reg r rs ≡ true) × (test r ≡ true)
some-found test [] some = absurd (true≢false (sym some))
some-found test (s ∷ rs) some =
    elim (or_cases (test s) (some_of test rs) some) [
      | inl passes ↦ (s, or_left (same_reg s s) (has_reg s rs) (same_reg-self s), passes)
      | inr more ↦ (let (r, there, passes) = some-found test rs more in (r, or_right (same_reg r s) (has_reg r rs) there, passes))
    ]

-- a number that isn't 0 has a bit
some-bit : (n : ℕ) → 0 < n → n < 2 ^ 32 → (i : ℕ) × (bit_at n i ≡ 1)
some-bit n some fits = let (few, set, lower) = bit_at-trailing_zeros w32 n some fits in (trailing_zeros w32 n, set)

meets-some : (a b : Registers) → bit_and a.bits b.bits ≢ 0 → some_of (λ r. has_reg r (registers_in b)) (registers_in a) ≡ true
meets-some a b some =
    let both = bit_and a.bits b.bits in
    let (i, set) = some-bit both (omega (arith, some)) (omega (arith, and_le_l a.bits b.bits, a.few)) in
    let first : bit_at a.bits i ≡ 1 = omega (arith, set, bit_at_and a.bits b.bits i, bit_at-lt a.bits i, bit_at-lt b.bits i) in
    let second : bit_at b.bits i ≡ 1 = omega (arith, set, bit_at_and a.bits b.bits i, bit_at-lt a.bits i, bit_at-lt b.bits i) in
    let below : i < 24 = elim (cases_lt i 24) [ inl below ↦ below | inr past ↦ absurd (omega (arith, first, bit_at_above a.bits 24 i a.few past)) ] in
    let there : (set : Registers) → bit_at set.bits i ≡ 1 → has_reg (register_at i) (registers_in set) ≡ true =
    λ set is. has-bit set (register_at i) (register_at-digit i) ∙ eq-eqb _ 1 (ap (bit_at set.bits) (register_at-index i below) ∙ is)
    in
    some-has (λ r. has_reg r (registers_in b)) (register_at i) (registers_in a) (there a first) (there b second)

some-meets : (a b : Registers) → some_of (λ r. has_reg r (registers_in b)) (registers_in a) ≡ true → bit_and a.bits b.bits ≢ 0
some-meets a b some none =
    let (r, first, second) = some-found (λ r. has_reg r (registers_in b)) (registers_in a) some in
    elim (cases_lt 7 r.digit) [
      | inl past ↦ true≢false (sym first ∙ has-none a r past)
      | inr inside ↦
          let low : r.digit ≤ 7 = omega arith in
          let i = index_of r in
          let one = eqb-true (bit_at a.bits i) 1 (sym (has-bit a r low) ∙ first) in
          let other = eqb-true (bit_at b.bits i) 1 (sym (has-bit b r low) ∙ second) in
          absurd (omega (arith, one, other, bit_at_and a.bits b.bits i, ap (λ n. bit_at n i) none, bit_at-zero i))
    ]

pub meets-is : (a b : Registers) → not (bit_and a.bits b.bits == 0) ≡ some_of (λ r. has_reg r (registers_in b)) (registers_in a)
meets-is a b =
    let both = bit_and a.bits b.bits in
    elim (cases_eq both 0) [
      | inl none ↦
          ap not (eq-eqb both 0 none)
          ∙ sym (false_from_ne_true (some_of (λ r. has_reg r (registers_in b)) (registers_in a)) (λ some. some-meets a b some none))
      | inr some ↦ ap not (ne_eqb both 0 some) ∙ sym (meets-some a b some)
    ]

-- A WORD FOR EACH REGISTER

-- a register's word after one of them was raised
pub raised-word : (words : List ℕ) (x r : Reg) (t : ℕ) → x.digit ≤ 7 → r.digit ≤ 7 → index_of x < length words →
    word_of (set words (index_of x) (max (word_of words x) t)) r ≡ max (word_of words r) (cond (same_reg x r) t 0)
raised-word words x r t few low within =
    elim (cases_Bool (same_reg x r)) [
      | inl same ↦
          let e : x ≡ r = same_reg-true x r same in
          rw (same, sym e) (get_or-set_same words (index_of x) (max (word_of words x) t) 0 within)
      | inr other ↦
          let apart : index_of x ≢ index_of r = λ e. true≢false (sym (index-apart x r few low e) ∙ other) in
          rw other (omega (arith, get_or-set_other words (index_of x) (index_of r) (max (word_of words x) t) 0 (λ e. apart (sym e))))
    ]

-- a word that is raised to a time for one reason and then for another
pub raised-twice : (x y : Bool) (w t : ℕ) → max (max w (cond x t 0)) (cond y t 0) ≡ max w (cond (x || y) t 0)
raised-twice true true w t = omega arith
raised-twice true false w t = omega arith
raised-twice false true w t = omega arith
raised-twice false false w t = omega arith
