-- Readiness by what each number depends on.
use Rattle.std.specs.Cmp.{both_ways}
use Rattle.std.proofs.Common.{ℕ, ◌+◌, ◌≤◌, ◌≡◌, ◌≢◌, ◌↔◌, ◌==◌, Bool, IsTrue, true, false, ◌||◌, ◌&&◌, List, length, refl, sym, ap, arith, leb, eq-eqb, ne_eqb, inl, inr, ◌∙◌, le-leb, length-append}
use Rattle.std.proofs.lemmas.Bool.{and_from, and_left, and_right, or_left, cases_Bool, cases_eq, cases_lt, lt-leb}
use Rattle.s66_isa.specs.{Instr, has, BLOCK_LIMIT, numbers_in, Set}
use Rattle.s66_model.specs.{depends, IsBeginning, needs_met}
use Rattle.s66_model.proofs.LegalOrders.{needs-each, each-needs, depends-from, depends-lt}
use Rattle.s66_model.proofs.Beginnings.{beginning-front}

-- a beginning has no more numbers than its block
pub beginning-few : (block : List Instr) (prefix : List ℕ) → IsBeginning block prefix → length prefix ≤ length block
beginning-few block prefix h = let (rest, legal) = beginning-front block prefix h in omega (arith, legal.whole, length-append prefix rest)

leb-next : (m k : ℕ) → m ≢ k + 1 → leb m k ≡ leb m (k + 1)
leb-next m k apart =
    elim (cases_lt k m) [
      | inl past ↦ lt-leb m k past ∙ sym (lt-leb m (k + 1) (omega (arith, past, apart)))
      | inr le ↦ le-leb m k le ∙ sym (le-leb m (k + 1) (omega (arith, le)))
    ]

-- the marks of what n depends on decide whether it is met
pub met-by : (block : List Instr) (prefix : List ℕ) (n : ℕ) (placed own : Set) (met : Bool) → ((m : ℕ) → 1 ≤ m → m ≤ BLOCK_LIMIT → has m (numbers_in own) ≡ depends block m n) → ((m : ℕ) → 1 ≤ m → m ≤ BLOCK_LIMIT → has m (numbers_in placed) ≡ has m prefix) →
    length block ≤ BLOCK_LIMIT → n ≤ length block → IsTrue met ↔ ((m : ℕ) → 1 ≤ m → m ≤ BLOCK_LIMIT → has m (numbers_in own) ≡ true → has m (numbers_in placed) ≡ true) → met ≡ needs_met block prefix n n
met-by block prefix n placed own met needed marked few high within =
    both_ways met (needs_met block prefix n n)
    (λ h.
    each-needs block prefix n
    (λ a depended.
    let first = depends-from block a n depended in
    let last : a ≤ BLOCK_LIMIT = omega (arith, depends-lt block a n depended, high, few) in
    sym (marked a first last) ∙ within.0 h a first last (needed a first last ∙ depended))
    n)
    (λ h.
    within.1
    (λ m first last need.
    let depended : depends block m n ≡ true = sym (needed m first last) ∙ need in
    marked m first last ∙ needs-each block prefix n n h m first (omega (arith, depends-lt block m n depended)) depended))

-- the numbers looked at so far are marked if it depends on them
abbrev pub Looked : List Instr → ℕ → ℕ → Set → Type 0
Looked block k n marks = (m : ℕ) → 1 ≤ m → m ≤ BLOCK_LIMIT → has m (numbers_in marks) ≡ (leb m k && depends block m n)

pub looked-none : (block : List Instr) (n : ℕ) (marks : Set) → ((m : ℕ) → has m (numbers_in marks) ≡ false) → Looked block 0 n marks
looked-none block n marks none m first last = none m ∙ sym (and_left (leb m 0) (depends block m n) (lt-leb m 0 (omega (arith, first))))

pub looked-next : (block : List Instr) (k n : ℕ) (old new : Set) → Looked block k n old → depends block (k + 1) n ≡ true → ((m : ℕ) → 1 ≤ m → has m (numbers_in new) ≡ (m == k + 1 || has m (numbers_in old))) → Looked block (k + 1) n new
looked-next block k n old new so_far depended with m first last =
    elim (cases_eq m (k + 1)) [
      | inl here ↦
          with m first ∙ or_left (m == k + 1) (has m (numbers_in old)) (eq-eqb m (k + 1) here)
          ∙ sym (and_from (leb m (k + 1)) (depends block m n) (le-leb m (k + 1) (omega (arith, here))) (ap (λ a. depends block a n) here ∙ depended))
      | inr apart ↦
          with m first ∙ rw (ne_eqb m (k + 1) apart) (so_far m first last) ∙ ap (λ b. b && depends block m n) (leb-next m k apart)
    ]

pub looked-past : (block : List Instr) (k n : ℕ) (marks : Set) → Looked block k n marks → depends block (k + 1) n ≡ false → Looked block (k + 1) n marks
looked-past block k n marks so_far off m first last =
    elim (cases_eq m (k + 1)) [
      | inl here ↦
          let none : depends block m n ≡ false = ap (λ a. depends block a n) here ∙ off in
          so_far m first last ∙ and_right (leb m k) (depends block m n) none ∙ sym (and_right (leb m (k + 1)) (depends block m n) none)
      | inr apart ↦ so_far m first last ∙ ap (λ b. b && depends block m n) (leb-next m k apart)
    ]

pub looked-all : (block : List Instr) (k n : ℕ) (marks : Set) → Looked block k n marks → n ≤ k + 1 → (m : ℕ) → 1 ≤ m → m ≤ BLOCK_LIMIT → has m (numbers_in marks) ≡ depends block m n
looked-all block k n marks so_far enough m first last =
    elim (cases_Bool (depends block m n)) [
      | inl is ↦ so_far m first last ∙ rw is (and_from (leb m k) true (le-leb m k (omega (arith, depends-lt block m n is, enough))) refl)
      | inr off ↦ so_far m first last ∙ rw off (and_right (leb m k) false refl)
    ]
