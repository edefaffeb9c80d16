-- Two beginnings by the tests of `specs/Dominating.antt`: whether they are of one set, and whether one dominates the other.
use Rattle.std.proofs.Common.{ℕ, ◌≤◌, ◌≡◌, ◌↔◌, ◌==◌, ◌&&◌, Bool, IsTrue, true, false, true≢false, List, [], ◌∷◌, ◌++◌, length, refl, sym, ap, ◌∙◌, arith, inl, inr, leb, Decides, eqb-true}
use Rattle.std.proofs.lemmas.Bool.{and_left, and_right, or_cases}
use Rattle.std.proofs.lemmas.Bool.Decides.{Decides-like, Decides-and, same_from_decides}
use Rattle.s66_isa.specs.{Instr, every, has, BLOCK_LIMIT, numbers_in, Set}
use Rattle.s66_isa.proofs.Lists.{every-each, each-every, has-among, among-has}
use Rattle.s66_model.specs.{Rule, NoneNamed, WrittenEarlier, ClampedStanding, Problem, points_of, total_of, GoesOn, IsBeginning, Clamp, no_clamp, IsSameSet}
use Rattle.s66_model.proofs.LegalOrders.{ready-parts}
use Rattle.s66_checker.specs.{is_no_later, is_same_set, is_beginning, is_ahead, dominates_by}
use Rattle.s66_checker.proofs.GoingTo.{goes_on-Decides}

-- ONE SET

has-both : (other prefix : List ℕ) (n : ℕ) → (has n other ≡ true → has n prefix ≡ true) → (has n prefix ≡ true → has n other ≡ true) → has n other ≡ has n prefix
has-both other prefix n there back =
    same_from_decides (has n other) (has n prefix) ((λ h. h), λ h. h) (back, there)

-- all of these are in the others
all-has : (ns ms : List ℕ) → Decides (every (λ n. has n ms) ns) ((n : ℕ) → has n ns ≡ true → has n ms ≡ true)
all-has ns ms =
    ((λ h n is. every-each (λ k. has k ms) n ns h (has-among n ns is)), λ h. each-every (λ k. has k ms) ns (λ n among. h n (among-has n ns among)))

pub same_set-Decides : (other prefix : List ℕ) → Decides (is_same_set other prefix) (IsSameSet other prefix)
same_set-Decides other prefix =
    Decides-like (is_same_set other prefix)
    (λ h n. has-both other prefix n (h.0 n) (h.1 n))
    (λ (same : IsSameSet other prefix). ((λ n is. sym (same n) ∙ is), λ n is. same n ∙ is))
    (Decides-and (every (λ n. has n prefix) other) (every (λ n. has n other) prefix) (all-has other prefix) (all-has prefix other))

-- the numbers of a beginning are those of its block
run-within : (block : List Instr) (prefix ns : List ℕ) (n : ℕ) → GoesOn block prefix ns → has n ns ≡ true → (1 ≤ n) × (n ≤ length block)
run-within block prefix [] n goes is = absurd (true≢false (sym is))
run-within block prefix (m ∷ ns) n goes is =
    elim (or_cases (n == m) (has n ns) is) [
      | inl here ↦
          let (low, high, new, met) = ready-parts block prefix m goes.0 in
          let e : n ≡ m = eqb-true n m here in
          (omega (arith, low, e), omega (arith, high, e))
      | inr past ↦ run-within block (prefix ++ m ∷ []) ns n goes.1 past
    ]

-- marks decide whether two beginnings are of one set
pub set-stated : (block : List Instr) (own other : Set) (ns ms : List ℕ) (stated : Bool) → length block ≤ BLOCK_LIMIT → IsBeginning block ns → IsBeginning block ms →
    ((m : ℕ) → 1 ≤ m → m ≤ BLOCK_LIMIT → has m (numbers_in own) ≡ has m ns) → ((m : ℕ) → 1 ≤ m → m ≤ BLOCK_LIMIT → has m (numbers_in other) ≡ has m ms) →
    IsTrue stated ↔ ((m : ℕ) → 1 ≤ m → m ≤ BLOCK_LIMIT → has m (numbers_in own) ≡ has m (numbers_in other)) → stated ≡ is_same_set ns ms
set-stated block own other ns ms stated few begins_ns begins_ms marked_ns marked_ms is =
    same_from_decides stated (is_same_set ns ms)
    (Decides-like stated
    (λ (same : (m : ℕ) → 1 ≤ m → m ≤ BLOCK_LIMIT → has m (numbers_in own) ≡ has m (numbers_in other)) n.
    let within = λ (low : 1 ≤ n) (high : n ≤ length block). (let last : n ≤ BLOCK_LIMIT = omega (arith, high, few) in sym (marked_ns n low last) ∙ same n low last ∙ marked_ms n low last) in
    has-both ns ms n
    (λ there. let (low, high) = run-within block [] ns n begins_ns there in sym (within low high) ∙ there)
    (λ there. let (low, high) = run-within block [] ms n begins_ms there in within low high ∙ there))
    (λ same m low high. marked_ns m low high ∙ same m ∙ sym (marked_ms m low high))
    is)
    (same_set-Decides ns ms)

-- BY A RULE

module _ (b : Problem) (name at : List ℕ) where
  apart : (c : Clamp) → is_same_set name at ≡ false → is_ahead c b name at ≡ false
  apart c other =
      and_left _ (is_no_later b.profile c (points_of b name) (points_of b at)) (and_right (is_beginning b.block at && is_beginning b.block name) (is_same_set name at) other)

  pub apart-never : (rule : Rule) → is_same_set name at ≡ false → false ≡ dominates_by rule b name at
  apart-never NoneNamed other = refl
  apart-never WrittenEarlier other = sym (and_left (is_ahead no_clamp b name at) (leb (total_of b name) (total_of b at)) (apart no_clamp other))
  apart-never ClampedStanding other = sym (apart _ other)

  module _ (begins : IsBeginning b.block at) (name_begins : IsBeginning b.block name) (same : is_same_set name at ≡ true) where
    pub ahead-is : (c : Clamp) → is_ahead c b name at ≡ is_no_later b.profile c (points_of b name) (points_of b at)
    ahead-is c =
        rw ((goes_on-Decides b.block [] at).1 begins, (goes_on-Decides b.block [] name).1 name_begins, same) refl

    pub written-late : leb (total_of b name) (total_of b at) ≡ false → false ≡ dominates_by WrittenEarlier b name at
    written-late late = sym (and_right (is_ahead no_clamp b name at) (leb (total_of b name) (total_of b at)) late)

    pub written-is : leb (total_of b name) (total_of b at) ≡ true → is_no_later b.profile no_clamp (points_of b name) (points_of b at) ≡ dominates_by WrittenEarlier b name at
    written-is le = sym (ap (λ test. test && leb (total_of b name) (total_of b at)) (ahead-is no_clamp) ∙ rw le (and_true _))
      where
        and_true : (test : Bool) → (test && true) ≡ test
        and_true true = refl
        and_true false = refl
