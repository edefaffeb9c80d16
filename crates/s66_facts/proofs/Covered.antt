-- What a number between two others hands on: the test `covers` of `src/near.rt`, and that numbers which are covered decide no times.
use Rattle.std.proofs.Common.{ℕ, ◌-◌, ◌≤◌, ◌≡◌, ◌⊎◌, not, ◌||◌, ◌&&◌, ◌==◌, Bool, true, false, true≢false, List, [], ◌∷◌, length, get_or, leb, refl, sym, arith, inl, inr, ◌∙◌, subst, Some, leb-true}
use Rattle.std.proofs.lemmas.Bool.{and_parts, and_from, or_cases, not-true}
use Rattle.s66_isa.specs.{Reg, every, some_of, Row, Write, same_reg, same_kind, memory_pair, Set, has, numbers_in, no_set}
use Rattle.s66_isa.proofs.SameRegister.{same_reg-true}
use Rattle.s66_model.specs.{Problem, row_at, copies}
use Rattle.s66_model.proofs.LoadBound.{same_kind-true}
use Rattle.s66_model.proofs.Exchange.{memory_pair-sym}
use Rattle.s66_moments.specs.{writes, only_if, IsNumber}
use Rattle.s66_moments.proofs.TableArcs.{and_four}
use Rattle.s66_facts.specs.{Direction, Forward, Backward, is_in, before_in, Ground, IsAcyclic, sooner, uses, hands_on, covers, IsNear, share_unit}

-- some of what stands before n, by which the others are covered
pub record IsNearBy (b : Problem) (before : ℕ → ℕ → Bool) (near : ℕ → Bool) (n : ℕ) : Type 0 where
  pub within : (m : ℕ) → IsNumber b m → near m ≡ true → before m n ≡ true
  pub enough : (m : ℕ) → IsNumber b m → before m n ≡ true →
      (near m ≡ true) ⊎ ((k : ℕ) × IsNumber b k × (near k ≡ true) × (before m k ≡ true) × (covers b m k n ≡ true))

-- all that stands before
pub all-near : (b : Problem) (before : ℕ → ℕ → Bool) (n : ℕ) → IsNearBy b before (λ m. before m n) n
all-near b before n = record { within = λ m is first. first; enough = λ m is first. inl first }

-- those that are marked
pub near-by : (b : Problem) (before : ℕ → ℕ → Bool) (near : Set) (n : ℕ) → IsNear b before near n → IsNearBy b before (λ i. has i (numbers_in near)) n
near-by b before near n is = record { within = λ m is_m. is.within m; enough = is.enough }

-- what stands before another is a number
pub before-range : (marks : List Set) (m n : ℕ) → before_in marks m n ≡ true → (1 ≤ m) × (m ≤ length marks) × (1 ≤ n) × (n ≤ length marks)
before-range marks m n first =
    let (both, bit) = and_parts (is_in marks m && is_in marks n) (has m (numbers_in (get_or marks (n - 1) no_set))) first in
    let (in_m, in_n) = and_parts (is_in marks m) (is_in marks n) both in
    let (low_m, high_m) = and_parts (leb 1 m) (leb m (length marks)) in_m in
    let (low_n, high_n) = and_parts (leb 1 n) (leb n (length marks)) in_n in
    (leb-true 1 m low_m, leb-true m (length marks) high_m, leb-true 1 n low_n, leb-true n (length marks) high_n)

pub sooner-number : (d : Direction) (g : Ground) → IsAcyclic g → (m n : ℕ) → sooner d (before_in g.marks) m n ≡ true → IsNumber g.problem m
sooner-number Forward g ordered m n first = (let (low, high, low2, high2) = before-range g.marks m n first in (low, omega (arith, high, ordered.count)))
sooner-number Backward g ordered m n last = (let (low, high, low2, high2) = before-range g.marks n m last in (low2, omega (arith, high2, ordered.count)))

pub if-only : (test : Bool) (w : ℕ) → test ≡ true → only_if test w ≡ Some w
if-only true w is = refl
if-only false w is = absurd (true≢false (sym is))

-- a register that one writes and another uses
handed-go : (k n : Row) (x : Reg) (ws : List Write) → every (λ (w : Write). not (uses n w.reg) || writes k w.reg) ws ≡ true → some_of (λ (w : Write). same_reg w.reg x) ws ≡ true → uses n x ≡ true → writes k x ≡ true
handed-go k n x [] each there used = absurd (true≢false (sym there))
handed-go k n x (w ∷ ws) each there used =
    let (here, rest) = and_parts (not (uses n w.reg) || writes k w.reg) (every (λ (w : Write). not (uses n w.reg) || writes k w.reg) ws) each in
    elim (or_cases (same_reg w.reg x) (some_of (λ (w : Write). same_reg w.reg x) ws) there) [
      | inl same ↦
          elim (or_cases (not (uses n w.reg)) (writes k w.reg) here) [
            | inl off ↦ absurd (true≢false (sym (subst (λ y. uses n y ≡ true) (sym (same_reg-true w.reg x same)) used) ∙ not-true (uses n w.reg) off))
            | inr is ↦ subst (λ y. writes k y ≡ true) (same_reg-true w.reg x same) is
          ]
      | inr past ↦ handed-go k n x ws rest past used
    ]

abbrev by_unit : Problem → ℕ → ℕ → ℕ → Bool
by_unit b m k n = not (share_unit b m n) || same_kind (row_at b k).kind (row_at b n).kind

abbrev by_memory : Problem → ℕ → ℕ → ℕ → Bool
by_memory b m k n =
    not (memory_pair (row_at b m).memory (row_at b n).memory)
    || memory_pair (row_at b m).memory (row_at b k).memory && memory_pair (row_at b k).memory (row_at b n).memory

covers-parts : (b : Problem) (m k n : ℕ) → covers b m k n ≡ true →
    (hands_on (row_at b m) (row_at b k) (row_at b n) ≡ true) × (hands_on (row_at b n) (row_at b k) (row_at b m) ≡ true) × (by_unit b m k n ≡ true) × (by_memory b m k n ≡ true)
covers-parts b m k n h = and_four (hands_on (row_at b m) (row_at b k) (row_at b n)) (hands_on (row_at b n) (row_at b k) (row_at b m)) (by_unit b m k n) (by_memory b m k n) h

pub covers-first : (b : Problem) (m k n : ℕ) (x : Reg) → covers b m k n ≡ true → writes (row_at b m) x ≡ true → uses (row_at b n) x ≡ true → writes (row_at b k) x ≡ true
covers-first b m k n x h there used = handed-go (row_at b k) (row_at b n) x (row_at b m).writes (covers-parts b m k n h).0 there used

pub covers-second : (b : Problem) (m k n : ℕ) (x : Reg) → covers b m k n ≡ true → writes (row_at b n) x ≡ true → uses (row_at b m) x ≡ true → writes (row_at b k) x ≡ true
covers-second b m k n x h there used = handed-go (row_at b k) (row_at b m) x (row_at b n).writes (covers-parts b m k n h).1 there used

pub covers-unit : (b : Problem) (m k n : ℕ) → covers b m k n ≡ true → share_unit b m n ≡ true → (share_unit b m k ≡ true) × (share_unit b k n ≡ true)
covers-unit b m k n h shares =
    let (kinds, one) = and_parts (same_kind (row_at b m).kind (row_at b n).kind) (copies b (row_at b n).kind == 1) shares in
    elim (or_cases (not (share_unit b m n)) (same_kind (row_at b k).kind (row_at b n).kind) (covers-parts b m k n h).2) [
      | inl off ↦ absurd (true≢false (sym shares ∙ not-true (share_unit b m n) off))
      | inr is ↦
          let same : (row_at b k).kind ≡ (row_at b n).kind = same_kind-true (row_at b k).kind (row_at b n).kind is in (
            subst (λ kind. (same_kind (row_at b m).kind kind && copies b kind == 1) ≡ true) (sym same) shares,
            and_from (same_kind (row_at b k).kind (row_at b n).kind) (copies b (row_at b n).kind == 1) is one,
          )
    ]

pub covers-memory : (b : Problem) (m k n : ℕ) → covers b m k n ≡ true → memory_pair (row_at b m).memory (row_at b n).memory ≡ true →
    (memory_pair (row_at b m).memory (row_at b k).memory ≡ true) × (memory_pair (row_at b k).memory (row_at b n).memory ≡ true)
covers-memory b m k n h pair =
    let first = memory_pair (row_at b m).memory (row_at b k).memory in
    let second = memory_pair (row_at b k).memory (row_at b n).memory in
    elim (or_cases (not (memory_pair (row_at b m).memory (row_at b n).memory)) (first && second) (covers-parts b m k n h).3) [
      | inl off ↦ absurd (true≢false (sym pair ∙ not-true (memory_pair (row_at b m).memory (row_at b n).memory) off))
      | inr is ↦ and_parts first second is
    ]

-- the other way round

same_kind-sym : (b : Problem) (m n : ℕ) → share_unit b m n ≡ true → share_unit b n m ≡ true
same_kind-sym b m n shares =
    let (kinds, one) = and_parts (same_kind (row_at b m).kind (row_at b n).kind) (copies b (row_at b n).kind == 1) shares in
    let same : (row_at b m).kind ≡ (row_at b n).kind = same_kind-true (row_at b m).kind (row_at b n).kind kinds in
    subst (λ kind. (same_kind kind (row_at b m).kind && copies b (row_at b m).kind == 1) ≡ true) same
    (subst (λ kind. (same_kind (row_at b m).kind kind && copies b kind == 1) ≡ true) (sym same) shares)

pub covers-unit-back : (b : Problem) (m k n : ℕ) → covers b m k n ≡ true → share_unit b n m ≡ true → (share_unit b n k ≡ true) × (share_unit b k m ≡ true)
covers-unit-back b m k n h shares =
    let (first, second) = covers-unit b m k n h (same_kind-sym b n m shares) in
    (same_kind-sym b k n second, same_kind-sym b m k first)

pub covers-memory-back : (b : Problem) (m k n : ℕ) → covers b m k n ≡ true → memory_pair (row_at b n).memory (row_at b m).memory ≡ true →
    (memory_pair (row_at b n).memory (row_at b k).memory ≡ true) × (memory_pair (row_at b k).memory (row_at b m).memory ≡ true)
covers-memory-back b m k n h pair =
    let (first, second) = covers-memory b m k n h (memory_pair-sym (row_at b m).memory (row_at b n).memory ∙ pair) in
    (memory_pair-sym (row_at b n).memory (row_at b k).memory ∙ second, memory_pair-sym (row_at b k).memory (row_at b m).memory ∙ first)
