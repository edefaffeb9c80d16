-- A pair that is taken leaves no ring.
use Rattle.std.proofs.Common.{ℕ, ◌≤◌, ◌≡◌, ◌≢◌, ◌||◌, ◌&&◌, ◌==◌, Bool, false, true, List, length, sym, ap, subst, arith, inl, inr, ◌∙◌, eqb-true}
use Rattle.std.proofs.Math.Path.{fun_ext}
use Rattle.std.proofs.lemmas.Bool.{and_parts, or_cases, cases_Bool}
use Rattle.s66_isa.specs.{Set, has, numbers_in}
use Rattle.s66_moments.specs.{Pair, with_line, KnownArc, IsNumber, IsTransitive, HasNoRing, with_pair, is_arc_up}
use Rattle.s66_moments.proofs.Rings.{pair-transitive, pair-no_ring}
use Rattle.s66_moments.proofs.KnownLines.{up-pair}
use Rattle.s66_facts.specs.{before_in, Ground, IsAcyclic, known_of}
use Rattle.s66_facts.proofs.Covered.{before-range}
use Rattle.s66_facts.proofs.Settled.{or-no, or-yes}
use Rattle.s66_facts.proofs.NearEach.{at, apart-marked, pair-more, turned-pair, turned-ring}

pub pair-ordered : (g : Ground) (marks : List Set) (m n : ℕ) → IsAcyclic g → length marks ≡ length g.marks → before_in marks ≡ with_pair (before_in g.marks) m n → IsNumber g.problem m → IsNumber g.problem n → m ≢ n → before_in g.marks n m ≡ false → IsAcyclic (record { problem = g.problem; marks = marks; loads = g.loads })
pair-ordered g marks m n ordered count is is_m is_n differ off =
    record {
      few = ordered.few;
      count = count ∙ ordered.count;
      transitive = subst (λ (f : ℕ → ℕ → Bool). IsTransitive g.problem f) (sym is) (pair-transitive g.problem (before_in g.marks) m n is_m is_n ordered.transitive);
      no_ring = subst (λ (f : ℕ → ℕ → Bool). HasNoRing g.problem f) (sym is) (pair-no_ring g.problem (before_in g.marks) m n is_m is_n ordered.transitive ordered.no_ring differ off);
      up = λ (load : KnownArc) among. subst (λ (f : ℕ → ℕ → Bool). is_arc_up g.problem f load.from load.to ≡ true) (sym is) (up-pair g.problem (before_in g.marks) m n load.from load.to (ordered.up load among));
      short = ordered.short;
    }

-- AS IT IS KEPT, with a pair more

-- now as others see it; what stands before each number is `marks` then, and what stands after it was `after` and is `after2`
pub record IsPairTaken (g now : Ground) (after marks after2 : List Set) : Type 0 where
  pub order : IsAcyclic (record { problem = g.problem; marks = marks; loads = g.loads })
  pub apart : (k : ℕ) → IsNumber now.problem k → has k (numbers_in (at marks k)) ≡ false
  pub more : (i j : ℕ) → before_in g.marks i j ≡ true → before_in marks i j ≡ true
  pub turned : (i j : ℕ) → before_in after2 j i ≡ before_in marks i j
  pub after_count : length after2 ≡ length g.problem.block
  pub after_apart : (k : ℕ) → IsNumber now.problem k → has k (numbers_in (at after2 k)) ≡ false
  pub after_more : (i j : ℕ) → before_in after i j ≡ true → before_in after2 i j ≡ true

pub pair-taken : (g now : Ground) → g ≡ now → (m n : ℕ) (after slice slice2 marks after2 : List Set) → IsAcyclic g → length after ≡ length g.problem.block → ((i j : ℕ) → before_in after j i ≡ before_in g.marks i j) →
    IsNumber now.problem m → IsNumber now.problem n → m ≢ n → before_in now.marks n m ≡ false → slice ≡ g.marks → slice2 ≡ after →
    length marks ≡ length slice → before_in marks ≡ with_pair (before_in slice) m n → length after2 ≡ length slice2 → before_in after2 ≡ with_pair (before_in slice2) n m → IsPairTaken g now after marks after2
pair-taken g now same m n after slice slice2 marks after2 ordered count_after turned is_m is_n differ off is is2 count pairs count2 pairs2 =
    let its : (k : ℕ) → IsNumber now.problem k → IsNumber g.problem k = λ k is_k. subst (λ (o : Ground). IsNumber o.problem k) (sym same) is_k in
    let its_off : before_in g.marks n m ≡ false = subst (λ (o : Ground). before_in o.marks n m ≡ false) (sym same) off in
    let its_pairs : before_in marks ≡ with_pair (before_in g.marks) m n = pairs ∙ ap (λ (ms : List Set). with_pair (before_in ms) m n) is in
    let after_pairs : before_in after2 ≡ with_pair (before_in after) n m = pairs2 ∙ ap (λ (ms : List Set). with_pair (before_in ms) n m) is2 in
    let after_count : length after2 ≡ length g.problem.block = count2 ∙ (ap (λ (ms : List Set). length ms) is2 ∙ count_after) in
    let order : IsAcyclic (record { problem = g.problem; marks = marks; loads = g.loads }) = pair-ordered g marks m n ordered (count ∙ ap (λ (ms : List Set). length ms) is) its_pairs (its m is_m) (its n is_n) differ its_off in
    let now_turned : (i j : ℕ) → before_in after2 j i ≡ before_in marks i j = turned-pair g.problem g.marks after ordered.count count_after marks after2 m n turned its_pairs after_pairs in
    record {
      order = order;
      apart = λ k is_k. apart-marked g.problem marks order.count order.no_ring k (its k is_k);
      more = pair-more g.marks marks m n its_pairs;
      turned = now_turned;
      after_count = after_count;
      after_apart = λ k is_k. apart-marked g.problem after2 after_count (turned-ring g.problem marks after2 now_turned order.no_ring) k (its k is_k);
      after_more = pair-more after after2 n m after_pairs;
    }

-- A PAIR THAT IS KNOWN says nothing new

module _ (g : Ground) (ordered : IsAcyclic g) (m n : ℕ) (is_m : IsNumber g.problem m) (is_n : IsNumber g.problem n) (first : before_in g.marks m n ≡ true) where
  abbrev before : ℕ → ℕ → Bool
  before = before_in g.marks

  number-of : (j : ℕ) → 1 ≤ j → j ≤ length g.marks → IsNumber g.problem j
  number-of j low high = (low, omega (arith, high, ordered.count))

  up-to_n : (i : ℕ) → (i == m || before i m) ≡ true → before i n ≡ true
  up-to_n i is =
      elim (or_cases (i == m) (before i m) is) [
        | inl here ↦ ap (λ k. before k n) (eqb-true i m here) ∙ first
        | inr past ↦ ordered.transitive i m n (number-of i (before-range g.marks i m past).0 (before-range g.marks i m past).1) is_m is_n past first
      ]

  across : (i j : ℕ) → (i == m || before i m) ≡ true → (j == n || before n j) ≡ true → before i j ≡ true
  across i j is_i is_j =
      elim (or_cases (j == n) (before n j) is_j) [
        | inl here ↦ ap (before i) (eqb-true j n here) ∙ up-to_n i is_i
        | inr past ↦
            let up : before i n ≡ true = up-to_n i is_i in
            ordered.transitive i n j (number-of i (before-range g.marks i n up).0 (before-range g.marks i n up).1) is_n (number-of j (before-range g.marks n j past).2 (before-range g.marks n j past).3) up past
      ]

  pair-same : (i j : ℕ) → with_pair before m n i j ≡ before i j
  pair-same i j =
      elim (cases_Bool ((i == m || before i m) && (j == n || before n j))) [
        | inl both ↦ (let (is_i, is_j) = and_parts (i == m || before i m) (j == n || before n j) both in or-yes (before i j) ((i == m || before i m) && (j == n || before n j)) (across i j is_i is_j))
        | inr off ↦ or-no (before i j) ((i == m || before i m) && (j == n || before n j)) off
      ]

  pub known-pair : known_of g ≡ with_line (known_of g) (Pair m n)
  known-pair = ap (λ (f : ℕ → ℕ → Bool). record { before = f; loads = g.loads }) (sym (fun_ext (λ i. fun_ext (λ j. pair-same i j))))
