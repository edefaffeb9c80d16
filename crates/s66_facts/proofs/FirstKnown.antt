-- What is known before the first line: dependence alone, and no number outside of the block.
use Rattle.std.proofs.Common.{ℕ, zero, suc, ◌-◌, ◌≤◌, ◌≡◌, ◌||◌, ◌&&◌, Bool, false, true≢false, List, [], ◌∷◌, length, get_or, refl, sym, ap, arith, inl, inr, leb, ltb, ◌∙◌, subst, le-leb, leb-true}
use Rattle.std.proofs.Math.Path.{fun_ext}
use Rattle.std.proofs.lemmas.Bool.{and_parts, and_from, and_left, and_right, or_from, cases_Bool, cases_lt}
use Rattle.s66_isa.specs.{Instr, Reg, BLOCK_LIMIT, some_of, instr_at, idle_instr, has_reg, reads_of, results_of, memory_of, memory_pair, numbers, Set, has, numbers_in, no_set}
use Rattle.s66_isa.specs.declared.instr.Memory.TheVariants as memory
use Rattle.s66_isa.proofs.Lists.{get_or-past}
use Rattle.s66_model.specs.{Problem, conflict, depends, share}
use Rattle.s66_model.proofs.PushedBoth.{pair-none}
use Rattle.s66_moments.specs.{precedes, precedes_over, IsTransitive, HasNoRing, Known, known_first}
use Rattle.s66_moments.proofs.Preceders.{precedes-transitive, precedes-no_ring}
use Rattle.s66_facts.specs.{is_in, before_in, IsClosedUpTo, known_of, IsAcyclic}

-- OUTSIDE OF THE BLOCK nothing depends on anything

shares-nothing : (rs : List Reg) → some_of (λ r. has_reg r []) rs ≡ false
shares-nothing [] = refl
shares-nothing (r ∷ rs) = shares-nothing rs

idle-first : (n : Instr) → conflict idle_instr n ≡ false
unfolding conflict
idle-first n = refl

idle-second : (m : Instr) → conflict m idle_instr ≡ false
unfolding conflict
idle-second m =
    or_from (share (results_of m) [] || share (reads_of m) [] || share (results_of m) []) (memory_pair (memory_of m) memory.None)
    (or_from (share (results_of m) [] || share (reads_of m) []) (share (results_of m) []) (or_from (share (results_of m) []) (share (reads_of m) []) (shares-nothing (results_of m)) (shares-nothing (reads_of m))) (shares-nothing (results_of m)))
    (pair-none (memory_of m))

-- it is no number of the block
outside-instr : (block : List Instr) (n : ℕ) → leb 1 n && leb n (length block) ≡ false → instr_at block n ≡ idle_instr
outside-instr block zero off = refl
outside-instr block (suc i) off =
    elim (cases_lt i (length block)) [
      | inl less ↦ absurd (true≢false (sym (and_from (leb 1 (suc i)) (leb (suc i) (length block)) (le-leb 1 (suc i) (omega arith)) (le-leb (suc i) (length block) (omega (arith, less)))) ∙ off))
      | inr ge ↦ get_or-past block i idle_instr ge
    ]

module _ (block : List Instr) (o : ℕ) (off : leb 1 o && leb o (length block) ≡ false) where
  first-off : (n : ℕ) → depends block o n ≡ false
  first-off n = and_right (ltb o n) (conflict (instr_at block o) (instr_at block n)) (ap (λ i. conflict i (instr_at block n)) (outside-instr block o off) ∙ idle-first (instr_at block n))

  second-off : (m : ℕ) → depends block m o ≡ false
  second-off m = and_right (ltb m o) (conflict (instr_at block m) (instr_at block o)) (ap (λ i. conflict (instr_at block m) i) (outside-instr block o off) ∙ idle-second (instr_at block m))

  none-pass : (f : ℕ → Bool) → ((k : ℕ) → f k ≡ false) → (ks : List ℕ) → some_of f ks ≡ false
  none-pass f none [] = refl
  none-pass f none (k ∷ ks) = or_from (f k) (some_of f ks) (none k) (none-pass f none ks)

  first-over : (more n : ℕ) → precedes_over block more o n ≡ false
  first-over zero n = first-off n
  first-over (suc more) n =
      or_from (depends block o n) (some_of (λ k. precedes_over block more o k && depends block k n) (numbers block)) (first-off n)
      (none-pass (λ k. precedes_over block more o k && depends block k n) (λ k. and_left (precedes_over block more o k) (depends block k n) (first-over more k)) (numbers block))

  second-over : (more m : ℕ) → precedes_over block more m o ≡ false
  second-over zero m = second-off m
  second-over (suc more) m =
      or_from (depends block m o) (some_of (λ k. precedes_over block more m k && depends block k o) (numbers block)) (second-off m)
      (none-pass (λ k. precedes_over block more m k && depends block k o) (λ k. and_right (precedes_over block more m k) (depends block k o) (second-off k)) (numbers block))

-- WHAT IS KEPT IS DEPENDENCE

module _ (block : List Instr) (marks : List Set) (count : length marks ≡ length block) (closed : IsClosedUpTo block marks (length block)) where
  in-block : (n : ℕ) → is_in marks n ≡ leb 1 n && leb n (length block)
  in-block n = ap (λ k. leb 1 n && leb n k) count

  before-at : (m n : ℕ) → before_in marks m n ≡ precedes block m n
  before-at m n =
      elim (cases_Bool (is_in marks m)) [
        | inr off ↦ and_left (is_in marks m && is_in marks n) (has m (numbers_in (get_or marks (n - 1) no_set))) (and_left (is_in marks m) (is_in marks n) off) ∙ sym (first-over block m (sym (in-block m) ∙ off) (length block) n)
        | inl is_m ↦
            elim (cases_Bool (is_in marks n)) [
              | inr off ↦ and_left (is_in marks m && is_in marks n) (has m (numbers_in (get_or marks (n - 1) no_set))) (and_right (is_in marks m) (is_in marks n) off) ∙ sym (second-over block n (sym (in-block n) ∙ off) (length block) m)
              | inl is_n ↦
                  let (low_m, high_m) = and_parts (leb 1 m) (leb m (length marks)) is_m in
                  let (low, high) = and_parts (leb 1 n) (leb n (length marks)) is_n in
                  rw (is_m, is_n) (closed n m (leb-true 1 n low) (omega (arith, leb-true n (length marks) high, count)) (leb-true 1 m low_m))
            ]
      ]

  pub before-is : before_in marks ≡ precedes block
  before-is = fun_ext (λ m. fun_ext (λ n. before-at m n))

pub first-known : (b : Problem) (marks : List Set) → length marks ≡ length b.block → IsClosedUpTo b.block marks (length b.block) → known_of (record { problem = b; marks = marks; loads = [] }) ≡ known_first b
first-known b marks count closed = ap {B = Known} (λ f. record { before = f; loads = [] }) (before-is b.block marks count closed)

pub first-ordered : (b : Problem) (marks : List Set) → length b.block ≤ BLOCK_LIMIT → length marks ≡ length b.block → IsClosedUpTo b.block marks (length b.block) → IsAcyclic (record { problem = b; marks = marks; loads = [] })
first-ordered b marks few count closed =
    record {
      few = few;
      count = count;
      transitive = subst (λ f. IsTransitive b f) (sym (before-is b.block marks count closed)) (precedes-transitive b);
      no_ring = subst (λ f. HasNoRing b f) (sym (before-is b.block marks count closed)) (precedes-no_ring b);
      up = λ load among. absurd among;
      short = λ load among. absurd among;
    }
