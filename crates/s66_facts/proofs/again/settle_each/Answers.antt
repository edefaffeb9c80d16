use Rattle.std.proofs.Common.{ℕ, ◌+◌, ◌≡◌, ◌≤◌, ◌<◌, true, length, sym, subst, arith, inl, inr, ◌∙◌}
use Rattle.s66_isa.specs.{has, numbers_in}
use Rattle.s66_moments.specs.{IsNumber}
use Rattle.s66_facts.specs.{rank}
use Rattle.s66_facts.proofs.Told.{rank-less, nth-range, seen-none, seen-cases, seen-all}
use Rattle.s66_facts.proofs.again.settle_each.Goals as goal

pub loop-position-init : goal.loop-position-init
loop-position-init c = record {
  right = λ are. are;
  old = λ h up. up;
  new = λ h up n is_n seen le. absurd (seen-none c.args.direction (length c.args.graph.now.problem.block) n is_n.0 is_n.1 seen);
}

pub settle-done-requires-clause-n : goal.settle-done-requires-clause-n
settle-done-requires-clause-n c =
    let g = c.args.graph.now in
    subst (IsNumber g.problem) (sym c.number_after-n.ensures) (nth-range c.args.direction (length g.problem.block) c.loop-position.position (omega (arith, c.loop-position-test.true, c.count-position-end.ensures.value)))

pub loop-position-preserved : goal.loop-position-preserved
loop-position-preserved c =
    let told = c.settle-done.ensures in
    let old = c.loop-position.invariant in
    let g = c.args.graph.now in
    let d = c.args.direction in
    let position = c.loop-position.position in
    let p : ℕ = c.number_after-n.result in
    let less : position < length g.problem.block = omega (arith, c.loop-position-test.true, c.count-position-end.ensures.value) in
    let is_p : IsNumber g.problem p = subst (IsNumber g.problem) (sym c.number_after-n.ensures) (nth-range d (length g.problem.block) position less) in
    record {
      right = λ are. told.right (old.right are);
      old = λ h up k is_k le. told.kept k is_k (old.old h up k is_k le) (λ first. old.old h up p is_p (omega (arith, le, rank-less g c.requires.ordered d p k is_p is_k first)));
      new = λ h up k is_k within le. elim (seen-cases d (length g.problem.block) k position less within) [
        | inl past ↦ told.kept k is_k (old.new h up k is_k past le) (λ first. old.old h up p is_p (omega (arith, le, rank-less g c.requires.ordered d p k is_p is_k first)))
        | inr here ↦
            let same : p ≡ k = c.number_after-n.ensures ∙ here in
            let its : rank d g p ≤ h + 1 = subst (λ i. rank d g i ≤ h + 1) (sym same) le in
            subst (λ i. has i (numbers_in c.settle-done.result) ≡ true) same
            (told.ready (λ m is_m first. old.old h up m is_m (omega (arith, its, rank-less g c.requires.ordered d m p is_m is_p first))))
      ];
    }

pub returns-clause-more : goal.returns-clause-more
returns-clause-more c = λ h up n is_n le.
    c.loop-position.invariant.new h up n is_n (seen-all c.args.direction (length c.args.graph.now.problem.block) n c.loop-position.position is_n.0 is_n.1 (omega (arith, c.loop-position-test.false, c.count-position-end.ensures.value))) le
