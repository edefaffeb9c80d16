use Rattle.std.proofs.Common.{ℕ, ◌+◌, ◌≡◌, ◌≤◌, ◌&&◌, Bool, ◌∙◌, ap, sym, subst, length, arith}
use Rattle.arrayvec.specs.ArrayVec.{ArrayVec}
use Rattle.s66_isa.specs.{same_kind}
use Rattle.s66_model.specs.{row_at, is_remaining}
use Rattle.s66_checker.proofs.NumbersInTurn.{filter_taken, filter_passed}
use Rattle.s66_reasons.specs.{AreWithin}
use Rattle.s66_reasons.proofs.Listed.{within-push}
use Rattle.s66_reasons.proofs.units.numbers_of.Goals.{then-needs, else-needs}
use Rattle.s66_reasons.proofs.units.numbers_of.Goals as goal

pub loop-position-preserved : goal.loop-position-preserved
loop-position-preserved c =
    let q = c.args.prefix.now in
    let b = q.problem in
    let test : ℕ → Bool = λ n. is_remaining b.block q.numbers n && same_kind (row_at b n).kind c.args.kind in
    let p = c.loop-position.position in
    let inv = c.loop-position.invariant in
    let tested : test (p + 1) ≡ c.needs.result = sym c.needs.ensures in
    let high : p + 1 ≤ length b.block = omega (arith, c.count-position-end.ensures.value, c.loop-position-test.true) in
    let low : 1 ≤ p + 1 = omega arith in
    record {
      value = elim c.if-needs.branch [
        | then-needs w ↦
            ap (λ (v : ArrayVec ℕ). v.items) w.numbers-is ∙ w.push.ensures.items
            ∙ filter_taken test p c.loop-position.numbers.items inv.value (tested ∙ w.if-needs.true)
        | else-needs w ↦
            ap (λ (v : ArrayVec ℕ). v.items) w.numbers-is
            ∙ filter_passed test p c.loop-position.numbers.items inv.value (tested ∙ w.if-needs.false)
      ];
      within = elim c.if-needs.branch [
        | then-needs w ↦
            subst (AreWithin (length b.block)) (sym (ap (λ (v : ArrayVec ℕ). v.items) w.numbers-is ∙ w.push.ensures.items))
            (within-push (length b.block) c.loop-position.numbers.items (p + 1) inv.within low high)
        | else-needs w ↦ subst (AreWithin (length b.block)) (sym (ap (λ (v : ArrayVec ℕ). v.items) w.numbers-is)) inv.within
      ];
      few = elim c.if-needs.branch [
        | then-needs w ↦ omega (arith, inv.few, ap (λ (v : ArrayVec ℕ). length v.items) w.numbers-is, w.push.ensures.len)
        | else-needs w ↦ omega (arith, inv.few, ap (λ (v : ArrayVec ℕ). length v.items) w.numbers-is)
      ];
    }
