use Rattle.std.proofs.Common.{ℕ, Bool, ◌∙◌, ap, sym, length, arith}
use Rattle.arrayvec.specs.ArrayVec.{ArrayVec}
use Rattle.s66_model.specs.{is_ready}
use Rattle.s66_checker.proofs.NumbersInTurn.{filter_taken, filter_passed}
use Rattle.s66_checker.proofs.leaf.ready.Goals.{then-is_ready, else-is_ready}
use Rattle.s66_checker.proofs.leaf.ready.Goals as goal

pub loop-position-preserved : goal.loop-position-preserved
loop-position-preserved c =
    let test : ℕ → Bool = is_ready c.args.prefix.now.problem.block c.args.prefix.now.numbers in
    let inv = c.loop-position.invariant in
    record {
      ready = elim c.if-is_ready.branch [
        | then-is_ready w ↦
            ap (λ (v : ArrayVec ℕ). v.items) w.ready-is ∙ w.push.ensures.items
            ∙ filter_taken test c.loop-position.position c.loop-position.ready.items inv.ready (sym c.is_ready.ensures ∙ w.if-is_ready.true)
        | else-is_ready w ↦
            ap (λ (v : ArrayVec ℕ). v.items) w.ready-is
            ∙ filter_passed test c.loop-position.position c.loop-position.ready.items inv.ready (sym c.is_ready.ensures ∙ w.if-is_ready.false)
      ];
      few = elim c.if-is_ready.branch [
        | then-is_ready w ↦ omega (arith, inv.few, ap (λ (v : ArrayVec ℕ). length v.items) w.ready-is, w.push.ensures.len)
        | else-is_ready w ↦ omega (arith, inv.few, ap (λ (v : ArrayVec ℕ). length v.items) w.ready-is)
      ];
    }
