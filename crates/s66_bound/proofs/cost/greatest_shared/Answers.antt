use Rattle.std.proofs.Common.{ℕ, cond, arith, sym, ap, ◌∙◌}
use Rattle.std.proofs.lemmas.Bool.{cond-true, cond-false}
use Rattle.s66_isa.specs.{Write, has_reg, registers_in}
use Rattle.s66_time.proofs.Loops.{greatest_more}
use Rattle.s66_bound.proofs.cost.greatest_shared.Goals.{then-has, else-has}
use Rattle.s66_bound.proofs.cost.greatest_shared.Goals as goal

pub loop-write-preserved : goal.loop-write-preserved
loop-write-preserved c =
    let x = c.write.inside.reg in
    let used = registers_in c.args.used.now in
    let f : Write → ℕ = λ w. cond (has_reg w.reg used) w.latency 0 in
    let next = greatest_more f c.args.writes.now c.loop-write.write-index c.write-item.result c.loop-write-test.true c.write-item.is in
    let same = ap f c.write.view_is in
    elim c.if-has.branch [
      | then-has w ↦ omega (arith, w.last-is, w.max-last.ensures, c.loop-write.invariant, next, same, cond-true {A = ℕ} (has_reg x used) c.write.inside.latency 0 (sym c.has.ensures ∙ w.if-has.true))
      | else-has w ↦ omega (arith, w.last-is, c.loop-write.invariant, next, same, cond-false {A = ℕ} (has_reg x used) c.write.inside.latency 0 (sym c.has.ensures ∙ w.if-has.false))
    ]
