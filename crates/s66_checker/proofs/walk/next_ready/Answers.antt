use Rattle.std.proofs.Common.{◌∙◌, sym, arith}
use Rattle.s66_model.proofs.Later.{next-found, next-skipped}
use Rattle.s66_checker.proofs.walk.next_ready.Goals as goal

pub returns-then-is_ready : goal.returns-then-is_ready
returns-then-is_ready c =
    let p = c.args.prefix.now in
    next-found p.problem.block p.numbers c.loop-number.number c.args.n (omega (arith, c.count-count.ensures.value)) (sym c.is_ready.ensures ∙ c.if-is_ready.true) c.loop-number.invariant

pub loop-number-preserved : goal.loop-number-preserved
loop-number-preserved c =
    let p = c.args.prefix.now in
    next-skipped p.problem.block p.numbers c.loop-number.number c.args.n (omega (arith, c.count-count.ensures.value)) (sym c.is_ready.ensures ∙ c.if-is_ready.false) c.loop-number.invariant
