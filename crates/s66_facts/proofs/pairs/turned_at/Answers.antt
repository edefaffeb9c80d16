use Rattle.std.proofs.Common.{◌+◌, ◌<◌, length, sym, subst, arith, ◌∙◌, ap}
use Rattle.s66_isa.specs.{has}
use Rattle.s66_facts.proofs.NearEach.{IsTurned, turned-none, turned-more, turned-past, turned-all, before-at}
use Rattle.s66_facts.proofs.pairs.turned_at.Goals.{then-has, else-has}
use Rattle.s66_facts.proofs.pairs.turned_at.Goals as goal

pub loop-position-init : goal.loop-position-init
loop-position-init c = turned-none c.args.before.now c.args.n c.empty-all.result (λ m. ap (has m) c.empty-all.ensures)

pub loop-position-preserved : goal.loop-position-preserved
loop-position-preserved c =
    let before = c.args.before.now in
    let n = c.args.n in
    let position = c.loop-position.position in
    let old = c.loop-position.all in
    let less : position < length before = omega (arith, c.loop-position-test.true) in
    let here = before-at before n position c.requires.n less c.marks_at.result c.marks_at.ensures in
    elim c.if-has.branch [
      | then-has w ↦ subst (IsTurned before n (position + 1)) (sym w.all-is) (turned-more before n position old w.with-all.result (here ∙ (sym c.has.ensures ∙ w.if-has.true)) w.with-all.ensures c.loop-position.invariant)
      | else-has w ↦ subst (IsTurned before n (position + 1)) (sym w.all-is) (turned-past before n position old (here ∙ (sym c.has.ensures ∙ w.if-has.false)) c.loop-position.invariant)
    ]

pub returns : goal.returns
returns c = turned-all c.args.before.now c.args.n c.loop-position.position c.loop-position.all (omega (arith, c.loop-position-test.false)) c.loop-position.invariant
