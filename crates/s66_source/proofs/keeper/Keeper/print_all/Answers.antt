use Rattle.std.proofs.Common.{arith, refl}
use Rattle.s66_source.proofs.KeptLines.{few-printing, printing-after, printing-all, printing-first}
use Rattle.s66_source.proofs.keeper.Keeper.print_all.Goals as goal

pub loop-line-init : goal.loop-line-init
loop-line-init c = printing-first c.args.self.now _ c.args.out.now.items c.requires.accepted refl

pub overflow_add-number : goal.overflow_add-number
overflow_add-number c =
    let few = few-printing c.args.self.now c.lines-lines.result.now c.lines-lines.ensures c.loop-line.line-index c.loop-line.number c.loop-line.begun c.loop-line.out.items _ c.line-item.result c.loop-line-test.true c.line-item.is c.loop-line.invariant in
    omega (arith, few.0)

pub print_line-requires-clause-few : goal.print_line-requires-clause-few
print_line-requires-clause-few c =
    (few-printing c.args.self.now c.lines-lines.result.now c.lines-lines.ensures c.loop-line.line-index c.loop-line.number c.loop-line.begun c.loop-line.out.items _ c.line-item.result c.loop-line-test.true c.line-item.is c.loop-line.invariant).1

pub loop-line-preserved : goal.loop-line-preserved
loop-line-preserved c =
    printing-after c.args.self.now c.lines-lines.result.now c.lines-lines.ensures c.loop-line.line-index c.loop-line.number c.loop-line.begun c.loop-line.out.items _ c.line-item.result
    c.print_line.new.out.items c.in_ok-begun.begun c.loop-line-test.true c.line-item.is c.in_ok-begun.ensures.text c.in_ok-begun.ensures.begun c.loop-line.invariant

pub returns : goal.returns
returns c = printing-all c.args.self.now c.lines-lines.result.now c.loop-line.line-index c.loop-line.number c.loop-line.begun c.loop-line.out.items _ c.lines-lines.ensures (omega (arith, c.loop-line-test.false)) c.loop-line.invariant
