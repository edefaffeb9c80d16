use Rattle.std.proofs.Common.{arith, refl, sym}
use Rattle.s66_source.proofs.Frames.{few-framed, framed-after, framed-all, framed-first}
use Rattle.s66_source.proofs.PrintedLines.{accepted-is}
use Rattle.s66_source.proofs.frame.frame_of.Goals as goal

pub loop-line-init : goal.loop-line-init
loop-line-init c = framed-first c.args.source.now c.blocks-blocks.result.now _ c.new-parts.result.items c.blocks-blocks.ensures refl c.new-parts.ensures.items

pub overflow_add-number : goal.overflow_add-number
overflow_add-number c =
    let few = few-framed c.args.source.now c.lines-lines.result.now c.lines-lines.ensures c.loop-line.line-index c.loop-line.number c.loop-line.begun c.loop-line.parts.items c.line-item.result c.loop-line-test.true c.line-item.is c.loop-line.invariant in
    omega (arith, few.0)

pub pass_line-requires : goal.pass_line-requires
pass_line-requires c =
    (few-framed c.args.source.now c.lines-lines.result.now c.lines-lines.ensures c.loop-line.line-index c.loop-line.number c.loop-line.begun c.loop-line.parts.items c.line-item.result c.loop-line-test.true c.line-item.is c.loop-line.invariant).1

pub loop-line-preserved : goal.loop-line-preserved
loop-line-preserved c =
    framed-after c.args.source.now c.lines-lines.result.now c.lines-lines.ensures c.loop-line.line-index c.loop-line.number c.loop-line.begun c.loop-line.parts.items c.line-item.result
    c.blocks-blocks.result.now c.in_ok-begun.begun c.pass_line.new.parts.items c.loop-line-test.true c.line-item.is (sym (accepted-is c.args.source.now c.blocks-blocks.result.now c.blocks-blocks.ensures))
    c.in_ok-begun.ensures.parts c.in_ok-begun.ensures.begun c.loop-line.invariant

pub returns : goal.returns
returns c = framed-all c.args.source.now c.lines-lines.result.now c.loop-line.line-index c.loop-line.number c.loop-line.begun c.loop-line.parts.items c.lines-lines.ensures (omega (arith, c.loop-line-test.false)) c.loop-line.invariant
