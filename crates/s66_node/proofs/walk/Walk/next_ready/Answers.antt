use Rattle.std.proofs.Common.{◌+◌, ◌<◌, ◌≡◌, true, false, length, arith, ap, sym, ◌∙◌}
use Rattle.s66_model.specs.{is_ready}
use Rattle.s66_model.proofs.Later.{next-skipped, next-found}
use Rattle.s66_line.specs.{instrs_of}
use Rattle.s66_node.specs.Walked.{Walked}
use Rattle.s66_node.proofs.walk.Walk.next_ready.Goals as goal

pub returns-then-is_ready : goal.returns-then-is_ready
returns-then-is_ready c =
    let w = c.args.self.now in
    let m = c.loop-number.number in
    let within : m < length w.problem.block = omega (arith, c.loop-number-test.true, c.count-count.ensures.value, ap (λ block. length (instrs_of block)) c.block.ensures, ap (λ (x : Walked). length x.problem.block) c.self.view_is) in
    let is : is_ready w.problem.block w.numbers (m + 1) ≡ true = sym c.is_ready.ensures ∙ c.if-is_ready.true in
    next-found w.problem.block w.numbers m c.args.n within is c.loop-number.invariant

pub loop-number-preserved : goal.loop-number-preserved
loop-number-preserved c =
    let w = c.args.self.now in
    let m = c.loop-number.number in
    let within : m < length w.problem.block = omega (arith, c.loop-number-test.true, c.count-count.ensures.value, ap (λ block. length (instrs_of block)) c.block.ensures, ap (λ (x : Walked). length x.problem.block) c.self.view_is) in
    let off : is_ready w.problem.block w.numbers (m + 1) ≡ false = sym c.is_ready.ensures ∙ c.if-is_ready.false in
    next-skipped w.problem.block w.numbers m c.args.n within off c.loop-number.invariant
