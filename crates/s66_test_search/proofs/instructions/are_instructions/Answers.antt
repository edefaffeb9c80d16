use Rattle.std.proofs.Common.{rules}
use Rattle.s66_line.specs.{IsInstruction}
use Rattle.s66_test_search.proofs.InstructionTexts.{instructions-here, instructions-past}
use Rattle.s66_test_search.proofs.instructions.are_instructions.Goals as goal

pub loop-text-preserved : goal.loop-text-preserved
loop-text-preserved c = λ rest.
    let is : IsInstruction c.text-item.result.items = search rules in
    c.loop-text.invariant (instructions-here c.args.texts.now c.loop-text.text-index c.text-item.result c.loop-text-test.true c.text-item.is is rest)

pub returns : goal.returns
returns c = λ yes. c.loop-text.invariant (instructions-past c.args.texts.now c.loop-text.text-index c.loop-text-test.false)
