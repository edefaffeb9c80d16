use Rattle.s66_line.proofs.OperationLaw.{among-at}
use Rattle.s66_why.specs.{Step}
use Rattle.s66_why.proofs.text.push_step_rows.Goals as goal

pub push_step_row-requires-clause-number : goal.push_step_row-requires-clause-number
push_step_row-requires-clause-number c =
    let none : Step = record { number = 0; adds = 0 } in
    c.requires.numbers _ (among-at c.args.steps.now c.loop-step.step-index none c.loop-step-test.true)
