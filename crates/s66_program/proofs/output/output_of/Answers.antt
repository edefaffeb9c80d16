use Rattle.std.proofs.Common.{IfOk, subst, sym}
use Rattle.s66_command.specs.{Asked}
use Rattle.s66_answer.specs.{Output}
use Rattle.s66_program.specs.{IsAskedOutput}
use Rattle.s66_program.proofs.output.output_of.Goals as goal

pub returns-in-Sum : goal.returns-in-Sum
returns-in-Sum g c =
    let p = c.args.profile.now in
    let only = c.args.command.block in
    subst (λ (asked : Asked). IfOk c.sum_output.result (λ (output : Output). IsAskedOutput p asked only c.args.source.now output.text.items output.status)) (sym c.in-Sum.is) c.sum_output.ensures
