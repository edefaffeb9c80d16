use Rattle.std.proofs.Common.{IfOk, Option, subst, sym}
use Rattle.s66_command.specs.{Strategy}
use Rattle.s66_answer.specs.{Output}
use Rattle.s66_program.specs.{IsWhyOutput}
use Rattle.s66_program.proofs.why_text.why_output.Goals as goal

pub returns-in-Some : goal.returns-in-Some
returns-in-Some g c =
    subst (λ (order : Option Strategy). IfOk c.text_of_answers.result (λ (output : Output). IsWhyOutput c.args.profile.now order c.args.text c.args.only c.args.source.now output.text.items output.status)) (sym c.in-Some.is)
    c.text_of_answers.ensures
