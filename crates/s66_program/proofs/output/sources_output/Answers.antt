use Rattle.std.proofs.Common.{Bool, subst}
use Rattle.s66_program.specs.{IsViewOutput}
use Rattle.s66_program.proofs.output.sources_output.Goals as goal

pub returns-clause-ok : goal.returns-clause-ok
returns-clause-ok c =
    let output = c.in_ok-output.output in
    subst (λ (cut : Bool). IsViewOutput c.args.profile.now c.args.view cut c.args.input.now output.text.items output.status) c.reads_cut.ensures c.in_ok-output.ensures.ok
