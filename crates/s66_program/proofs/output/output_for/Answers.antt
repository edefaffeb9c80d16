use Rattle.std.proofs.Common.{IfOk, subst, sym}
use Rattle.s66_command.specs.{Asked}
use Rattle.s66_program.specs.{Finished, IsAskedOutput, source_in}
use Rattle.s66_program.proofs.output.output_for.Goals as goal

pub returns-in-Guard-clause-ok : goal.returns-in-Guard-clause-ok
returns-in-Guard-clause-ok g c = c.guard_output.ensures.ok c.args.profile.now

pub returns-in-Compare-clause-ok : goal.returns-in-Compare-clause-ok
returns-in-Compare-clause-ok g c =
    let p = c.args.profile.now in
    let input = c.args.input.now in
    let command = c.args.command in
    subst (λ (asked : Asked). IfOk c.sources_output.result (λ (f : Finished). IsAskedOutput p asked command.block (source_in command input) f.output.text.items f.output.status)) (sym c.in-Compare.is) c.sources_output.ensures.ok

pub returns-in-Pairs-clause-ok : goal.returns-in-Pairs-clause-ok
returns-in-Pairs-clause-ok g c =
    let p = c.args.profile.now in
    let input = c.args.input.now in
    let command = c.args.command in
    subst (λ (asked : Asked). IfOk c.sources_output-in-Pairs.result (λ (f : Finished). IsAskedOutput p asked command.block (source_in command input) f.output.text.items f.output.status)) (sym c.in-Pairs.is) c.sources_output-in-Pairs.ensures.ok
