use Rattle.std.proofs.Common.{sym, subst, take_all}
use Rattle.s66_command.specs.{OptionRow, in_rows, IsCommandOf, with_options}
use Rattle.s66_command.proofs.CommandLine.{fold-one, with-arg}
use Rattle.s66_command.proofs.app.with_options.Goals as goal

pub loop-name-preserved : goal.loop-name-preserved
loop-name-preserved c = λ a is.
    subst (λ b. IsCommandOf b c.in_ok-command.command) (sym (fold-one _ (λ (o : OptionRow). (o.0.now, o.1)) a c.args.options.now c.loop-name.name-index _ c.loop-name-test.true))
    (with-arg _ _ c.loop-name.command c.in_ok-command.command c.argument.result (c.loop-name.invariant a is) c.argument.ensures.0 c.argument.ensures.1 c.in_ok-command.ensures)

pub returns : goal.returns
returns c = λ a is.
    subst (λ os. IsCommandOf (with_options a (in_rows os)) c.loop-name.command) (take_all c.loop-name.name-index c.args.options.now c.loop-name-test.false) (c.loop-name.invariant a is)
