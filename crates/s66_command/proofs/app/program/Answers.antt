use Rattle.std.proofs.Common.{◌≡◌, List, map, sym, subst, take_all}
use Rattle.clap.specs.Words.{app_of}
use Rattle.s66_command.specs.{SubcommandRow, in_row, IsCommandOf, start_app, with_subcommands}
use Rattle.s66_command.proofs.CommandLine.{fold-one, with-subcommand}
use Rattle.s66_command.proofs.app.program.Goals as goal

pub loop-row-preserved : goal.loop-row-preserved
loop-row-preserved c =
    subst (λ b. IsCommandOf b c.in_ok-program.program) (sym (fold-one _ in_row start_app _ c.loop-row.row-index _ c.loop-row-test.true))
    (with-subcommand _ _ c.loop-row.program c.in_ok-added.added c.in_ok-program.program c.loop-row.invariant c.in_ok-added.ensures c.in_ok-program.ensures)

pub returns-clause-app : goal.returns-clause-app
returns-clause-app c =
    subst (λ (rows : List SubcommandRow). app_of c.loop-row.program ≡ with_subcommands start_app (map in_row rows)) (take_all c.loop-row.row-index _ c.loop-row-test.false) c.loop-row.invariant.0
