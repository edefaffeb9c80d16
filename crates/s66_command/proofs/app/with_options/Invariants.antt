use Rattle.std.proofs.Common.{take}
use Rattle.clap.specs.Words.{App}
use Rattle.s66_command.specs.{in_rows, IsCommandOf, with_options}
use Rattle.s66_command.proofs.app.with_options.Given as goal

-- the options so far are added
abbrev pub invariant-loop-name : goal.invariant-loop-name
invariant-loop-name l = (a : App) → IsCommandOf a l.fn.command → IsCommandOf (with_options a (in_rows (take l.name-index l.fn.options))) l.command
