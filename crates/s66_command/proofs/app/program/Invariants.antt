use Rattle.std.proofs.Common.{map, take}
use Rattle.s66_command.specs.{in_row, IsCommandOf, start_app, with_subcommands}
use Rattle.s66_command.proofs.app.program.Given as goal

-- the subcommands so far are added
abbrev pub invariant-loop-row : goal.invariant-loop-row
invariant-loop-row l = IsCommandOf (with_subcommands start_app (map in_row (take l.row-index l.row-items))) l.program
