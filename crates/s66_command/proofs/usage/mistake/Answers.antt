use Rattle.std.proofs.Common.{◌∙◌, ap, option_map, sym}
use Rattle.s66_command.specs.{in_row, subcommands}
use Rattle.s66_command.proofs.Named.{found-named}
use Rattle.s66_command.proofs.usage.mistake.Goals as goal

pub unreachable-requires : goal.unreachable-requires
unreachable-requires c = found-named subcommands c.args.name.now c.requires (sym c.row_named.ensures ∙ ap (option_map in_row) c.in_default.is)
