use Rattle.std.proofs.Common.{◌∙◌}
use Rattle.clap.specs.Words.{found_of}
use Rattle.s66_command.proofs.GivenOptions.{value-of}
use Rattle.s66_command.proofs.options.has_value.Goals as goal

pub returns : goal.returns
returns c = λ words is. c.is_some.ensures ∙ value-of (found_of c.args.matches.now) words c.args.name.now c.get_str.result is c.get_str.ensures
