use Rattle.clap.specs.Words.{found_of}
use Rattle.s66_command.proofs.GivenOptions.{flag-of}
use Rattle.s66_command.proofs.options.flag_in.Goals as goal

pub returns : goal.returns
returns c = λ is-flag words is.
    flag-of (found_of c.args.matches.now) words c.get_flag.result c.args.flag.now is-flag is
    (c.get_flag.ensures.none, c.get_flag.ensures.value, c.get_flag.ensures.other)
