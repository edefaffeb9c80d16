use Rattle.std.proofs.Common.{codes, refl}
use Rattle.clap.specs.Words.{found_of}
use Rattle.s66_command.proofs.GivenOptions.{profile-of}
use Rattle.s66_command.proofs.options.profile_in.Goals as goal

pub returns : goal.returns
returns c = λ words is. profile-of (found_of c.args.matches.now) words (codes "profile") c.get_str.result is refl c.get_str.ensures
