use Rattle.std.specs.Str.Parse.{ExplainsUnsignedError, HasUnsignedDigitsIfOk, ParsesUnsigned}
use Rattle.std.proofs.Common.{arith, codes, refl}
use Rattle.clap.specs.Words.{found_of}
use Rattle.s66_model.specs.{WORKERS_LIMIT}
use Rattle.s66_command.specs.{WORKERS_DEFAULT, IsNumberOrDefault, Limits}
use Rattle.s66_command.proofs.GivenOptions.{number-given}
use Rattle.s66_command.proofs.OptionRanges.{number-read}
use Rattle.s66_command.proofs.options.workers_in.Goals as goal

pub returns : goal.returns
returns c = λ words is.
    let limits : Limits = record { least = 1; most = WORKERS_LIMIT } in
    number-given (found_of c.args.matches.now) words (codes "workers") (codes "workers") limits (λ text. IsNumberOrDefault limits WORKERS_DEFAULT text c.unwrap_or.result) refl is refl
    (number-read (codes "workers") limits _ (λ t r. ParsesUnsigned 8 10 t r × ExplainsUnsignedError 10 t r × HasUnsignedDigitsIfOk t r) 8 (λ t r gives. gives.0) (omega arith) WORKERS_DEFAULT _
    c.get_one.result c.unwrap_or.result (omega arith) (omega arith) c.get_one.ensures.none c.get_one.ensures.value c.unwrap_or.ensures)
