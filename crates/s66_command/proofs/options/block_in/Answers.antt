use Rattle.std.specs.Str.Parse.{ExplainsUnsignedError, HasUnsignedDigitsIfOk, ParsesUnsigned}
use Rattle.std.proofs.Common.{arith, codes, refl}
use Rattle.clap.specs.Words.{found_of}
use Rattle.s66_command.specs.{BLOCK_NUMBER_LIMIT, IsNumberIn, Limits}
use Rattle.s66_command.proofs.GivenOptions.{number-given}
use Rattle.s66_command.proofs.OptionRanges.{number-or_none}
use Rattle.s66_command.proofs.options.block_in.Goals as goal

pub returns : goal.returns
returns c = λ words is.
    let limits : Limits = record { least = 1; most = BLOCK_NUMBER_LIMIT } in
    number-given (found_of c.args.matches.now) words (codes "block") (codes "block") limits (λ text. IsNumberIn limits text c.get_one.result) refl is refl
    (number-or_none (codes "block") limits _ (λ t r. ParsesUnsigned 32 10 t r × ExplainsUnsignedError 10 t r × HasUnsignedDigitsIfOk t r) 32 (λ t r gives. gives.0) (omega arith) _ c.get_one.result
    c.get_one.ensures.none c.get_one.ensures.value)
