use Rattle.std.specs.Str.Parse.{ExplainsUnsignedError, HasUnsignedDigitsIfOk, ParsesUnsigned}
use Rattle.std.proofs.Common.{arith, codes, refl}
use Rattle.clap.specs.Words.{found_of}
use Rattle.s66_model.specs.{BUDGET_LIMIT}
use Rattle.s66_command.specs.{NODES_DEFAULT, IsNumberOrDefault, Limits}
use Rattle.s66_command.proofs.GivenOptions.{number-given}
use Rattle.s66_command.proofs.OptionRanges.{number-read}
use Rattle.s66_command.proofs.options.nodes_in.Goals as goal

pub returns : goal.returns
returns c = λ words is.
    let limits : Limits = record { least = 0; most = BUDGET_LIMIT } in
    number-given (found_of c.args.matches.now) words (codes "nodes") (codes "nodes") limits (λ text. IsNumberOrDefault limits NODES_DEFAULT text c.unwrap_or.result) refl is refl
    (number-read (codes "nodes") limits _ (λ t r. ParsesUnsigned 32 10 t r × ExplainsUnsignedError 10 t r × HasUnsignedDigitsIfOk t r) 32 (λ t r gives. gives.0) (omega arith) NODES_DEFAULT _
    c.get_one.result c.unwrap_or.result (omega arith) (omega arith) c.get_one.ensures.none c.get_one.ensures.value c.unwrap_or.ensures)
