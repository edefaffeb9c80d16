use Rattle.std.proofs.Common.{map}
use Rattle.std.proofs.lemmas.Result.{MatchResult-weaker}
use Rattle.clap.specs.Words.{app_of}
use Rattle.s66_command.proofs.Named.{taken}
use Rattle.s66_command.proofs.Refused.{refused}
use Rattle.s66_command.proofs.usage.command_of.Goals as goal

pub asked-requires : goal.asked-requires
asked-requires g c =
    let words = map g.S.AsStr.text c.args.words.now in
    (words, taken c.in-Ok.matches (app_of c.in_ok-program.field-0) words c.in_ok-program.ensures.app c.in-Ok.ensures.kinds c.in-Ok.ensures.matches)

pub returns-in-Ok : goal.returns-in-Ok
returns-in-Ok g c =
    let words = map g.S.AsStr.text c.args.words.now in
    let is = taken c.in-Ok.matches (app_of c.in_ok-program.field-0) words c.in_ok-program.ensures.app c.in-Ok.ensures.kinds c.in-Ok.ensures.matches in
    record {
      ok = MatchResult-weaker c.asked.result (c.asked.ensures words is) (λ _ asks. asks) (λ _ _. tt);
      err = MatchResult-weaker c.asked.result (c.asked.ensures words is) (λ _ _. tt) (λ _ refuses. refuses);
    }

pub returns-in-Err-clause-err : goal.returns-in-Err-clause-err
returns-in-Err-clause-err g c =
    refused c.usage_of.result c.in-Err.error (app_of c.in_ok-program.field-0) (map g.S.AsStr.text c.args.words.now) c.in_ok-program.ensures.app
    c.in-Err.ensures.kinds c.usage_of.ensures
