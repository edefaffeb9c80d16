use Rattle.std.proofs.Common.{◌++◌, ◌∙◌, ap, codes, decimal}
use Rattle.std.proofs.lemmas.Result.{IfOk-equal}
use Rattle.s66_reasons.specs.{Work, from_words, until_words}
use Rattle.s66_reasons.proofs.Texts.{joined}
use Rattle.s66_reasons.proofs.facts.push_load_sentence.Goals as goal

pub returns : goal.returns
returns c =
    let out = c.args.out.now.items in
    let from = from_words c.args.from.now in
    let later = codes " it is " ++ decimal c.args.after ++ codes " or more until " in
    IfOk-equal c.push_until.result _ _ _ c.push_until.ensures
    (joined out _ _ from later _ c.in_ok-push_from.ensures c.in_ok-push_between.ensures
    ∙ ap (λ (w : Work). out ++ (from ++ later ++ until_words w c.args.to.now c.args.after c.args.wait c.args.numbers.now)) c.of.ensures)
