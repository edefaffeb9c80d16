use Rattle.std.proofs.Common.{◌∙◌, arith}
use Rattle.s66_answer.proofs.SearchAnswers.{beside-deep}
use Rattle.s66_answer.proofs.answers.answer_after.Goals as goal

pub returns-in-None : goal.returns-in-None
returns-in-None c =
    let near = c.nearest.ensures in
    let ended = c.in_ok-answer.ensures in
    let searched = c.requires.search in
    c.by_search.ensures c.args.strategy c.args.profile.now c.args.block.now (near.rule ∙ (ended.rule ∙ searched.0), near.problem ∙ (ended.problem ∙ searched.1), near.budget ∙ (ended.budget ∙ searched.2))
    (beside-deep c.args.strategy c.in_ok-look.look.splits c.requires.deep (omega (arith, c.in_ok-look.ensures.splits)))
