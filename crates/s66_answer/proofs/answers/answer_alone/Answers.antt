use Rattle.std.proofs.Common.{◌∙◌, arith}
use Rattle.s66_answer.proofs.SearchAnswers.{beside-deep}
use Rattle.s66_answer.proofs.answers.answer_alone.Goals as goal

pub returns-then-is_best : goal.returns-then-is_best
returns-then-is_best c =
    let on = c.search.ensures in
    let new = c.in_ok-search.ensures in
    c.found_best.ensures c.args.strategy c.requires.deep (on.3 ∙ new.rule, on.0 ∙ new.problem, on.1 ∙ new.budget)

pub returns-in-None : goal.returns-in-None
returns-in-None c =
    let on = c.search.ensures in
    let new = c.in_ok-search.ensures in
    c.found_by_search.ensures c.args.strategy c.args.profile.now (on.3 ∙ new.rule, on.0 ∙ new.problem, on.1 ∙ new.budget)
    (beside-deep c.args.strategy c.in_ok-look.look.splits c.requires.deep (omega (arith, c.in_ok-look.ensures.splits)))
