use Rattle.std.proofs.Common.{◌∙◌, arith, refl}
use Rattle.s66_answer.proofs.answers.answer_to.Goals as goal

pub returns : goal.returns
returns g c =
    let near = c.nearest.ensures in
    let ended = c.in_ok-answer.ensures in
    c.by_search.ensures c.args.strategy c.args.profile.now c.args.block.now (near.rule ∙ ended.rule, near.problem ∙ ended.problem, near.budget ∙ ended.budget) (omega arith, λ plain. refl)
