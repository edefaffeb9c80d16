use Rattle.std.proofs.Common.{◌∙◌}
use Rattle.s66_answer.proofs.answers.found_by_search.Goals as goal

pub returns : goal.returns
returns c =
    λ strategy p searched beside.
    let near = c.nearest.ensures in
    let ended = c.in_ok-answer.ensures in
    c.by_search.ensures strategy p c.args.block.now (near.rule ∙ (ended.rule ∙ searched.0), near.problem ∙ (ended.problem ∙ searched.1), near.budget ∙ (ended.budget ∙ searched.2)) beside
