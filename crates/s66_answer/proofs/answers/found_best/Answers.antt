use Rattle.std.proofs.Common.{◌∙◌, arith, refl}
use Rattle.s66_answer.proofs.SearchAnswers.{beside-deep}
use Rattle.s66_answer.proofs.answers.found_best.Goals as goal

pub returns-then-not-is_printed : goal.returns-then-not-is_printed
returns-then-not-is_printed c =
    λ strategy deep searched.
    let near = c.nearest-answer.ensures in
    let ended = c.in_ok-found.ensures in
    c.by_search.ensures strategy c.args.profile.now c.args.block.now (near.rule ∙ (ended.rule ∙ searched.0), near.problem ∙ (ended.problem ∙ searched.1), near.budget ∙ (ended.budget ∙ searched.2)) (omega arith, λ plain. refl)

pub returns-in-Some : goal.returns-in-Some
returns-in-Some c =
    λ strategy deep searched.
    let near = c.nearest-answer.ensures in
    let ended = c.in_ok-found.ensures in
    c.in_fewer_lines.ensures strategy deep (near.rule ∙ (ended.rule ∙ searched.0), near.problem ∙ (ended.problem ∙ searched.1), near.budget ∙ (ended.budget ∙ searched.2))
    (beside-deep strategy c.in_ok-look.look.splits deep (omega (arith, c.in_ok-look.ensures.splits, c.requires.most, searched.2)))

pub returns-in-None : goal.returns-in-None
returns-in-None c =
    λ strategy deep searched.
    let near = c.nearest-answer.ensures in
    let ended = c.in_ok-found.ensures in
    c.by_search-in-None.ensures strategy c.args.profile.now c.args.block.now (near.rule ∙ (ended.rule ∙ searched.0), near.problem ∙ (ended.problem ∙ searched.1), near.budget ∙ (ended.budget ∙ searched.2))
    (beside-deep strategy c.in_ok-look.look.splits deep (omega (arith, c.in_ok-look.ensures.splits, c.requires.most, searched.2)))
