use Rattle.std.proofs.Common.{◌∙◌, arith, inr}
use Rattle.s66_answer.proofs.answers.found_or_shown.Goals as goal

pub returns-then-bound : goal.returns-then-bound
returns-then-bound c =
    λ strategy deep for beside.
    let near = c.nearest-near.ensures in
    c.by_search.ensures strategy c.args.profile.now c.args.block.now (near.rule ∙ for.0, near.problem ∙ for.1, near.budget ∙ for.2) beside

pub returns : goal.returns
returns c =
    λ strategy deep for beside.
    let near = c.nearest-near.ensures in
    c.shown_or_searched.ensures strategy deep (near.rule ∙ for.0, near.problem ∙ for.1, near.budget ∙ for.2) beside (inr (omega (arith, c.if-bound.false, c.bound.ensures, c.bound-2.ensures.value)))
