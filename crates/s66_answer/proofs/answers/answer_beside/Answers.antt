use Rattle.std.proofs.Common.{◌∙◌, arith, sym}
use Rattle.s66_answer.proofs.SearchAnswers.{beside-deep}
use Rattle.s66_answer.proofs.answers.answer_beside.Goals as goal

pub with_faster-better-requires : goal.with_faster-better-requires
with_faster-better-requires c = c.in_ok-found.ensures.best.problem ∙ sym c.requires.answer.1

pub found_or_shown-requires-clause-made : goal.found_or_shown-requires-clause-made
found_or_shown-requires-clause-made c = omega (arith, c.saturating_add-beside.ensures, c.requires.looked.made, c.ranges.made)

pub returns : goal.returns
returns c =
    let better = c.with_faster-better.ensures in
    let found = c.requires.answer in
    c.found_or_shown.ensures c.args.strategy c.requires.deep (better.rule ∙ found.0, better.problem ∙ found.1, better.budget ∙ found.2)
    (beside-deep c.args.strategy c.saturating_add-beside.result c.requires.deep (omega (arith, c.saturating_add-beside.ensures, c.requires.made, c.in_ok-found.ensures.splits)))
