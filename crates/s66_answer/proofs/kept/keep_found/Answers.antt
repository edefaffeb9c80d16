use Rattle.s66_answer.specs.{answer_in}
use Rattle.s66_answer.proofs.kept.keep_found.Goals as goal

pub returns : goal.returns
returns g c =
    let s = c.args.searches.now in
    (answer_in c.args.found, c.is_best-best.ensures.answer s.strategy s.profile.now c.args.block.now c.requires.found, c.in_ok-keep.ensures, c.is_best-best.ensures.value)
