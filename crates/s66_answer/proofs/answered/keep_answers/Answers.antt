use Rattle.s66_answer.proofs.KeptParts.{answered}
use Rattle.s66_answer.proofs.answered.keep_answers.Goals as goal

pub returns : goal.returns
returns g c =
    let strategy = c.args.strategy in
    let p = c.args.profile.now in
    answered (g.K.Keep.part c.args.what.now strategy p) strategy p c.args.only c.args.source.now c.blocks-2.result.now c.shown-blocks.result.now c.blocks_before.result
    c.in_ok-kept.kept.parts.items c.in_ok-kept.kept.bounded c.status_by.result c.blocks-2.ensures c.shown-blocks.ensures c.blocks_before.ensures.value c.status_by.ensures c.in_ok-kept.ensures
