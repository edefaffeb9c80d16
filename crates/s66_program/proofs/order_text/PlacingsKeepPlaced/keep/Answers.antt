use Rattle.std.proofs.Common.{◌∙◌, ◌++◌, [], ◌∷◌, ap}
use Rattle.s66_source.specs.{Placed}
use Rattle.s66_program.proofs.order_text.PlacingsKeepPlaced.keep.Goals as goal

pub returns : goal.returns
returns c =
    c.in_ok-push.ensures.items ∙ ap (λ (placed : Placed). c.args.parts.now.items ++ placed ∷ []) (c.placing.ensures c.args.answer.strategy c.args.answer.profile.now c.args.answer.block.now c.requires)
