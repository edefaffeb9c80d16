use Rattle.std.proofs.Common.{◌∙◌, ◌++◌, [], ◌∷◌, Option, ap}
use Rattle.s66_source.specs.{Placed}
use Rattle.s66_program.proofs.order_text.GivingsKeepOptionPlaced.keep.Goals as goal

pub returns : goal.returns
returns c =
    c.in_ok-push.ensures.items ∙ ap (λ (given : Option Placed). c.args.parts.now.items ++ given ∷ []) (c.given.ensures c.args.answer.strategy c.args.answer.profile.now c.args.answer.block.now c.requires)
