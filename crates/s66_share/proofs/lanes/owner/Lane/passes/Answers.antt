use Rattle.std.proofs.Common.{arith, rules}
use Rattle.s66_share.proofs.Passes.{dealt-none, dealt-push}
use Rattle.s66_share.proofs.LaneMoves.{deals}
use Rattle.s66_share.proofs.lanes.owner.Lane.passes.Goals as goal

pub loop-number-init : goal.loop-number-init
loop-number-init c = search (rules, dealt-none)

pub another-requires : goal.another-requires
another-requires c = deals _ _ (omega (arith, c.loop-number.invariant.2, c.requires.few, c.loop-number-test.true))

pub loop-number-preserved : goal.loop-number-preserved
loop-number-preserved c =
    let dealt = dealt-push _ _ _ _ _ c.loop-number.invariant.0 c.push_reserved.ensures.items (search rules) in search (rules, dealt)
