use Rattle.std.proofs.Common.{◌∙◌, reverse}
use Rattle.s66_checker.proofs.UnitsNoLater.{kinds-step}
use Rattle.s66_checker.proofs.replay.dominance.are_all_units_no_later.Goals as goal

pub loop-kind-preserved : goal.loop-kind-preserved
loop-kind-preserved c =
    kinds-step c.args.profile.now c.args.clamp (reverse c.args.own.now) (reverse c.args.other.now) c.loop-kind.kind-index c.copies.result c.are_units_no_later.result c.loop-kind-test.true c.copies.ensures.value c.are_units_no_later.ensures c.if-not-are_units_no_later.false
    ∙ c.loop-kind.invariant
