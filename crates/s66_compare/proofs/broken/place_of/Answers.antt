use Rattle.std.proofs.Common.{◌∙◌, arith, sym}
use Rattle.s66_compare.proofs.Places.{place_next}
use Rattle.s66_compare.proofs.broken.place_of.Goals as goal

pub loop-place-preserved : goal.loop-place-preserved
loop-place-preserved c = sym (place_next c.args.count c.args.order.now c.args.number c.loop-place.place (omega arith) (sym c.is_at.ensures ∙ c.if-is_at.false)) ∙ c.loop-place.invariant
