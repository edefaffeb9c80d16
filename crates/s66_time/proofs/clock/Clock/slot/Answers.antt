use Rattle.std.proofs.Common.{ap, arith, ◌∙◌}
use Rattle.s66_model.specs.{slot_of}
use Rattle.s66_model.proofs.Growth.{fits_at-le}
use Rattle.s66_time.specs.{points}
use Rattle.s66_time.proofs.ClockPoints.{follows-small, slot-words}
use Rattle.s66_time.proofs.Clocks.{clock-words, clock-turn, clock-next}
use Rattle.s66_time.proofs.clock.Clock.slot.Goals as goal

pub slot-requires-clause-parcel : goal.slot-requires-clause-parcel
slot-requires-clause-parcel c = omega (arith, follows-small _ _ (_, clock-words _ _ _ c.self.invariant.clock, clock-turn _ _ _ c.self.invariant.clock))

pub slot-requires-clause-next : goal.slot-requires-clause-next
slot-requires-clause-next c = omega (arith, follows-small _ _ (_, clock-words _ _ _ c.self.invariant.clock, clock-turn _ _ _ c.self.invariant.clock))

pub returns-clause-value : goal.returns-clause-value
returns-clause-value c =
    c.slot.ensures ∙ slot-words _ _ _ c.args.parcels (clock-words _ _ _ c.self.invariant.clock)
    ∙ ap (λ t. slot_of (points t) c.args.parcels) c.self.view_is

pub returns-clause-at_most : goal.returns-clause-at_most
returns-clause-at_most c =
    omega (
      arith,
      c.slot.ensures,
      fits_at-le c.self.inside.words.progress.parcel c.args.parcels,
      (clock-words _ _ _ c.self.invariant.clock).next,
      clock-next _ _ _ c.self.invariant.clock,
      (clock-turn _ _ _ c.self.invariant.clock).early,
    )
