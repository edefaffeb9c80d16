use Rattle.std.proofs.Common.{arith, ◌∙◌, sym, ap, reverse}
use Rattle.s66_model.specs.{slot_of}
use Rattle.s66_checker.specs.{with_profile}
use Rattle.s66_checker.proofs.Issues.{issue-looked}
use Rattle.s66_checker.proofs.replay.timing.issue.Goals as goal

pub slot-slot-requires : goal.slot-slot-requires
slot-slot-requires c = rw c.points.ensures c.requires

pub returns : goal.returns
returns c =
    let slot = c.slot-slot.ensures ∙ ap (λ xs. slot_of (reverse xs) c.row.inside.parcels) c.points.ensures in
    rw (sym c.row.view_is)
    (issue-looked (with_profile c.args.profile.now) c.args.past.now _ c.slot-slot.result c.writes_done-written.result c.copies.result c.first_free.result slot (rw (sym c.as_slice.ensures.value) c.writes_done-written.ensures) c.copies.ensures.value
    (omega (arith, c.first_free.ensures.late, c.max.ensures)) c.first_free.ensures.free (λ u ge few. c.first_free.ensures.least u (omega (arith, ge, c.max.ensures)) few))
