use Rattle.std.proofs.Common.{rules, arith, ap, ◌+◌, ◌-◌, ◌<◌, ◌≡◌, ◌^◌, ◌∙◌, sym}
use Rattle.s66_model.specs.{Point, parcel_of, slot_of, end_of}
use Rattle.s66_model.proofs.Growth.{slot-le}
use Rattle.s66_checker.proofs.Reversed.{greatest-reverse, reverse-last}
use Rattle.s66_checker.proofs.KeptPoints.{timed-small, timed-total}
use Rattle.s66_checker.proofs.replay.timing.slot.Goals as goal

pub overflow_add-result : goal.overflow_add-result
overflow_add-result c =
    let p = c.in-Some.last.now in
    let xs = c.args.points.now in
    let newest = reverse-last xs p c.in-Some.ensures.item.3.0 c.in-Some.ensures.item.1 in
    let is : p.issue + (c.parcel.result - p.parcel) ≡ slot_of _ c.args.parcels = ap (λ q. p.issue + (q - p.parcel)) (c.parcel.ensures ∙ ap (λ s. parcel_of s c.args.parcels) newest) ∙ sym (ap (λ s. slot_of s c.args.parcels) newest) in
    let fits : c.last-in-Some.inside.issue + (c.parcel.result - c.last-in-Some.inside.parcel) < 2 ^ 32 =
    omega (arith, is, slot-le _ c.args.parcels (timed-small xs c.requires), greatest-reverse end_of xs, timed-total xs c.requires, ap (λ (q : Point). q.parcel) c.last-in-Some.view_is, ap (λ (q : Point). q.issue) c.last-in-Some.view_is)
    in
    search rules
