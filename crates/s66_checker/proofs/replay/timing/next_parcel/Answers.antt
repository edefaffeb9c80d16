use Rattle.std.proofs.Common.{rules, arith, ap, ◌+◌, ◌<◌, ◌≤◌, ◌^◌}
use Rattle.s66_model.specs.{Point}
use Rattle.s66_checker.specs.{TOTAL_LIMIT}
use Rattle.s66_checker.proofs.KeptPoints.{last-issue, last-packed, last-parcels}
use Rattle.s66_checker.proofs.replay.timing.next_parcel.Goals as goal

small : (c : goal.After-parcels) → c.last-in-Some.inside.parcel + c.parcels.result ≤ TOTAL_LIMIT + 1
small c =
    let p = c.in-Some.last.now in
    let some = c.in-Some.ensures.item.3.0 in
    let is = c.in-Some.ensures.item.1 in
    omega (
      arith,
      last-issue c.args.points.now p c.requires some is,
      last-packed c.args.points.now p c.requires some is,
      last-parcels c.args.points.now p c.requires some is,
      ap (λ (q : Point). q.parcel) c.last-in-Some.view_is,
      c.parcels.ensures,
    )

pub overflow_add-result : goal.overflow_add-result
overflow_add-result c =
    let fits : c.last-in-Some.inside.parcel + c.parcels.result < 2 ^ 32 = omega (arith, small c) in
    search rules

pub returns-in-Some-clause-at_most : goal.returns-in-Some-clause-at_most
returns-in-Some-clause-at_most c = small c
