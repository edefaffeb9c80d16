use Rattle.std.proofs.Common.{rules, arith, ap, ◌+◌, ◌<◌, ◌^◌}
use Rattle.s66_model.specs.{Point}
use Rattle.s66_checker.proofs.KeptPoints.{last-issue, last-parcels}
use Rattle.s66_checker.proofs.replay.timing.next.Goals as goal

pub overflow_add-result : goal.overflow_add-result
overflow_add-result c =
    let p = c.in-Some.last.now in
    let some = c.in-Some.ensures.item.3.0 in
    let is = c.in-Some.ensures.item.1 in
    let fits : c.last-in-Some.inside.issue + c.parcels.result < 2 ^ 32 =
    omega (arith, last-issue c.args.points.now p c.requires some is, last-parcels c.args.points.now p c.requires some is, ap (λ (q : Point). q.issue) c.last-in-Some.view_is, c.parcels.ensures)
    in
    search rules

pub returns-in-Some-clause-at_most : goal.returns-in-Some-clause-at_most
returns-in-Some-clause-at_most c =
    let p = c.in-Some.last.now in
    let some = c.in-Some.ensures.item.3.0 in
    let is = c.in-Some.ensures.item.1 in
    omega (arith, last-issue c.args.points.now p c.requires some is, last-parcels c.args.points.now p c.requires some is, ap (λ (q : Point). q.issue) c.last-in-Some.view_is, c.parcels.ensures)
