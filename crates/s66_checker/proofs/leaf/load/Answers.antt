use Rattle.std.proofs.Common.{rules, ◌+◌, ◌^◌, ◌<◌, ◌≡◌, ◌∙◌, ap, sym, arith}
use Rattle.s66_isa.specs.{weigh}
use Rattle.s66_isa.proofs.Lists.{weigh-reverse}
use Rattle.s66_model.specs.{points_of, next, rest_busy}
use Rattle.s66_checker.proofs.KeptPoints.{timed-work}
use Rattle.s66_checker.proofs.LeafBounds.{load-made}
use Rattle.s66_checker.proofs.leaf.load.Goals as goal

pub overflow_add-work : goal.overflow_add-work
overflow_add-work c =
    let fits : c.remaining_work.result + c.rest_busy.result < 2 ^ 32 =
    omega (arith, c.remaining_work.ensures.at_most, c.rest_busy.ensures, timed-work c.args.kind c.next-slot.result c.points-2.result.now c.points-2.ensures.timed)
    in
    search rules

pub over-requires-clause-work : goal.over-requires-clause-work
over-requires-clause-work c =
    omega (arith, c.remaining_work.ensures.at_most, c.rest_busy.ensures, timed-work c.args.kind c.next-slot.result c.points-2.result.now c.points-2.ensures.timed)

pub overflow_add-result : goal.overflow_add-result
overflow_add-result c =
    let fits : c.over.result + c.next-slot.result < 2 ^ 32 =
    omega (arith, c.over.ensures.at_most, c.next-slot.ensures.at_most, c.remaining_work.ensures.at_most, c.rest_busy.ensures, timed-work c.args.kind c.next-slot.result c.points-2.result.now c.points-2.ensures.timed)
    in
    search rules

pub returns : goal.returns
returns c =
    let b = c.args.prefix.now.problem in
    let ns = c.args.prefix.now.numbers in
    let kind = c.args.kind in
    let slot = c.next-slot.result in
    let slot_is : slot ≡ next (points_of b ns) = c.next-slot.ensures.value ∙ ap next c.points.ensures.value in
    let busy : c.rest_busy.result ≡ weigh (rest_busy kind (next (points_of b ns))) (points_of b ns) =
    c.rest_busy.ensures ∙ sym (weigh-reverse (rest_busy kind slot) c.points-2.result.now) ∙ ap (weigh (rest_busy kind slot)) c.points-2.ensures.value ∙ ap (λ t. weigh (rest_busy kind t) (points_of b ns)) slot_is
    in
    ap (λ x. x + slot) c.over.ensures.value
    ∙ load-made b ns kind c.remaining_work.result c.rest_busy.result c.copies.result slot c.remaining_work.ensures.value busy c.copies.ensures.value slot_is
