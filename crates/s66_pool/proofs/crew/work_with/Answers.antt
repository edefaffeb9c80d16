use Rattle.std.proofs.Common.{◌≡◌, ◌∙◌, List, ap}
use Rattle.std.proofs.lemmas.List.Elements.{All-same}
use Rattle.s66_pool.specs.{SeatOf, Member, seats_of}
use Rattle.s66_pool.proofs.Members.{returned, here-kept, seat-at}
use Rattle.s66_pool.proofs.crew.work_with.Goals as goal

pub work_at_each-requires-clause-here : goal.work_at_each-requires-clause-here
work_at_each-requires-clause-here g c =
    let seats = ap (λ (ms : List Member). seats_of ms) c.as_mut_slice-places.ensures.value ∙ c.seat_members.ensures.seats in
    λ lifetimes outlive k d within. seat-at (λ (s : SeatOf). s.hub ≡ c.args.hub.now.id) c.as_mut_slice-places.result.now k d within
    (All-same (λ (s : SeatOf). s.hub ≡ c.args.hub.now.id) _ _ seats c.requires.here)

pub returns-clause-same : goal.returns-clause-same
returns-clause-same g c =
    returned c.take_seats.new.seats.items c.args.seats.now.items c.as_mut_slice-places.result.now c.work_at_each.new.members c.settle.new.members _ _
    c.take_seats.ensures c.as_mut_slice-places.ensures.len (ap (λ (ms : List Member). seats_of ms) c.as_mut_slice-places.ensures.value ∙ c.seat_members.ensures.seats)
    c.work_at_each.ensures.same c.settle.ensures

pub returns-clause-here : goal.returns-clause-here
returns-clause-here g c =
    here-kept c.args.hub.now.id c.args.seats.now.items c.take_seats.new.seats.items
    (returned c.take_seats.new.seats.items c.args.seats.now.items c.as_mut_slice-places.result.now c.work_at_each.new.members c.settle.new.members _ _
    c.take_seats.ensures c.as_mut_slice-places.ensures.len (ap (λ (ms : List Member). seats_of ms) c.as_mut_slice-places.ensures.value ∙ c.seat_members.ensures.seats)
    c.work_at_each.ensures.same c.settle.ensures) c.requires.here
