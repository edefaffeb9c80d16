use Rattle.std.proofs.Common.{◌≡◌, ◌∙◌, Option, length, option_to_list, refl, ap, arith}
use Rattle.s66_pool.specs.{VictimOf}
use Rattle.s66_pool.proofs.Members.{seats-set, count-seats, victim-within, victim-here, placed-pop, placed-same, fewer-at}
use Rattle.s66_pool.proofs.crew.leave_victims.Goals as goal

pub leave_lane-requires : goal.leave_lane-requires
leave_lane-requires c =
    let popped = placed-pop c.loop-victim.members c.args.worker c.index-members-worker.result c.pop.new.self c.pop.result (omega arith) c.pop.ensures.items c.loop-victim.invariant.placed in
    record { within = victim-within _ _ _ c.in-Some.is popped.1; here = victim-here _ _ _ c.in-Some.is popped.1 }

pub loop-victim-preserved : goal.loop-victim-preserved
loop-victim-preserved c =
    let i = c.loop-victim.invariant in
    let popped = placed-pop c.loop-victim.members c.args.worker c.index-members-worker.result c.pop.new.self c.pop.result (omega arith) c.pop.ensures.items i.placed in
    let seats = c.leave_lane.ensures.seats ∙ (seats-set _ _ _ c.index-members-worker.result refl ∙ i.seats) in
    record { count = count-seats _ _ seats; seats = seats; placed = placed-same _ _ c.leave_lane.ensures.lanes c.leave_lane.ensures.victims popped.0 }

pub loop-victim-smaller : goal.loop-victim-smaller
loop-victim-smaller c =
    let one : length (option_to_list c.pop.result) ≡ 1 = ap (λ (o : Option VictimOf). length (option_to_list o)) c.in-Some.is in
    fewer-at c.loop-victim.members c.args.worker c.index-members-worker.result c.pop.new.self _ (omega arith) (omega (arith, c.pop.ensures.len)) c.leave_lane.ensures.victims

pub returns : goal.returns
returns c = record {
  seats = seats-set _ _ _ c.index-members-worker.result refl ∙ c.loop-victim.invariant.seats;
  placed = (placed-pop c.loop-victim.members c.args.worker c.index-members-worker.result c.pop.new.self c.pop.result (omega arith) c.pop.ensures.items c.loop-victim.invariant.placed).0;
}
