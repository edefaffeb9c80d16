use Rattle.std.proofs.Common.{◌≡◌, refl, arith}
use Rattle.std.proofs.lemmas.List.Elements.{All-same, All-drop}
use Rattle.s66_share.specs.{LaneOf, HintSeatOf}
use Rattle.s66_pool.specs.{Local}
use Rattle.s66_pool.proofs.Members.{moves-to, moves-by, all-moved}
use Rattle.s66_pool.proofs.locals.locals_for.Goals as goal

pub loop-preserved : goal.loop-preserved
loop-preserved c =
    let i = c.loop.invariant in
    record {
      left = omega arith;
      count = (omega arith, omega arith);
      room = (omega arith, omega arith);
      here = All-same (λ (s : HintSeatOf). s.hint ≡ c.args.hint.now) _ _ c.remove-seat.ensures.items (All-drop (λ (s : HintSeatOf). s.hint ≡ c.args.hint.now) 1 _ i.here);
      lanes = moves-by (λ (l : Local). l.lane.id) (λ (l : LaneOf). l.id) _ _ _ _ _ _ _ c.push_reserved.ensures.items c.remove-own.ensures.items (omega (arith, c.loop.lanes.ok.0)) c.remove-own.ensures.value refl i.lanes;
      victims = moves-to (λ (l : Local). l.victims) _ _ _ _ _ _ c.push_reserved.ensures.items c.remove-others.ensures.items (omega (arith, c.loop.victims.ok.0)) c.remove-others.ensures.value i.victims;
    }

pub returns : goal.returns
returns c =
    let i = c.loop.invariant in
    let moved = all-moved c.loop.locals.items c.loop.lanes.items c.loop.victims.items c.in_ok-victims.victims.items c.args.lanes.items c.args.thieves.now (omega (arith, c.loop.lanes.ok.0)) (omega (arith, c.loop.victims.ok.0)) i.lanes c.requires.thieves i.victims c.in_ok-victims.ensures.placed in
    record { count = moved.0; placed = moved.1 }
