use Rattle.std.proofs.Common.{◌≡◌, ◌∙◌, length-set, arith}
use Rattle.s66_pool.specs.{SeatOf}
use Rattle.s66_pool.proofs.Members.{seat-at, same-after, here-after}
use Rattle.s66_pool.proofs.crew.settle.Goals as goal

pub give_left_back-requires : goal.give_left_back-requires
give_left_back-requires g c =
    seat-at (λ (s : SeatOf). s.hub ≡ c.args.hub.now.id) c.loop-worker-2.members c.loop-worker-2.worker c.index-members-worker.result (omega arith) c.loop-worker-2.invariant.here

pub loop-worker-2-preserved : goal.loop-worker-2-preserved
loop-worker-2-preserved g c =
    let i = c.loop-worker-2.invariant in
    let at = seat-at (λ (s : SeatOf). s.hub ≡ c.args.hub.now.id) c.loop-worker-2.members c.loop-worker-2.worker c.index-members-worker.result (omega arith) i.here in
    record {
      count = length-set _ _ _ ∙ i.count;
      same = same-after _ _ _ _ c.index-members-worker.result (omega arith) c.give_left_back.ensures i.same;
      here = here-after (λ (s : SeatOf). s.hub ≡ c.args.hub.now.id) _ _ _ (c.give_left_back.ensures.0 ∙ at) i.here;
    }
