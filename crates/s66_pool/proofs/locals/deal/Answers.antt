use Rattle.std.proofs.Common.{◌≡◌, ◌∙◌, length-set, arith}
use Rattle.std.proofs.lemmas.List.Elements.{All-pop}
use Rattle.s66_share.specs.{PassOf}
use Rattle.s66_pool.proofs.Members.{placed-new, placed-push}
use Rattle.s66_pool.proofs.locals.deal.Goals as goal

pub loop-worker-preserved : goal.loop-worker-preserved
loop-worker-preserved c =
    let i = c.loop-worker.invariant in
    record {
      lane = i.lane;
      count = length-set _ _ _ ∙ i.count;
      passes = (All-pop (λ (p : PassOf). p.lane ≡ c.args.lane.now.id) _ _ _ c.pop.ensures.items i.passes).0;
      placed = placed-push _ _ _ c.index-victims-worker.result _ _ c.in_ok-push.ensures.items (placed-new _ _ _ _ c.new-victim.ensures c.requires.within c.index-thieves-place.is) (omega arith) i.placed;
    }
