use Rattle.std.proofs.Common.{◌≡◌, All, length}
use Rattle.s66_pool.specs.{AllMatchLanes}
use Rattle.s66_pool.proofs.locals.deal.Given as goal

abbrev pub invariant-loop-worker : goal.invariant-loop-worker
invariant-loop-worker l = record {
  lane : l.lane.id ≡ l.fn.lane.id;
  count : length l.victims ≡ length l.fn.victims;
  passes : All (λ p. p.lane ≡ l.fn.lane.id) l.passes.items;
  placed : AllMatchLanes l.thieves l.victims;
}
