use Rattle.std.proofs.Common.{◌≡◌, ◌≤◌, ◌<◌, ℕ, [], length, slice_index_or, vec_len, vec_capacity}
use Rattle.s66_share.specs.{LaneOf}
use Rattle.s66_pool.specs.{AllMatchLanes, ids_of}
use Rattle.s66_pool.proofs.locals.victims_for.Given as goal

abbrev pub invariant-loop : goal.invariant-loop
invariant-loop l = record {
  count : vec_len l.victims ≡ l.counter;
  room : vec_capacity l.victims ≡ l.workers;
  placed : AllMatchLanes l.thieves l.victims.items;
}

abbrev pub invariant-loop-place : goal.invariant-loop-place
invariant-loop-place l = record {
  count : vec_len l.victims ≡ l.workers;
  lanes : length l.lanes ≡ l.workers;
  ids : ids_of l.lanes ≡ l.thieves;
  new : (k : ℕ) (d : LaneOf) → l.place ≤ k → k < length l.lanes → ((slice_index_or l.lanes k d).passes ≡ 0) × ((slice_index_or l.lanes k d).put ≡ []);
  placed : AllMatchLanes l.thieves l.victims.items;
}
