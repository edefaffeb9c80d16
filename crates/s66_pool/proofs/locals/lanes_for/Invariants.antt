use Rattle.std.proofs.Common.{◌≡◌, [], All, vec_len, vec_capacity}
use Rattle.s66_share.specs.{LaneOf}
use Rattle.s66_pool.specs.{ids_of}
use Rattle.s66_pool.proofs.locals.lanes_for.Given as goal

abbrev pub invariant-loop : goal.invariant-loop
invariant-loop l = record {
  lanes : vec_len l.lanes ≡ l.counter;
  thieves : vec_len l.thieves ≡ l.counter;
  room : (vec_capacity l.lanes ≡ l.workers) × (vec_capacity l.thieves ≡ l.workers);
  ids : l.thieves.items ≡ ids_of l.lanes.items;
  new : All (λ (s : LaneOf). (s.passes ≡ 0) × (s.put ≡ [])) l.lanes.items;
}
