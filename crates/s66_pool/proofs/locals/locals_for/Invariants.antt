use Rattle.std.proofs.Common.{◌≡◌, ◌+◌, ◌++◌, All, vec_len, vec_capacity}
use Rattle.s66_pool.specs.{ids_of, lanes_of, victims_of}
use Rattle.s66_pool.proofs.locals.locals_for.Given as goal

abbrev pub invariant-loop : goal.invariant-loop
invariant-loop l = record {
  left : vec_len l.lanes + l.counter ≡ l.workers;
  count : (vec_len l.seats ≡ vec_len l.lanes) × (vec_len l.victims ≡ vec_len l.lanes);
  room : (vec_len l.locals ≡ l.counter) × (vec_capacity l.locals ≡ l.workers);
  here : All (λ s. s.hint ≡ l.hint) l.seats.items;
  lanes : lanes_of l.locals.items ++ ids_of l.lanes.items ≡ l.thieves;
  victims : victims_of l.locals.items ++ l.victims.items ≡ l.initial.victims.items;
}
