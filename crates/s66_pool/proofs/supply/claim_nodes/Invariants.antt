use Rattle.std.proofs.Common.{◌≡◌, length}
use Rattle.s66_pool.specs.{AreEvents, claims}
use Rattle.s66_pool.proofs.supply.claim_nodes.Given as goal

abbrev pub invariant-loop : goal.invariant-loop
invariant-loop l = record {
  count : length l.tickets.items ≡ l.counter;
  events : AreEvents l.initial.ledger (claims l.w l.tickets.items) l.ledger;
  workers : l.ledger.workers ≡ l.initial.ledger.workers;
}
