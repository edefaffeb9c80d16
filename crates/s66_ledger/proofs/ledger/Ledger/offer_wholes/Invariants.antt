use Rattle.std.proofs.Common.{ℕ, ◌<◌}
use Rattle.s66_ledger.specs.{IsOffering, IsTimedAt}
use Rattle.s66_ledger.proofs.ledger.Ledger.offer_wholes.Given as goal

abbrev pub invariant-loop-node : goal.invariant-loop-node
invariant-loop-node l =
    record {
      offers : IsOffering l.fn.self l.self;
      timed : (i : ℕ) → i < l.node → IsTimedAt l.self.problem l.self.state i;
    }
