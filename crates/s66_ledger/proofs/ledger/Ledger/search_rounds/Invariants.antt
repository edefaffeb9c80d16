use Rattle.std.proofs.Common.{◌≡◌}
use Rattle.s66_ledger.specs.{Leads, IsBetweenRounds, still_to_go}
use Rattle.s66_ledger.proofs.ledger.Ledger.search_rounds.Given as goal

abbrev pub invariant-loop-alloc : goal.invariant-loop-alloc
invariant-loop-alloc l =
    record {
      walk : l.walk.problem ≡ l.fn.walk.problem;
      marks : l.marks.problem ≡ l.fn.marks.problem;
      leads : Leads l.fn.self l.self;
      between : IsBetweenRounds l.self.problem l.self.state;
    }

abbrev pub decreases-loop-alloc : goal.decreases-loop-alloc
decreases-loop-alloc l = still_to_go l.self
