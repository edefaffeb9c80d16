use Rattle.std.proofs.Common.{◌≡◌, length, take}
use Rattle.s66_isa.specs.{weigh}
use Rattle.s66_ledger.specs.{Leads, NoneOutBelow}
use Rattle.s66_ledger.proofs.ledger.Ledger.take_back.Given as goal

abbrev pub invariant-loop-at : goal.invariant-loop-at
invariant-loop-at l =
    record {
      leads : Leads l.fn.self l.self;
      count : length l.self.state.allowances ≡ length l.fn.self.state.allowances;
      retired : weigh (λ n. n) (take l.at l.self.state.allowances) ≡ 0;
    }

abbrev pub invariant-loop-node : goal.invariant-loop-node
invariant-loop-node l =
    record {
      leads : Leads l.fn.self l.self;
      in_hand : NoneOutBelow l.node l.self.state;
      count : length l.self.state.nodes ≡ length l.initial.self.state.nodes;
      allowances : l.self.state.allowances ≡ l.initial.self.state.allowances;
    }
