use Rattle.std.proofs.Common.{◌≡◌, ◌≤◌, length}
use Rattle.s66_node.specs.{reversed}
use Rattle.s66_node.proofs.near.draft.Draft.move_forward.Given as goal

abbrev pub invariant-loop-step : goal.invariant-loop-step
invariant-loop-step l =
    record {
      problem : l.walk.problem ≡ l.fn.walk.problem;
      as_many : length l.self.numbers.items ≡ length l.fn.self.numbers.items;
      as_long : length l.numbers.items ≡ length l.fn.self.numbers.items;
      counted : l.pairs ≡ reversed l.numbers.items;
      nearer : l.self.pairs ≤ l.fn.self.pairs;
    }
