use Rattle.std.proofs.Common.{◌≡◌, ◌≤◌, ◌+◌, drop}
use Rattle.s66_node.specs.{below}
use Rattle.s66_node.proofs.near.pairs.below_after.Given as goal

abbrev pub invariant-loop-later : goal.invariant-loop-later
invariant-loop-later l =
    record {
      so_far : l.count + below l.number (drop l.later l.numbers) ≡ below l.number (drop (l.place + 1) l.numbers);
      few : l.count ≤ l.later;
    }
