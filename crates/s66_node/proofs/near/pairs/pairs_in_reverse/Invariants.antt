use Rattle.std.proofs.Common.{◌≡◌, ◌≤◌, ◌+◌, ◌*◌, drop, length}
use Rattle.s66_isa.specs.{BLOCK_LIMIT}
use Rattle.s66_node.specs.{reversed}
use Rattle.s66_node.proofs.near.pairs.pairs_in_reverse.Given as goal

abbrev pub invariant-loop-place : goal.invariant-loop-place
invariant-loop-place l =
    record {
      within : l.place ≤ length l.numbers;
      so_far : l.pairs ≡ reversed (drop l.place l.numbers);
      few : l.pairs + BLOCK_LIMIT * l.place ≤ BLOCK_LIMIT * length l.numbers;
    }

abbrev pub decreases-loop-place : goal.decreases-loop-place
decreases-loop-place l = l.place
