use Rattle.std.specs.BinaryHeap.{IsHeap, heap_capacity}
use Rattle.std.proofs.Common.{◌+◌, ◌-◌, ◌≤◌, ℕ, length, map, take, heap_items, heap_len, vec_len, vec_capacity}
use Rattle.s66_node.specs.{named}
use Rattle.s66_ledger.specs.{AreCounted, AreOpenNodes, compare_ranked, IsGrafting}
use Rattle.s66_ledger.proofs.attaching.append.Given as goal

abbrev pub invariant-loop-i : goal.invariant-loop-i
invariant-loop-i l =
    record {
      nodes : IsGrafting l.best l.root (map named l.dominances) l.fn.nodes.items (take l.i l.below) l.nodes.items;
      heap : IsHeap compare_ranked (heap_items l.heap);
      listed : AreOpenNodes l.nodes.items (heap_items l.heap);
      counted : (out : ℕ) → AreCounted l.fn.nodes.items out l.fn.deepest → AreCounted l.nodes.items out l.deepest;
      heap_room : heap_len l.heap + (length l.below - l.i) ≤ heap_capacity l.heap;
      room : vec_len l.nodes + (length l.below - l.i) ≤ vec_capacity l.nodes;
    }
