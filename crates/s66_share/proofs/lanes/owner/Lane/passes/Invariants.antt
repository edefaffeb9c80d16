use Rattle.std.proofs.Common.{◌≡◌, ◌+◌, ◌≤◌, vec_capacity}
use Rattle.crossbeam_deque.specs.Handles.{worker_deque, worker_flavor, worker_view, worker_index, worker_capacity}
use Rattle.s66_share.specs.{PARTS}
use Rattle.s66_share.proofs.Passes.{AreDealt}
use Rattle.s66_share.proofs.lanes.owner.Lane.passes.Given as goal

abbrev pub invariant-loop-number : goal.invariant-loop-number
invariant-loop-number l =
    AreDealt (worker_deque l.initial.self-inside.owner) l.number l.dealt.items
    × (l.n ≤ vec_capacity l.dealt)
    × ((worker_view l.self-inside.owner).parts + l.number ≡ PARTS)
    × ((worker_view l.self-inside.owner).put ≡ (worker_view l.initial.self-inside.owner).put)
    × ((worker_view l.self-inside.owner).taken ≡ (worker_view l.initial.self-inside.owner).taken)
    × (worker_deque l.self-inside.owner ≡ worker_deque l.initial.self-inside.owner)
    × (worker_flavor l.self-inside.owner ≡ 0)
    × (worker_index l.self-inside.owner ≡ worker_index l.initial.self-inside.owner)
    × (worker_capacity l.initial.self-inside.owner ≤ worker_capacity l.self-inside.owner)
