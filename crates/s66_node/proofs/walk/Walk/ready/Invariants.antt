use Rattle.s66_line.specs.{instrs_of}
use Rattle.s66_node.specs.{IsReadyFront}
use Rattle.s66_node.proofs.walk.Walk.ready.Given as goal

abbrev pub invariant-loop-position : goal.invariant-loop-position
invariant-loop-position l =
    IsReadyFront (instrs_of l.self-inside.clock.block) l.self-inside.clock.numbers (record { count = l.position; placed = l.placed; ready = l.ready })
