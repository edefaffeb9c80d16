use Rattle.std.proofs.Common.{◌≡◌, take}
use Rattle.s66_line.specs.{instrs_of}
use Rattle.s66_time.proofs.graph.order.Order.is_of.Given as goal

abbrev pub invariant-loop-position : goal.invariant-loop-position
invariant-loop-position l = take l.position l.self-inside.instrs.items ≡ take l.position (instrs_of l.block)
