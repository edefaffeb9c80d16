use Rattle.std.proofs.Common.{◌≡◌, drop, None}
use Rattle.s66_program.specs.{loop_behind}
use Rattle.s66_program.proofs.loops.Orders.loop_behind.Given as goal

abbrev pub invariant-loop-at : goal.invariant-loop-at
invariant-loop-at l = loop_behind l.self l.parts l.blocks l.at l.closed (drop l.at l.parts) ≡ loop_behind l.self l.parts l.blocks l.place None (drop l.place l.parts)
