use Rattle.std.proofs.Common.{◌≡◌, ◌≤◌, ◌++◌, drop}
use Rattle.s66_program.specs.{loops_from}
use Rattle.s66_program.proofs.loops.Orders.loops.Given as goal

abbrev pub invariant-loop-at : goal.invariant-loop-at
invariant-loop-at l = record {
  loops : l.loops.items ++ loops_from l.self l.parts l.blocks l.at (drop l.at l.parts) ≡ loops_from l.self l.parts 0 0 l.parts;
  few : l.blocks ≤ l.at;
}
