use Rattle.std.proofs.Common.{◌≡◌, ◌≤◌, ◌+◌, length, reverse}
use Rattle.s66_program.specs.{loop_start_before}
use Rattle.s66_program.proofs.loops.start_before.Given as goal

abbrev pub invariant-loop-rest : goal.invariant-loop-rest
invariant-loop-rest l = record {
  start : loop_start_before l.name l.parts l.blocks (reverse l.rest) ≡ loop_start_before l.name 0 0 (reverse l.earlier);
  parts : l.parts + length l.rest ≡ length l.earlier;
  blocks : l.blocks ≤ l.parts;
}

abbrev pub decreases-loop-rest : goal.decreases-loop-rest
decreases-loop-rest l = length l.rest
