use Rattle.std.proofs.Common.{◌≡◌, ◌+◌, ◌-◌, ◌++◌, length}
use Rattle.s66_isa.specs.{rising, numbers}
use Rattle.s66_line.specs.{instrs_of}
use Rattle.s66_program.specs.{needs_lines}
use Rattle.s66_program.proofs.deps_text.push_needs_lines.Given as goal

abbrev pub invariant-loop-position : goal.invariant-loop-position
invariant-loop-position l = l.out.items ++ needs_lines (instrs_of l.block) (rising (length (instrs_of l.block) - l.position) (l.position + 1)) ≡ l.fn.out.items ++ needs_lines (instrs_of l.block) (numbers (instrs_of l.block))
