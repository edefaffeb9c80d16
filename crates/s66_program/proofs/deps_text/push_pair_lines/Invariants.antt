use Rattle.std.proofs.Common.{ℕ, ◌≡◌, ◌+◌, ◌-◌, ◌++◌, flat_map, length}
use Rattle.s66_isa.specs.{rising}
use Rattle.s66_model.specs.{needs}
use Rattle.s66_line.specs.{instrs_of}
use Rattle.s66_program.specs.{pair_line, pair_lines}
use Rattle.s66_program.proofs.deps_text.push_pair_lines.Given as goal

abbrev pub invariant-loop-position : goal.invariant-loop-position
invariant-loop-position l =
    l.out.items ++ flat_map (λ (n : ℕ). flat_map (pair_line l.block n) (needs (instrs_of l.block) n)) (rising (length (instrs_of l.block) - l.position) (l.position + 1)) ≡ l.fn.out.items ++ pair_lines l.block
