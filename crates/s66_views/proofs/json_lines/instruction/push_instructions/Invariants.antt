use Rattle.std.proofs.Common.{◌≡◌, ◌+◌, ◌-◌, ◌++◌, codes, false, length, nat_lt}
use Rattle.s66_isa.specs.{rising, numbers}
use Rattle.s66_line.specs.{instrs_of}
use Rattle.s66_views.specs.{json_instruction_text, json_listed}
use Rattle.s66_views.proofs.json_lines.instruction.push_instructions.Given as goal

abbrev pub invariant-loop-position : goal.invariant-loop-position
invariant-loop-position l =
    l.out.items ++ json_listed (json_instruction_text l.profile l.block) (nat_lt 0 l.position) (rising (length (instrs_of l.block) - l.position) (l.position + 1))
    ≡ l.fn.out.items ++ (codes ",\"instructions\":[" ++ json_listed (json_instruction_text l.profile l.block) false (numbers (instrs_of l.block)))
