use Rattle.std.proofs.Common.{◌≡◌, ◌++◌, drop, length, map}
use Rattle.s66_line.specs.{instr_in_text}
use Rattle.s66_checker.proofs.check.instructions_of.Given as goal

-- those so far, and then those of the rest, are all
abbrev pub invariant-loop-text : goal.invariant-loop-text
invariant-loop-text l = record {
  rest : l.instrs.items ++ map instr_in_text (drop l.text-index l.texts) ≡ map instr_in_text l.texts;
  count : length l.instrs.items ≡ l.text-index;
}
