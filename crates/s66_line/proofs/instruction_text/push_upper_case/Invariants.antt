use Rattle.std.proofs.Common.{◌≡◌, ◌++◌, ◌+◌, drop, length}
use Rattle.s66_line.specs.{upper}
use Rattle.s66_line.proofs.instruction_text.push_upper_case.Given as goal

-- the letters so far, and then those of the rest, are those of all
abbrev pub invariant-loop-byte : goal.invariant-loop-byte
invariant-loop-byte l = record {
  rest : l.letters.items ++ upper (drop l.byte-index l.bytes) ≡ l.fn.letters.items ++ upper l.bytes;
  count : length l.letters.items ≡ length l.fn.letters.items + l.byte-index;
}
