use Rattle.std.proofs.Common.{◌≡◌, drop}
use Rattle.s66_line.specs.{place_after, AtTerm}
use Rattle.s66_line.proofs.characters.place_after.Given as goal

abbrev pub invariant-loop-byte : goal.invariant-loop-byte
invariant-loop-byte l = place_after l.place (drop l.byte-index l.operand) ≡ place_after AtTerm l.operand
