use Rattle.std.proofs.Common.{◌≡◌, drop}
use Rattle.s66_line.specs.{is_constant_from}
use Rattle.s66_line.proofs.operand.terms.has_constant_bytes.Given as goal

abbrev pub invariant-loop-at : goal.invariant-loop-at
invariant-loop-at l = is_constant_from l.last (drop l.at l.term) ≡ is_constant_from 0 l.term
