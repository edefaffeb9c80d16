use Rattle.std.proofs.Common.{◌≡◌, length}
use Rattle.s66_isa.specs.{has}
use Rattle.s66_source.specs.{letters_of}
use Rattle.s66_source.proofs.redefined.has_expression.Given as goal

-- what was passed so far is no expression
abbrev pub invariant-loop-rest : goal.invariant-loop-rest
invariant-loop-rest l = has 81 (letters_of l.rest) ≡ has 81 (letters_of l.operand)

abbrev pub decreases-loop-rest : goal.decreases-loop-rest
decreases-loop-rest l = length l.rest
