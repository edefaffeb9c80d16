use Rattle.std.proofs.Common.{◌≡◌, length}
use Rattle.s66_program.specs.{behind_commas}
use Rattle.s66_program.proofs.statement.target_in.Given as goal

abbrev pub invariant-loop-rest : goal.invariant-loop-rest
invariant-loop-rest l = behind_commas l.target l.rest ≡ behind_commas l.operand l.operand

abbrev pub decreases-loop-rest : goal.decreases-loop-rest
decreases-loop-rest l = length l.rest
