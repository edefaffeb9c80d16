use Rattle.std.proofs.Common.{filter}
use Rattle.s66_isa.specs.{rising}
use Rattle.s66_model.specs.{is_remaining, if_last}
use Rattle.s66_checker.proofs.NumbersInTurn.{IsLeast}
use Rattle.s66_checker.proofs.leaf.parcels.Given as goal

abbrev pub invariant-loop-position : goal.invariant-loop-position
invariant-loop-position l = IsLeast (if_last l.prefix.problem l.prefix.numbers) (filter (is_remaining l.prefix.problem.block l.prefix.numbers) (rising l.position 1)) l.least
