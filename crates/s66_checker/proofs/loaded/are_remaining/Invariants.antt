use Rattle.std.proofs.Common.{◌≡◌, drop}
use Rattle.s66_isa.specs.{every}
use Rattle.s66_model.specs.{is_remaining}
use Rattle.s66_checker.proofs.loaded.are_remaining.Given as goal

abbrev pub invariant-loop-n : goal.invariant-loop-n
invariant-loop-n l = every (is_remaining l.prefix.problem.block l.prefix.numbers) (drop l.n-index l.numbers) ≡ every (is_remaining l.prefix.problem.block l.prefix.numbers) l.numbers
