use Rattle.std.proofs.Common.{◌≡◌, drop}
use Rattle.s66_isa.specs.{every}
use Rattle.s66_moments.specs.{is_number}
use Rattle.s66_facts.proofs.loads.are_numbers.Given as goal

abbrev pub invariant-loop-n : goal.invariant-loop-n
invariant-loop-n l = every (is_number l.graph.problem) (drop l.n-index l.numbers) ≡ every (is_number l.graph.problem) l.numbers
