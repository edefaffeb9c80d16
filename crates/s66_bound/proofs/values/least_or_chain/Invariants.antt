use Rattle.std.proofs.Common.{◌≡◌, max, length}
use Rattle.s66_isa.specs.{greatest, registers_in}
use Rattle.s66_model.specs.{chain, chain_by}
use Rattle.s66_time.specs.{problem_of}
use Rattle.s66_bound.proofs.values.least_or_chain.Given as goal

abbrev pub decreases-loop-register : goal.decreases-loop-register
decreases-loop-register l = length (registers_in l.late)

abbrev pub invariant-loop-register : goal.invariant-loop-register
invariant-loop-register l =
    max l.most (greatest (chain_by (problem_of l.clock) l.clock.numbers) (registers_in l.late)) ≡ max l.least (chain (problem_of l.clock) l.clock.numbers)
