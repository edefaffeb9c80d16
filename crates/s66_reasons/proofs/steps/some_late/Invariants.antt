use Rattle.std.proofs.Common.{◌≡◌, ◌+◌, ◌-◌, length}
use Rattle.s66_isa.specs.{rising, numbers}
use Rattle.s66_moments.specs.{arcs_of}
use Rattle.s66_facts.specs.{known_of}
use Rattle.s66_reasons.specs.{late_number}
use Rattle.s66_reasons.proofs.steps.some_late.Given as goal

-- the numbers so far aren't late
abbrev pub invariant-loop-position : goal.invariant-loop-position
invariant-loop-position l =
    late_number l.facts.problem (arcs_of l.facts.problem (known_of l.facts)) l.bound (rising (length l.facts.problem.block - l.position) (l.position + 1))
    ≡ late_number l.facts.problem (arcs_of l.facts.problem (known_of l.facts)) l.bound (numbers l.facts.problem.block)
