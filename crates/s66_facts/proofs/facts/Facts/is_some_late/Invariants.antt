use Rattle.std.proofs.Common.{◌≡◌, ◌+◌, ◌-◌, length}
use Rattle.s66_isa.specs.{some_of, rising, numbers}
use Rattle.s66_moments.specs.{arcs_of, is_late_through}
use Rattle.s66_facts.specs.{known_of}
use Rattle.s66_facts.proofs.facts.Facts.is_some_late.Given as goal

abbrev pub invariant-loop-position : goal.invariant-loop-position
invariant-loop-position l =
    some_of (is_late_through l.self.problem (arcs_of l.self.problem (known_of l.self)) l.bound) (rising (length l.self.problem.block - l.position) (l.position + 1))
    ≡ some_of (is_late_through l.self.problem (arcs_of l.self.problem (known_of l.self)) l.bound) (numbers l.self.problem.block)
