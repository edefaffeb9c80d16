use Rattle.std.proofs.Common.{◌≡◌, ◌+◌, ◌-◌, not, length}
use Rattle.s66_isa.specs.{first_that, has, rising}
use Rattle.s66_line.specs.{instrs_of}
use Rattle.s66_compare.specs.{first_left}
use Rattle.s66_compare.proofs.pairing.first_left.Given as goal

abbrev pub invariant-loop-position : goal.invariant-loop-position
invariant-loop-position l = first_that (λ n. not (has n l.taken)) (rising (length (instrs_of l.old) - l.position) (l.position + 1)) ≡ first_left l.old l.taken
