use Rattle.std.proofs.Common.{ℕ, ◌≡◌, ◌+◌, ◌-◌, get_or}
use Rattle.s66_isa.specs.{has, numbers_in, no_set}
use Rattle.s66_isa.proofs.Sets.{within}
use Rattle.s66_time.proofs.graph.openings.opened_by.Given as goal

abbrev pub invariant-loop-position : goal.invariant-loop-position
invariant-loop-position l = (m : ℕ) → has m (numbers_in l.opened) ≡ within (λ a. has l.n (numbers_in (get_or l.direct (a - 1) no_set))) (l.position + 1) m
