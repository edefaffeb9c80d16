use Rattle.std.proofs.Common.{◌≡◌, ◌-◌, get_or, ◌==◌}
use Rattle.s66_isa.specs.{least_from}
use Rattle.s66_compare.specs.{place_of}
use Rattle.s66_compare.proofs.broken.place_of.Given as goal

abbrev pub invariant-loop-place : goal.invariant-loop-place
invariant-loop-place l = least_from (λ k. get_or l.order k 0 == l.number) (l.count - 1 - l.place) l.place ≡ place_of l.count l.order l.number
