use Rattle.std.proofs.Common.{◌≡◌, ◌+◌, max}
use Rattle.s66_isa.specs.{greatest, rising}
use Rattle.s66_model.specs.{Problem, row_at, tail, walk_to}
use Rattle.s66_bound.specs.{AreCosts, HasLater}
use Rattle.s66_bound.proofs.longest.longest_from.Given as goal

abbrev pub invariant-loop-later : goal.invariant-loop-later
invariant-loop-later l =
    (b : Problem) → AreCosts b l.costs → HasLater b l.place l.longest →
    l.last ≡ max (tail (row_at b (l.place + 1))) (greatest (walk_to b (l.place + 1)) (rising l.later 1))
