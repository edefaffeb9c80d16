use Rattle.std.proofs.Common.{◌≡◌, ◌∷◌, take}
use Rattle.s66_isa.specs.{least}
use Rattle.s66_ledger.specs.{live_values}
use Rattle.s66_ledger.proofs.live.least_floor.Given as goal

abbrev pub invariant-loop-i : goal.invariant-loop-i
invariant-loop-i l = l.least ≡ least (λ v. v) (l.value ∷ live_values (take l.i l.nodes))
