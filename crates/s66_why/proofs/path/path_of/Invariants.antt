use Rattle.std.proofs.Common.{◌≡◌, map, take}
use Rattle.s66_why.specs.{Step}
use Rattle.s66_why.proofs.path.path_of.Given as goal

abbrev pub invariant-loop-step : goal.invariant-loop-step
invariant-loop-step l = l.numbers.items ≡ map (λ (x : Step). x.number) (take l.step-index l.steps)
