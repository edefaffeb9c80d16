use Rattle.std.proofs.Common.{◌≡◌, ◌++◌, codes, drop, flat_map}
use Rattle.s66_why.specs.{Hazard, hazard_text}
use Rattle.s66_why.proofs.hazard.push_other_hazards.Given as goal

abbrev pub invariant-loop-hazard : goal.invariant-loop-hazard
invariant-loop-hazard l =
    l.out.items ++ flat_map (λ (other : Hazard). codes ", " ++ hazard_text other) (drop l.hazard-index l.hazards)
    ≡ l.fn.out.items ++ flat_map (λ (other : Hazard). codes ", " ++ hazard_text other) l.hazards
