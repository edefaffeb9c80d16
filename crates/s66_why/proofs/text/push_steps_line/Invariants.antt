use Rattle.std.proofs.Common.{◌≡◌, ◌++◌, codes, drop, map}
use Rattle.s66_isa.specs.{after_blanks}
use Rattle.s66_why.specs.{Step}
use Rattle.s66_why.proofs.text.push_steps_line.Given as goal

abbrev pub invariant-loop-step : goal.invariant-loop-step
invariant-loop-step l =
    l.out.items ++ after_blanks (map (λ (x : Step). x.adds) (drop l.step-index l.steps)) ≡ l.fn.out.items ++ codes "STEPS" ++ after_blanks (map (λ (x : Step). x.adds) l.steps)
