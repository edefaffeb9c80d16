use Rattle.std.proofs.Common.{drop, ◌↔◌}
use Rattle.s66_isa.specs.{BLOCK_LIMIT}
use Rattle.s66_cert.specs.{AreFactSteps}
use Rattle.s66_cert.proofs.ranges.are_fact_steps.Given as goal

abbrev pub invariant-loop-step : goal.invariant-loop-step
invariant-loop-step l = AreFactSteps BLOCK_LIMIT (drop l.step-index l.steps) ↔ AreFactSteps BLOCK_LIMIT l.steps
