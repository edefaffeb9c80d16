use Rattle.std.proofs.Common.{◌≡◌, max, drop}
use Rattle.s66_isa.specs.{greatest}
use Rattle.s66_model.specs.{ResultAt}
use Rattle.s66_checker.proofs.replay.result.last_time.Given as goal

abbrev pub invariant-loop-done : goal.invariant-loop-done
invariant-loop-done l = max l.last (greatest (λ (d : ResultAt). d.time) (drop l.done-index l.results)) ≡ greatest (λ (d : ResultAt). d.time) l.results
