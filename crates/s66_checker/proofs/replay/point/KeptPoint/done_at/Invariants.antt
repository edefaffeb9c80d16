use Rattle.std.proofs.Common.{◌≡◌, if◌then◌else◌, max, drop}
use Rattle.s66_isa.specs.{greatest, same_reg}
use Rattle.s66_model.specs.{ResultAt}
use Rattle.s66_checker.proofs.replay.point.KeptPoint.done_at.Given as goal

abbrev pub invariant-loop-done : goal.invariant-loop-done
invariant-loop-done l = max l.last (greatest (λ (d : ResultAt). if same_reg d.reg l.register then d.time else 0) (drop l.done-index l.self.results)) ≡ greatest (λ (d : ResultAt). if same_reg d.reg l.register then d.time else 0) l.self.results
