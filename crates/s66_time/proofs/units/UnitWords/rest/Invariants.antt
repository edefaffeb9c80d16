use Rattle.std.proofs.Common.{◌≡◌, ◌-◌, ◌*◌, ◌≤◌, take, drop}
use Rattle.s66_isa.specs.{weigh}
use Rattle.s66_time.specs.{TOTAL_LIMIT}
use Rattle.s66_time.proofs.units.UnitWords.rest.Given as goal

abbrev pub invariant-loop-copy : goal.invariant-loop-copy
invariant-loop-copy l = record {
  sum : l.rest ≡ weigh (λ w. w - l.time) (take l.copy (drop l.first l.self.words));
  few : l.rest ≤ TOTAL_LIMIT * l.copy;
}
