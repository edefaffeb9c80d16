use Rattle.std.proofs.Common.{◌≡◌, ◌≤◌, ◌+◌, drop}
use Rattle.s66_isa.specs.{tally}
use Rattle.s66_model.specs.{busy_at}
use Rattle.s66_checker.proofs.replay.past.Past.busy_count.Given as goal

-- those so far and those of the rest are all
abbrev pub invariant-loop-point : goal.invariant-loop-point
invariant-loop-point l = record {
  counted : l.count + tally (busy_at l.kind l.time) (drop l.point-index l.point-items) ≡ tally (busy_at l.kind l.time) l.point-items;
  few : l.count ≤ l.point-index;
}
