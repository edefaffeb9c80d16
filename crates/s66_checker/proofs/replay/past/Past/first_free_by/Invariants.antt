use Rattle.std.proofs.Common.{◌-◌, ◌≤◌, ◌<◌, ℕ}
use Rattle.s66_isa.specs.{tally}
use Rattle.s66_model.specs.{busy_at}
use Rattle.s66_checker.proofs.replay.past.Past.first_free_by.Given as goal

-- the first time isn't before the low end, and a unit is free at the high end
abbrev pub invariant-loop-low : goal.invariant-loop-low
invariant-loop-low l = record {
  late : l.from ≤ l.low;
  order : l.low ≤ l.high;
  free : tally (busy_at l.kind l.high) l.self < l.copies;
  least : (u : ℕ) → l.from ≤ u → tally (busy_at l.kind u) l.self < l.copies → l.low ≤ u;
}

abbrev pub decreases-loop-low : goal.decreases-loop-low
decreases-loop-low l = l.high - l.low
