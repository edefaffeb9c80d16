use Rattle.std.proofs.Common.{◌≡◌, ◌-◌, ◌≤◌, ◌++◌, length, take, reverse}
use Rattle.s66_why.specs.{walk}
use Rattle.s66_why.proofs.path.walk.Given as goal

abbrev pub invariant-loop-back : goal.invariant-loop-back
invariant-loop-back l = record {
  walked : l.milestones.items ++ walk l.wait (reverse (take (length l.points - l.back) l.points)) ≡ walk l.fn.wait (reverse l.points);
  few : length l.milestones.items ≤ l.back;
}
