use Rattle.std.proofs.Common.{◌≡◌, ◌≤◌, ◌+◌, ◌++◌, length}
use Rattle.s66_command.specs.{changes_from}
use Rattle.s66_command.proofs.changes.changes_among.Given as goal

abbrev pub invariant-loop-numbers : goal.invariant-loop-numbers
invariant-loop-numbers l = record {
  changes : l.changes.items ++ changes_from l.place l.numbers l.standard ≡ changes_from 0 l.fn.numbers l.fn.standard;
  few : length l.changes.items ≤ l.place;
  left : l.place + length l.numbers ≡ length l.fn.numbers;
}

abbrev pub decreases-loop-numbers : goal.decreases-loop-numbers
decreases-loop-numbers l = length l.numbers
