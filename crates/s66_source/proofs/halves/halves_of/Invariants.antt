use Rattle.std.proofs.Common.{◌≡◌, ◌≤◌, ◌-◌, [], length, take, drop}
use Rattle.s66_source.specs.{halves_from, halves_of}
use Rattle.s66_source.proofs.halves.halves_of.Given as goal

-- no line so far is a mark
abbrev pub invariant-loop-length : goal.invariant-loop-length
invariant-loop-length l = record {
  within : l.begin ≤ length l.text;
  none : halves_from (take l.begin l.text) [] (drop l.begin l.text) ≡ halves_of l.text;
}

abbrev pub decreases-loop-length : goal.decreases-loop-length
decreases-loop-length l = length l.text - l.begin
