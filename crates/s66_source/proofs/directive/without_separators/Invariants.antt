use Rattle.std.proofs.Common.{◌≡◌, ◌≤◌, ◌-◌, drop, length}
use Rattle.s66_source.specs.{skip_separators}
use Rattle.s66_source.proofs.directive.without_separators.Given as goal

-- what was passed so far are blanks and commas
abbrev pub invariant-loop-begin : goal.invariant-loop-begin
invariant-loop-begin l = record {
  within : l.begin ≤ length l.bytes;
  same : skip_separators (drop l.begin l.bytes) ≡ skip_separators l.bytes;
}

abbrev pub decreases-loop-begin : goal.decreases-loop-begin
decreases-loop-begin l = length l.bytes - l.begin
