use Rattle.std.proofs.Common.{◌≡◌, ◌≤◌, take, length}
use Rattle.s66_line.specs.{is_trailing, trim}
use Rattle.s66_line.proofs.fields.without_trailing.Given as goal

-- what was cut off so far are blanks and carriage returns
abbrev pub invariant-loop-end : goal.invariant-loop-end
invariant-loop-end l = record {
  within : l.end ≤ length l.bytes;
  same : trim is_trailing (take l.end l.bytes) ≡ trim is_trailing l.bytes;
}

abbrev pub decreases-loop-end : goal.decreases-loop-end
decreases-loop-end l = l.end
