use Rattle.std.proofs.Common.{◌≡◌, ◌≤◌, take, length}
use Rattle.s66_line.specs.{is_return, trim}
use Rattle.s66_line.proofs.fields.body_of.Given as goal

-- what was cut off so far are carriage returns
abbrev pub invariant-loop-end : goal.invariant-loop-end
invariant-loop-end l = record {
  within : l.end ≤ length l.line;
  same : trim is_return (take l.end l.line) ≡ trim is_return l.line;
}

abbrev pub decreases-loop-end : goal.decreases-loop-end
decreases-loop-end l = l.end
