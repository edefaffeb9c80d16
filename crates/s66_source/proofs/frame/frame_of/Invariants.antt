use Rattle.std.proofs.Common.{drop, map}
use Rattle.s66_source.specs.{kept_line, classed_lines}
use Rattle.s66_source.proofs.Frames.{IsFramed}
use Rattle.s66_source.proofs.frame.frame_of.Given as goal

-- the parts so far, and then those of the lines that are left, are those of all
abbrev pub invariant-loop-line : goal.invariant-loop-line
invariant-loop-line l = IsFramed l.source (drop l.line-index (map kept_line (classed_lines l.source))) l.number l.begun l.parts.items
