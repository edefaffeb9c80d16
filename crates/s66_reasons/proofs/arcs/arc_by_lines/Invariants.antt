use Rattle.std.proofs.Common.{◌≡◌, None, drop}
use Rattle.s66_moments.specs.{network}
use Rattle.s66_facts.specs.{before_in}
use Rattle.s66_reasons.specs.{each_left, load_left, with_loads}
use Rattle.s66_reasons.proofs.arcs.arc_by_lines.Given as goal

-- the loads that are left are still to be added
abbrev pub invariant-loop-line : goal.invariant-loop-line
invariant-loop-line l =
    with_loads l.from l.to (each_left load_left l.to_show (drop l.line-index l.lines)) l.wait
    ≡ with_loads l.from l.to (each_left load_left None l.lines) (network l.prefix.problem (before_in l.facts.marks) l.from l.to)
