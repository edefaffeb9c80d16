use Rattle.std.proofs.Common.{◌≡◌, ◌≤◌, length}
use Rattle.s66_moments.specs.{later}
use Rattle.s66_facts.specs.{along, by_arc, time_along}
use Rattle.s66_facts.proofs.arcs.latest_along.Given as goal

abbrev pub invariant-loop-place : goal.invariant-loop-place
invariant-loop-place l = record {
  fits : l.place ≤ length l.arcs;
  whole : later l.latest (along (by_arc l.direction (time_along l.direction l.times l.first) l.to) l.arcs l.before l.place l.place) ≡ along (by_arc l.direction (time_along l.direction l.times l.first) l.to) l.arcs l.before l.last l.last;
}

abbrev pub decreases-loop-place : goal.decreases-loop-place
decreases-loop-place l = l.place
