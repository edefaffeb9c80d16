use Rattle.std.proofs.Common.{ℕ, ◌≡◌, ◌≤◌, length, Option}
use Rattle.s66_moments.specs.{KnownArc, later}
use Rattle.s66_facts.specs.{along}
use Rattle.s66_facts.proofs.arcs.has_as_long.Given as goal

abbrev pub invariant-loop-place : goal.invariant-loop-place
invariant-loop-place l = record {
  fits : l.place ≤ length l.arcs;
  lifts : (f : KnownArc → Option ℕ) (o : Option ℕ) → later (along f l.arcs l.before l.place l.place) o ≡ along f l.arcs l.before l.place l.place → later (along f l.arcs l.before l.first l.first) o ≡ along f l.arcs l.before l.first l.first;
}

abbrev pub decreases-loop-place : goal.decreases-loop-place
decreases-loop-place l = l.place
