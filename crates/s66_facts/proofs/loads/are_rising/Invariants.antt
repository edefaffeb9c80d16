use Rattle.std.proofs.Common.{◌-◌, ◌≡◌, ◌≤◌, drop}
use Rattle.s66_moments.specs.{are_rising}
use Rattle.s66_facts.proofs.loads.are_rising.Given as goal

abbrev pub invariant-loop-place : goal.invariant-loop-place
invariant-loop-place l = record {
  low : 1 ≤ l.place;
  rising : are_rising (drop (l.place - 1) l.numbers) ≡ are_rising l.numbers;
}
