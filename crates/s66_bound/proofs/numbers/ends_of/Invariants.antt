use Rattle.std.proofs.Common.{ℕ, ◌-◌, ◌≤◌, get_or}
use Rattle.s66_bound.proofs.LeastWords.{AreOf}
use Rattle.s66_bound.proofs.numbers.ends_of.Given as goal

abbrev pub invariant-loop-place : goal.invariant-loop-place
invariant-loop-place l = (m : ℕ) → 1 ≤ m → m ≤ l.place → l.least ≤ get_or l.words (m - 1) 0

abbrev pub invariant-loop-position : goal.invariant-loop-position
invariant-loop-position l = AreOf l.words l.least l.ends
