use Rattle.std.proofs.Common.{ℕ, ◌≡◌, ◌||◌, true, false}
use Rattle.s66_isa.specs.{has, numbers_in}
use Rattle.s66_moments.specs.{Issue, Start, At, same_moment}
use Rattle.s66_facts.proofs.again.all_but.Given as goal

abbrev pub invariant-loop-position : goal.invariant-loop-position
invariant-loop-position l = (k : ℕ) → has k (numbers_in l.others) ≡ true → (same_moment l.moment (At k Issue) || same_moment l.moment (At k Start)) ≡ false
