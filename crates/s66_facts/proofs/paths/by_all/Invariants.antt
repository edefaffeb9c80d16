use Rattle.std.proofs.Common.{ℕ, ◌≡◌, true, length}
use Rattle.s66_isa.specs.{numbers, has, numbers_in}
use Rattle.s66_moments.specs.{IsNumber}
use Rattle.s66_facts.specs.{later_times, gathered, by_one, by_all}
use Rattle.s66_facts.proofs.paths.by_all.Given as goal

abbrev pub invariant-loop-m : goal.invariant-loop-m
invariant-loop-m l = record {
  are : (m : ℕ) → has m (numbers_in l.rest) ≡ true → IsNumber l.graph.problem m;
  whole : later_times l.latest (gathered (λ i. has i (numbers_in l.rest)) (by_one l.direction l.graph.problem l.times l.n) (numbers l.graph.problem.block)) ≡ by_all l.direction l.graph.problem (λ i. has i (numbers_in l.fn.near)) l.times l.n;
}

abbrev pub decreases-loop-m : goal.decreases-loop-m
decreases-loop-m l = length (numbers_in l.rest)
