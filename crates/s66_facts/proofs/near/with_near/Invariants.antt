use Rattle.std.proofs.Common.{ℕ, ◌+◌, ◌≡◌, ◌<◌, ◌⊎◌, ◌||◌, true}
use Rattle.s66_isa.specs.{has, numbers_in}
use Rattle.s66_moments.specs.{IsNumber}
use Rattle.s66_facts.specs.{before_in, IsCovered}
use Rattle.s66_facts.proofs.near.with_near.Given as goal

abbrev pub invariant-loop-distance : goal.invariant-loop-distance
invariant-loop-distance l = record {
  old : (k : ℕ) → has k (numbers_in l.fn.near) ≡ true → has k (numbers_in l.all) ≡ true;
  new : (k : ℕ) → has k (numbers_in l.all) ≡ true → (has k (numbers_in l.fn.near) || has k (numbers_in l.own)) ≡ true;
  numbers : (k : ℕ) → has k (numbers_in l.all) ≡ true → IsNumber l.graph.problem k;
  covered : (m : ℕ) → IsNumber l.graph.problem m → m < l.n + l.distance → l.n < m + l.distance → has m (numbers_in l.own) ≡ true → (has m (numbers_in l.all) ≡ true) ⊎ IsCovered l.graph.problem (before_in l.sooner) l.all m l.n;
}
