use Rattle.std.proofs.Common.{ℕ, ◌≡◌, ◌≤◌, length, subst}
use Rattle.s66_isa.specs.{has, numbers_in, BLOCK_LIMIT}
use Rattle.s66_isa.proofs.Sets.{numbers_in-range}
use Rattle.s66_checker.specs.Checked.{Checked}
use Rattle.s66_checker.proofs.ReadyByNeeds.{met-by}
use Rattle.s66_checker.proofs.replay.prefix.Prefix.needs_met.Goals as goal

pub returns : goal.returns
returns c =
    let q = c.args.self.now in
    let marked = subst (λ (q : Checked). (m : ℕ) → 1 ≤ m → m ≤ BLOCK_LIMIT → has m (numbers_in c.self.inside.placed) ≡ has m q.numbers) c.self.view_is c.self.invariant.marked in
    let few = subst (λ (q : Checked). length q.problem.block ≤ BLOCK_LIMIT) c.self.view_is c.self.invariant.few in
    met-by q.problem.block q.numbers c.args.n c.self.inside.placed c.needs.result c.is_within.result c.needs.ensures marked few c.requires.1
    ((λ is m low high. c.is_within.ensures.0 is m), λ each. c.is_within.ensures.1 (λ m near. let (low, high) = numbers_in-range c.needs.result m near in each m low high near))
