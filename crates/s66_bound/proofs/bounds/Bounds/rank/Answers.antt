use Rattle.std.proofs.Common.{◌≤◌, length, ap, arith, ◌∙◌}
use Rattle.s66_model.specs.{Problem, longest_tail}
use Rattle.s66_bound.specs.{rank, timed_by}
use Rattle.s66_bound.proofs.bounds.Bounds.rank.Goals as goal

pub rank-requires : goal.rank-requires
rank-requires c =
    let b = timed_by c.self.inside.block.now c.self.inside.profile in
    let (low, within) = c.requires in
    record { known = (longest_tail b, length b.block, c.self.invariant.1.ranking, low, omega (arith, within, ap (λ (x : Problem). length x.block) c.self.view_is)) }

pub returns-clause-value : goal.returns-clause-value
returns-clause-value c =
    let b = timed_by c.self.inside.block.now c.self.inside.profile in
    let high : c.args.n ≤ length b.block = omega (arith, c.requires.1, ap (λ (x : Problem). length x.block) c.self.view_is) in
    c.rank.ensures.value (longest_tail b) (length b.block) c.self.invariant.1.ranking high ∙ ap (λ (x : Problem). rank x c.args.n) c.self.view_is
