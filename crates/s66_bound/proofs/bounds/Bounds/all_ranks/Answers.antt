use Rattle.std.proofs.Common.{[], length, subst}
use Rattle.s66_model.specs.{Problem, longest_tail}
use Rattle.s66_bound.specs.{AreRanksLeft, timed_by}
use Rattle.s66_bound.proofs.RanksHeld.{all-within, all-left}
use Rattle.s66_bound.proofs.bounds.Bounds.all_ranks.Goals as goal

pub ranks-requires : goal.ranks-requires
ranks-requires c =
    let b = timed_by c.self.inside.block.now c.self.inside.profile in
    let tables = c.self.invariant.1 in
    record { known = (longest_tail b, length b.block, tables.ranking, all-within b c.self.inside.tables.all tables.all) }

pub returns : goal.returns
returns c =
    let b = timed_by c.self.inside.block.now c.self.inside.profile in
    let tables = c.self.invariant.1 in
    let all = c.self.inside.tables.all in
    subst (λ (x : Problem). AreRanksLeft x [] c.ranks.result) c.self.view_is
    (all-left b all tables.all c.ranks.result (c.ranks.ensures (longest_tail b) (length b.block) tables.ranking (all-within b all tables.all)))
