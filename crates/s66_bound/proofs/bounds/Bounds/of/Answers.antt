use Rattle.std.proofs.Common.{List, refl, sym, subst}
use Rattle.s66_model.specs.{Problem}
use Rattle.s66_bound.specs.{Cost, AreCosts, timed_by}
use Rattle.s66_bound.proofs.bounds.Bounds.of.Goals as goal

pub of-tables-requires-clause-known : goal.of-tables-requires-clause-known
of-tables-requires-clause-known c =
    let b : Problem = timed_by c.args.block.now c.args.profile.now in
    (b, subst (λ (es : List Cost). AreCosts b es) (sym c.as_slice.ensures.value) c.costs_of-costs.ensures)

pub invariant_of-result : goal.invariant_of-result
invariant_of-result c =
    let b : Problem = timed_by c.args.block.now c.args.profile.now in
    (c.costs_of-costs.ensures, c.of-tables.ensures b refl (subst (λ (es : List Cost). AreCosts b es) (sym c.as_slice.ensures.value) c.costs_of-costs.ensures))
