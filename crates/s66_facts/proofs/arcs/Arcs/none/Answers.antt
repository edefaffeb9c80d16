use Rattle.std.proofs.Common.{ℕ, List, [], replicate, sym, subst}
use Rattle.s66_isa.specs.{BLOCK_LIMIT}
use Rattle.s66_moments.specs.{KnownArc}
use Rattle.s66_facts.specs.{Forward, Backward, IsChained}
use Rattle.s66_facts.proofs.Chained.{chained-none}
use Rattle.s66_facts.proofs.arcs.Arcs.none.Goals as goal

pub invariant_of-result : goal.invariant_of-result
invariant_of-result c = (
  subst (λ (arcs : List KnownArc). IsChained BLOCK_LIMIT Forward arcs c.none.result.last c.none.result.before.items) (sym c.new.ensures)
      (subst (λ (last : List ℕ). IsChained BLOCK_LIMIT Forward [] last c.none.result.before.items) (sym c.none.ensures.last)
      (subst (λ (before : List ℕ). IsChained BLOCK_LIMIT Forward [] (replicate BLOCK_LIMIT 0) before) (sym c.none.ensures.before) (chained-none BLOCK_LIMIT Forward))),
  subst (λ (arcs : List KnownArc). IsChained BLOCK_LIMIT Backward arcs c.none-2.result.last c.none-2.result.before.items) (sym c.new.ensures)
      (subst (λ (last : List ℕ). IsChained BLOCK_LIMIT Backward [] last c.none-2.result.before.items) (sym c.none-2.ensures.last)
      (subst (λ (before : List ℕ). IsChained BLOCK_LIMIT Backward [] (replicate BLOCK_LIMIT 0) before) (sym c.none-2.ensures.before) (chained-none BLOCK_LIMIT Backward))),
)
