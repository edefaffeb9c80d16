use Rattle.std.proofs.Common.{rules, ℕ, ◌≤◌, [], ◌∷◌, refl, arith}
use Rattle.s66_isa.specs.{row}
use Rattle.s66_model.specs.{issue_of, start_of, point, conflict, IsLegal, IsBound, Chain, Alone, one_load, load_problem}
use Rattle.s66_model.proofs.LegalOrders.{order-legal}
use Rattle.s66_model.proofs.Remaining.{legal-parts}
use Rattle.s66_model.proofs.Trees.{tree-sound}
use Rattle.s66_model.proofs.best_and_bound.bound_examples.Goals as goal

load-legal : IsLegal one_load (1 ∷ 3 ∷ 2 ∷ [])
unfolding conflict
load-legal = order-legal one_load (1 ∷ 3 ∷ 2 ∷ []) (search rules)

-- its chain shows 12
load-bound : (low : ℕ) → low ≤ 12 → IsBound load_problem low
unfolding row issue_of start_of point conflict
load-bound low le order legal =
    let (begins, completes) = legal-parts one_load [] order legal in
    tree-sound load_problem low [] order (Alone (Chain (1 ∷ 2 ∷ []))) begins completes ((omega arith, (refl, refl, refl)), le)

pub returns : goal.returns
unfolding row issue_of start_of point
returns c = record {
  bound_12 = load-bound 12 (omega arith);
  bound_11 = load-bound 11 (omega arith);
  no_bound_13 = λ bound. absurd (omega (arith, bound (1 ∷ 3 ∷ 2 ∷ []) load-legal));
  best_12 = ((1 ∷ 3 ∷ 2 ∷ [], load-legal, refl), load-bound 12 (omega arith));
  no_best_13 = λ best. absurd (omega (arith, best.1 (1 ∷ 3 ∷ 2 ∷ []) load-legal));
  no_best_11 = λ best. (let (order, legal, time) = best.0 in absurd (omega (arith, time, load-bound 12 (omega arith) order legal)));
}
