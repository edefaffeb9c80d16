use Rattle.std.proofs.Common.{rules, ◌≡◌, [], ◌∷◌, refl, sym, inl, true≢false, arith}
use Rattle.s66_isa.specs.{row, Boolean, Multiply}
use Rattle.s66_model.specs.{conflict, three_multiplies, node, Chain, Load, Bounding, Cut, issue_of, start_of, point}
use Rattle.s66_model.proofs.LegalOrders.{order-legal}
use Rattle.s66_model.proofs.machine.coverage.coverage_examples.Goals as goal

pub returns-clause-child_not_covered : goal.returns-clause-child_not_covered
unfolding row issue_of start_of point conflict
returns-clause-child_not_covered c = λ covers. absurd (omega (arith, covers.once (3 ∷ 1 ∷ 2 ∷ []) (order-legal three_multiplies (3 ∷ 1 ∷ 2 ∷ []) (search rules))))

pub returns-clause-covered_twice : goal.returns-clause-covered_twice
unfolding row issue_of start_of point conflict
returns-clause-covered_twice c = λ covers. absurd (omega (arith, covers.once (1 ∷ 2 ∷ 3 ∷ []) (order-legal three_multiplies (1 ∷ 2 ∷ 3 ∷ []) (search rules))))

pub returns-clause-closed_below_the_best : goal.returns-clause-closed_below_the_best
unfolding row issue_of start_of point conflict
returns-clause-closed_below_the_best c = λ covers. (let (is_floor, above, below) = covers.nodes.0.1 (Bounding (Load Multiply)) refl in absurd (omega (arith, above)))

pub returns-clause-closed_by_another_leaf : goal.returns-clause-closed_by_another_leaf
unfolding row issue_of start_of point conflict
returns-clause-closed_by_another_leaf c = λ covers. (let (is_floor, above, below) = covers.nodes.0.1 (Bounding (Load Boolean)) refl in let same : Load Boolean ≡ Chain (1 ∷ []) = is_floor in absurd (cc))

pub returns-clause-best_not_legal : goal.returns-clause-best_not_legal
unfolding row issue_of start_of point conflict
returns-clause-best_not_legal c = λ covers. true≢false (sym (covers.best.kept 1 2 [] (1 ∷ 3 ∷ []) refl refl))

pub returns-clause-finished_without_a_split : goal.returns-clause-finished_without_a_split
unfolding row issue_of start_of point conflict
returns-clause-finished_without_a_split c = λ finished. finished.kept (node [] Cut) (inl refl) refl
