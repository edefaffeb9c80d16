use Rattle.std.proofs.Common.{rules, ℕ, ◌≤◌, ◌≡◌, [], ◌∷◌, refl, sym, true≢false, arith}
use Rattle.s66_isa.specs.{least, row}
use Rattle.s66_model.specs.{issue_of, start_of, point, conflict, Leaf, Whole, Chain, value, Tree, Alone, TreeHolds, splits, tree_values, NoneNamed, Bounding, tree_bounding, MayEnd, ending_values}
use Rattle.s66_model.specs.{IsAnswer, one_load, load_problem, answer, load_tree, load_orders}
use Rattle.s66_model.proofs.LegalOrders.{order-legal}
use Rattle.s66_model.proofs.answer.answer_examples.Goals as goal

-- the order that takes 12, with a tree whose splits the budget allows
best-answer : (budget : ℕ) (tree : Tree Leaf) → TreeHolds one_load (λ at ending. ending ≡ Bounding Whole → 12 ≤ value load_problem at Whole) [] (tree_bounding tree) →
    TreeHolds one_load (MayEnd NoneNamed load_problem (tree_bounding tree)) [] (tree_bounding tree) → 12 ≡ least (λ v. v) (12 ∷ tree_values (ending_values load_problem) [] (tree_bounding tree)) → splits tree ≡ splits (tree_bounding tree) → splits tree ≤ budget →
    IsAnswer NoneNamed load_problem budget (answer (1 ∷ 3 ∷ 2 ∷ []) 12 12 (splits tree) tree)
unfolding row issue_of start_of point conflict
best-answer budget tree wholes floors bound same within = record {
  legal = order-legal one_load (1 ∷ 3 ∷ 2 ∷ []) (search rules);
  time = refl;
  source = omega arith;
  wholes = wholes;
  tree = floors;
  bound = bound;
  splits = same;
  within = within;
  spent = λ lower. absurd (omega (arith, lower));
  first = λ same. absurd (omega (arith, same));
}

pub returns-clause-one_load : goal.returns-clause-one_load
unfolding row issue_of start_of point conflict
returns-clause-one_load c = best-answer 100000 (Alone (Chain (1 ∷ 2 ∷ []))) (search rules) refl refl refl (omega arith)

pub returns-clause-one_load_split : goal.returns-clause-one_load_split
unfolding row issue_of start_of point conflict
returns-clause-one_load_split c = best-answer 100000 load_tree (search rules) (search rules) refl refl (omega arith)

pub returns-clause-one_load_split_down : goal.returns-clause-one_load_split_down
unfolding row issue_of start_of point conflict
returns-clause-one_load_split_down c = best-answer 6 (load_orders Whole) (search rules) (search rules) refl refl (omega arith)

pub returns-clause-one_load_cut : goal.returns-clause-one_load_cut
unfolding row issue_of start_of point conflict
returns-clause-one_load_cut c = record {
  legal = order-legal one_load (1 ∷ 2 ∷ 3 ∷ []) (search rules);
  time = refl;
  source = omega arith;
  wholes = search rules;
  tree = search rules;
  bound = refl;
  splits = refl;
  within = omega arith;
  spent = λ lower. refl;
  first = λ same. refl;
}

pub returns-clause-no_legal_order : goal.returns-clause-no_legal_order
unfolding row issue_of start_of point conflict
returns-clause-no_legal_order c = λ is. true≢false (sym (is.legal.kept 1 2 [] (1 ∷ 3 ∷ []) refl refl))
