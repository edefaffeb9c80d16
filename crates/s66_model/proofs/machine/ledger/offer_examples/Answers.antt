use Rattle.std.proofs.Common.{rules, [], ◌∷◌, refl, sym, true≢false}
use Rattle.s66_isa.specs.{row}
use Rattle.s66_model.specs.{conflict, issue_of, start_of, point}
use Rattle.s66_model.proofs.LegalOrders.{order-legal}
use Rattle.s66_model.proofs.machine.ledger.offer_examples.Goals as goal

pub returns-clause-offer_of_12 : goal.returns-clause-offer_of_12
unfolding row issue_of start_of point conflict
returns-clause-offer_of_12 c = search (rules, order-legal)

pub returns-clause-offer_above_12 : goal.returns-clause-offer_above_12
unfolding row issue_of start_of point conflict
returns-clause-offer_above_12 c = search (rules, order-legal)

pub returns-clause-lower_by_no_legal_order : goal.returns-clause-lower_by_no_legal_order
unfolding row issue_of start_of point conflict
returns-clause-lower_by_no_legal_order c = λ new step. (let (points_after, lower, made) = step.1 in let (own, legal, time) = points_after in true≢false (sym (legal.kept 1 2 [] (1 ∷ 3 ∷ []) refl refl)))
