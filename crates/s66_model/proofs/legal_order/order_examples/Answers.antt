use Rattle.std.proofs.Common.{rules, [], ◌∷◌, refl, sym, true≢false}
use Rattle.s66_model.specs.{conflict}
use Rattle.s66_model.proofs.LegalOrders.{order-legal}
use Rattle.s66_model.proofs.legal_order.order_examples.Goals as goal

pub returns-clause-source_order : goal.returns-clause-source_order
unfolding conflict
returns-clause-source_order c = search (rules, order-legal)

pub returns-clause-other_first : goal.returns-clause-other_first
unfolding conflict
returns-clause-other_first c = search (rules, order-legal)

pub returns-clause-other_between : goal.returns-clause-other_between
unfolding conflict
returns-clause-other_between c = search (rules, order-legal)

pub returns-clause-before_its_need : goal.returns-clause-before_its_need
unfolding conflict
returns-clause-before_its_need c = λ legal. true≢false (sym (legal.kept 1 2 [] (1 ∷ 3 ∷ []) refl refl))
