use Rattle.std.proofs.Common.{[], ◌∷◌, refl, inl, inr, arith}
use Rattle.s66_model.specs.{conflict, Cut, node}
use Rattle.s66_model.proofs.machine.node_table.node_table_examples.Goals as goal

pub returns-clause-child_missing : goal.returns-clause-child_missing
unfolding conflict
returns-clause-child_missing c = λ is. absurd (omega (arith, is.children [] 3 refl))

pub returns-clause-child_twice : goal.returns-clause-child_twice
unfolding conflict
returns-clause-child_twice c = λ is. absurd (omega (arith, is.children [] 3 refl))

pub returns-clause-child_of_no_split : goal.returns-clause-child_of_no_split
unfolding conflict
returns-clause-child_of_no_split c = λ is. absurd (omega (arith, is.children [] 1 refl))

pub returns-clause-child_that_is_not_ready : goal.returns-clause-child_that_is_not_ready
unfolding conflict
returns-clause-child_that_is_not_ready c = λ is. absurd (omega (arith, is.others [] 2 refl))

pub returns-clause-split_of_a_whole_order : goal.returns-clause-split_of_a_whole_order
returns-clause-split_of_a_whole_order c = λ is. absurd (omega (arith, is.splits (node (1 ∷ []) Cut) (inr (inl refl)) refl))
