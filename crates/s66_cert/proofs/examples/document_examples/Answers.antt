use Rattle.std.proofs.Common.{refl, arith, rules}
use Rattle.s66_isa.specs.{BLOCK_LIMIT}
use Rattle.s66_line.proofs.InstructionTexts.{instruction}
use Rattle.s66_cert.specs.{IsDocument, by_facts}
use Rattle.s66_cert.proofs.examples.document_examples.Goals as goal

pub returns-clause-order_of_128 : goal.returns-clause-order_of_128
returns-clause-order_of_128 c = search (rules, instruction)

pub returns-clause-order_of_one : goal.returns-clause-order_of_one
returns-clause-order_of_one c = search (rules, instruction)

pub returns-clause-whole_order_alone : goal.returns-clause-whole_order_alone
returns-clause-whole_order_alone c = search (rules, instruction)

pub returns-clause-chain_of_one : goal.returns-clause-chain_of_one
returns-clause-chain_of_one c = search (rules, instruction)

pub returns-clause-chain_of_128 : goal.returns-clause-chain_of_128
returns-clause-chain_of_128 c = search (rules, instruction)

pub returns-clause-split_of_128 : goal.returns-clause-split_of_128
returns-clause-split_of_128 c = search (rules, instruction)

pub returns-clause-child_twice : goal.returns-clause-child_twice
returns-clause-child_twice c = search (rules, instruction)

pub returns-clause-every_unit_load : goal.returns-clause-every_unit_load
returns-clause-every_unit_load c = search (rules, instruction)

pub returns-clause-bound_above_time : goal.returns-clause-bound_above_time
returns-clause-bound_above_time c = search (rules, instruction)

pub returns-clause-greatest_times : goal.returns-clause-greatest_times
returns-clause-greatest_times c = search (rules, instruction)

pub returns-clause-least_times : goal.returns-clause-least_times
returns-clause-least_times c = search (rules, instruction)

pub returns-clause-block_of_128 : goal.returns-clause-block_of_128
returns-clause-block_of_128 c = search (rules, instruction)

pub returns-clause-text_of_199 : goal.returns-clause-text_of_199
returns-clause-text_of_199 c = search (rules, instruction)

pub returns-clause-dominated_by_earlier_nodes : goal.returns-clause-dominated_by_earlier_nodes
returns-clause-dominated_by_earlier_nodes c = search (rules, instruction)

pub returns-clause-dominated_by_standing_nodes : goal.returns-clause-dominated_by_standing_nodes
returns-clause-dominated_by_standing_nodes c = search (rules, instruction)

pub returns-clause-name_of_128 : goal.returns-clause-name_of_128
returns-clause-name_of_128 c = search (rules, instruction)

pub returns-clause-order_at_64 : goal.returns-clause-order_at_64
returns-clause-order_at_64 c = search (rules, instruction)

pub returns-clause-facts : goal.returns-clause-facts
returns-clause-facts c = search (rules, instruction)

pub returns-clause-supposition : goal.returns-clause-supposition
returns-clause-supposition c = search (rules, instruction)

pub returns-clause-supposition_without_end : goal.returns-clause-supposition_without_end
returns-clause-supposition_without_end c = search (rules, instruction)

pub returns-clause-no_facts : goal.returns-clause-no_facts
returns-clause-no_facts c = search (rules, instruction)

pub returns-clause-load_of_all : goal.returns-clause-load_of_all
returns-clause-load_of_all c = search (rules, instruction)

pub returns-clause-load_between : goal.returns-clause-load_between
returns-clause-load_between c = search (rules, instruction)

pub returns-clause-line_that_dominates : goal.returns-clause-line_that_dominates
returns-clause-line_that_dominates c = search (rules, instruction)

pub returns-clause-load_leaf : goal.returns-clause-load_leaf
returns-clause-load_leaf c = search (rules, instruction)

pub returns-clause-facts_4096 : goal.returns-clause-facts_4096
returns-clause-facts_4096 c = λ steps e are.
    let is : IsDocument BLOCK_LIMIT by_facts = search (rules, instruction) in
    record {
      profile = is.profile;
      block = is.block;
      time = is.time;
      bound = is.bound;
      numbers = is.numbers;
      tree = is.tree;
      splits = is.splits;
      facts = (refl, omega (arith, e), are);
      leaves = is.leaves;
    }

pub returns-clause-facts_4097 : goal.returns-clause-facts_4097
returns-clause-facts_4097 c = λ steps e is. omega (arith, e, is.facts.1)
