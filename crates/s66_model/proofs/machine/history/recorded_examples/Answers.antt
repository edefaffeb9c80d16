use Rattle.std.proofs.Common.{rules, true, false, refl}
use Rattle.s66_model.specs.{Frontier, one_split}
use Rattle.s66_model.proofs.machine.history.recorded_examples.Goals as goal

pub returns-clause-refused : goal.returns-clause-refused
returns-clause-refused c = (true, one_split Frontier, search rules, search rules, refl)

pub returns-clause-refused_at_another_prefix : goal.returns-clause-refused_at_another_prefix
returns-clause-refused_at_another_prefix c = (true, one_split Frontier, search rules, search rules, refl)

pub returns-clause-refused_for_another_block : goal.returns-clause-refused_for_another_block
returns-clause-refused_for_another_block c = (false, one_split Frontier, search rules, search rules, refl)

pub returns-clause-refused_for_another_rule : goal.returns-clause-refused_for_another_rule
returns-clause-refused_for_another_rule c = (false, one_split Frontier, search rules, search rules, refl)
