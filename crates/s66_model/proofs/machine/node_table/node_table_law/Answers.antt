use Rattle.s66_model.proofs.OneTree.{history-table}
use Rattle.s66_model.proofs.machine.node_table.node_table_law.Goals as goal

pub returns : goal.returns
returns c = history-table
