use Rattle.std.proofs.Common.{[]}
use Rattle.s66_model.proofs.Remaining.{legal-parts}
use Rattle.s66_model.proofs.Trees.{tree-sound}
use Rattle.s66_model.proofs.tree.tree_law.Goals as goal

pub returns-clause-below : goal.returns-clause-below
returns-clause-below c = λ b low prefix rest tree shows legal. (let (begins, completes) = legal-parts b.block prefix rest legal in tree-sound b low prefix rest tree begins completes shows)

pub returns-clause-bound : goal.returns-clause-bound
returns-clause-bound c = λ b low tree shows order legal. (let (begins, completes) = legal-parts b.block [] order legal in tree-sound b low [] order tree begins completes shows)
