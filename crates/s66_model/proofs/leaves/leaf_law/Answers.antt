use Rattle.s66_model.proofs.Remaining.{legal-parts}
use Rattle.s66_model.proofs.Trees.{leaf-sound}
use Rattle.s66_model.proofs.leaves.leaf_law.Goals as goal

pub returns : goal.returns
returns c = λ b prefix rest leaf legal may. (let (begins, completes) = legal-parts b.block prefix rest legal in leaf-sound b prefix rest leaf begins completes may)
