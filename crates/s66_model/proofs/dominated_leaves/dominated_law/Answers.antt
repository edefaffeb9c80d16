use Rattle.std.proofs.Common.{[]}
use Rattle.s66_model.proofs.DominatedTrees.{shown-below, tree-bounding, bounding-tree}
use Rattle.s66_model.proofs.dominated_leaves.dominated_law.Goals as goal

pub returns : goal.returns
returns c = record {
  below = shown-below;
  bound = λ rule b low tree shows order legal. shown-below rule b low [] order tree shows legal;
  leaves = λ rule b low prefix tree. (tree-bounding rule b low prefix tree, bounding-tree rule b low prefix tree);
}
