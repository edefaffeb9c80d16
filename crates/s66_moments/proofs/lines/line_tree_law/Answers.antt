use Rattle.std.proofs.Common.{[]}
use Rattle.s66_moments.proofs.ClosedTrees.{lines-below, tree-lower}
use Rattle.s66_moments.proofs.lines.line_tree_law.Goals as goal

pub returns : goal.returns
returns c = record {
  below = lines-below;
  bound = λ rule b low lines tree shows order legal. lines-below rule b low lines [] order tree shows legal;
  lower = λ rule b low other lines prefix tree le shows. tree-lower rule b low other le lines prefix tree shows;
}
