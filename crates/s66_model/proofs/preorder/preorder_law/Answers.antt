use Rattle.std.proofs.Common.{[]}
use Rattle.s66_model.specs.{EndingShows, MayEnd, TerminalHolds}
use Rattle.s66_model.proofs.Forests.{flat-forest, read-flat, flat-once, tree-match}
use Rattle.s66_model.proofs.preorder.preorder_law.Goals as goal

pub returns : goal.returns
returns c = record {
  vertices = flat-forest;
  tree = read-flat;
  once = flat-once;
  piece = λ rule b prefix tree is. tree-match b.block (TerminalHolds rule b prefix tree) tree prefix is;
  answer = λ rule b budget a is. tree-match b.block (MayEnd rule b a.tree) a.tree [] is.tree;
  shows = λ rule b low prefix tree is. tree-match b.block (EndingShows rule b low prefix tree) tree prefix is;
}
