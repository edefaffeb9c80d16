use Rattle.s66_node.proofs.Pieces.{kept-nodes}
use Rattle.s66_node.proofs.piece.Piece.nodes.Goals as goal

pub returns-clause-tree : goal.returns-clause-tree
returns-clause-tree c = kept-nodes _ _ _ c.self.invariant c.self.view_is
