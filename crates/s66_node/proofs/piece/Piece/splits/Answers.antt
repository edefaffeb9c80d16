use Rattle.s66_node.proofs.Pieces.{kept-splits}
use Rattle.s66_node.proofs.piece.Piece.splits.Goals as goal

pub returns : goal.returns
returns c = kept-splits _ _ _ c.self.invariant c.self.view_is
