use Rattle.s66_node.proofs.Pieces.{kept-timed}
use Rattle.s66_node.proofs.piece.Piece.timed.Goals as goal

pub returns-clause-best : goal.returns-clause-best
returns-clause-best c = kept-timed _ _ _ c.self.invariant c.self.view_is
