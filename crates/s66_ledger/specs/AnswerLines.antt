-- Used by contracts within the crate alone: the lines of an answer's tree that are still to come, by the prefix of the next one and by its node.
use Rattle.std.specs.Prelude.{ℕ, ◌≡◌, ◌<◌, Bool, List, [], length, get_or}
use Rattle.s66_isa.specs.{Among}
use Rattle.s66_model.specs.{Problem, IsBeginning, Ending, Vertex, coming, IsTable, is_split_at, ending_at, lines_of}
use Rattle.s66_model.specs.LedgerRuns as model
use Rattle.s66_node.specs.{Node}
use Rattle.s66_ledger.specs.LedgerMachine.{ledger_from}
use Rattle.s66_ledger.specs.Nodes.{nodes_of, prefixes}

-- of the trees that the nodes have at these prefixes
abbrev pub lines_from : Problem → List Node → List (List ℕ) → List (Vertex Ending)
lines_from b nodes ats = lines_of b.block (is_split_at (nodes_of b nodes)) (ending_at b (nodes_of b nodes)) ats

-- their lines
abbrev pub lines_left : Problem → List Node → Bool → List ℕ → List (Vertex Ending)
lines_left b nodes more prefix = lines_from b nodes (coming b.block more prefix)

-- THE NODES

-- they are those of one tree
pub record AreOneTree (b : Problem) (nodes : List Node) : Type 0 where
  pub best : List ℕ
  pub table : IsTable b (ledger_from b nodes best 0 [] 0)
  pub begins : (node : model.Node) → Among node (nodes_of b nodes) → IsBeginning b.block node.prefix

-- the prefix has this node
pub record StandsAt (nodes : List Node) (node : ℕ) (prefix : List ℕ) : Type 0 where
  pub within : node < length nodes
  pub over : get_or (prefixes nodes) node [] ≡ prefix
