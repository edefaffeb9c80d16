-- Used by contracts within the crate alone: the floors of the nodes that are open or out, how many are out, and how deep they are.
use Rattle.std.specs.Prelude.{ℕ, ◌≡◌, ◌≤◌, true, if◌then◌else◌, List, [], ◌∷◌, ◌++◌}
use Rattle.s66_isa.specs.{tally}
use Rattle.s66_node.specs.{Node, is_stored_live}
use Rattle.s66_ledger.specs.Nodes.{stored_at, stores_out}

abbrev pub live_values : List Node → List ℕ
live_values [] = []
live_values (node ∷ nodes) = (if is_stored_live node.state then node.value ∷ [] else []) ++ live_values nodes

pub record AreCounted (nodes : List Node) (out deepest : ℕ) : Type 0 where
  -- this many nodes are out
  pub count : tally stores_out nodes ≡ out
  -- none that is open or out is deeper
  pub within : (i : ℕ) → is_stored_live (stored_at nodes i).state ≡ true → (stored_at nodes i).depth ≤ deepest
