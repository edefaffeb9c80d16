-- Used by contracts of the ledger: when a search may end, and the answer that its ledger then is.
use Rattle.std.specs.Prelude.{ℕ, ◌≡◌, ◌≤◌, ◌⊎◌, true}
use Rattle.s66_isa.specs.{Among}
use Rattle.s66_model.specs.Timing.{Problem}
use Rattle.s66_model.specs.LegalOrder.{IsIncomplete}
use Rattle.s66_model.specs.Leaves.{floor_value}
use Rattle.s66_model.specs.Answer.{Answer}
use Rattle.s66_model.specs.LedgerRuns.{Ledger, Node, is_live, best_time}
use Rattle.s66_model.specs.Coverage.{bound_of}
use Rattle.s66_model.specs.NodeTree.{node_tree}

-- no node that is open or out has a floor below the best time, or the budget is spent and those that have are incomplete
abbrev pub IsEnded : Problem → ℕ → Ledger → Type 0
IsEnded b budget l =
    (node : Node) → Among node l.nodes → is_live node ≡ true
    → (best_time b l ≤ floor_value b node.prefix) ⊎ (IsIncomplete b.block node.prefix × (l.spent ≡ budget))

-- the best order, the bound, and the tree of the nodes
abbrev pub ended_answer : Problem → Ledger → Answer
ended_answer b l =
    record { order = l.best; time = best_time b l; bound = bound_of b l; splits = l.spent; tree = node_tree b l.nodes }
