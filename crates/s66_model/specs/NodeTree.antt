-- Used by contracts of the ledger: the tree of its nodes, split where a node is split, with floors and dominated leaves elsewhere.
use Rattle.std.specs.Prelude.{ℕ, zero, suc, Bool, if◌then◌else◌, List, [], ◌∷◌, ◌++◌, length, nat_lt}
use Rattle.s66_isa.specs.{Instr, tally}
use Rattle.s66_model.specs.Timing.{Problem}
use Rattle.s66_model.specs.LegalOrder.{ready}
use Rattle.s66_model.specs.Leaves.{floor}
use Rattle.s66_model.specs.Trees.{Siblings, NoMore, Unsplit, Split, Tree, Alone, Parted}
use Rattle.s66_model.specs.DominatedLeaves.{Ending, Bounding, Dominated, Factual}
use Rattle.s66_model.specs.LedgerRuns.{State, Open, Out, Cut, Closed, Node}
use Rattle.s66_model.specs.NodeTable.{stands_at, is_cut_at}

-- each of these numbers after the prefix, in front of its later siblings
abbrev pub each_sibling : {M : Type 0} → (List ℕ → Siblings M → Siblings M) → List ℕ → List ℕ → Siblings M
each_sibling sibling prefix [] = NoMore
each_sibling sibling prefix (n ∷ ns) = sibling (prefix ++ n ∷ []) (each_sibling sibling prefix ns)

-- a prefix in front of its later siblings: split where the test says so, down to this many numbers more, and else with its
-- terminal
abbrev pub grown_sibling : {M : Type 0} → List Instr → (List ℕ → Bool) → (List ℕ → M) → ℕ → List ℕ → Siblings M → Siblings M
grown_sibling block is_split terminal zero at later = Unsplit (terminal at) later
grown_sibling block is_split terminal (suc more) at later =
    if is_split at then Split (ready block at) (each_sibling (grown_sibling block is_split terminal more) at (ready block at)) later else Unsplit (terminal at) later

abbrev pub grown_tree : {M : Type 0} → List Instr → (List ℕ → Bool) → (List ℕ → M) → Tree M
grown_tree block is_split terminal =
    if is_split [] then Parted (ready block []) (each_sibling (grown_sibling block is_split terminal (length block)) [] (ready block [])) else Alone (terminal [])

-- some node is split there
abbrev pub is_split_at : List Node → List ℕ → Bool
is_split_at nodes at = nat_lt 0 (tally (is_cut_at at) nodes)

-- what a prefix has whose node is in this state and isn't split: its name if it is dominated, else its floor
abbrev pub state_ending : Problem → List ℕ → State → Ending
state_ending b at Open = Bounding (floor b at)
state_ending b at Out = Bounding (floor b at)
state_ending b at Cut = Bounding (floor b at)
state_ending b at (Closed (Bounding leaf)) = Bounding (floor b at)
state_ending b at (Closed (Dominated name)) = Dominated name
state_ending b at (Closed (Factual leaf)) = Bounding (floor b at)

-- by the first node that is there
abbrev pub ending_at : Problem → List Node → List ℕ → Ending
ending_at b [] at = Bounding (floor b at)
ending_at b (node ∷ nodes) at = if stands_at at node then state_ending b at node.state else ending_at b nodes at

abbrev pub node_tree : Problem → List Node → Tree Ending
node_tree b nodes = grown_tree b.block (is_split_at nodes) (ending_at b nodes)
