-- Used by contracts within the crate alone: the open nodes in a heap, each with its rank: the least floor first, of equal ones the deepest, of these the newest.
use Rattle.std.specs.Prelude.{ℕ, ◌+◌, ◌-◌, ◌*◌, ◌≡◌, ◌<◌, ◌==◌, min, length, if◌then◌else◌, List, All}
use Rattle.std.specs.Ordering.{nat_cmp, ordering_then}
use Rattle.std.specs.declared.cmp.Ordering.{Ordering}
use Rattle.s66_isa.specs.{tally}
use Rattle.s66_node.specs.{Node}
use Rattle.s66_node.specs.declared.node.State.TheVariants as state
use Rattle.s66_ledger.specs.declared.limits.TheConstants.{RANKED_LIMIT, DEPTH_RANKS}
use Rattle.s66_ledger.specs.Nodes.{stored_at, stores_open}

-- the node is handed out
abbrev pub StoresOut : List Node → ℕ → Type 0
StoresOut nodes i = (i < length nodes) × ((stored_at nodes i).state ≡ state.Out)

-- floors past the limit count as the limit
abbrev pub ranked : ℕ → ℕ
ranked value = min value RANKED_LIMIT

-- the greatest is taken first
abbrev pub rank_of : (value depth : ℕ) → ℕ
rank_of value depth = (RANKED_LIMIT - ranked value) * DEPTH_RANKS + depth

-- of a rank and a node's number
abbrev pub compare_ranked : ℕ × ℕ → ℕ × ℕ → Ordering
compare_ranked x y = ordering_then (nat_cmp x.0 y.0) (nat_cmp x.1 y.1)

-- of an open node, with the length of its prefix
abbrev pub IsRanked : List Node → ℕ × ℕ → Type 0
IsRanked nodes entry =
    (entry.1 < length nodes) × ((depth : ℕ) × (depth < DEPTH_RANKS) × (entry.0 ≡ rank_of (stored_at nodes entry.1).value depth))

pub record AreOpenNodes (nodes : List Node) (entries : List (ℕ × ℕ)) : Type 0 where
  -- a number is there once if its node is open, and not else
  pub once : (i : ℕ) → tally (λ (entry : ℕ × ℕ). entry.1 == i) entries ≡ (if stores_open (stored_at nodes i) then 1 else 0)
  pub count : length entries ≡ tally stores_open nodes
  pub ranks : All (IsRanked nodes) entries
