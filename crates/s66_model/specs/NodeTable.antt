-- Used by contracts of the ledger: its nodes are those of one tree, and its best order is the source order or faster.
use Rattle.std.specs.Prelude.{ℕ, ◌≡◌, ◌<◌, ◌⊎◌, ◌==◌, ◌&&◌, Bool, true, false, List, [], ◌∷◌, ◌++◌}
use Rattle.s66_isa.specs.{tally, Among, numbers}
use Rattle.s66_model.specs.Timing.{Problem}
use Rattle.s66_model.specs.LegalOrder.{is_ready, IsIncomplete}
use Rattle.s66_model.specs.Answer.{source_time}
use Rattle.s66_model.specs.LedgerRuns.{Ledger, Node, Cut, is_cut, best_time}

abbrev pub same_numbers : List ℕ → List ℕ → Bool
same_numbers [] [] = true
same_numbers [] (m ∷ ms) = false
same_numbers (n ∷ ns) [] = false
same_numbers (n ∷ ns) (m ∷ ms) = n == m && same_numbers ns ms

-- the node's prefix is this one
abbrev pub stands_at : List ℕ → Node → Bool
stands_at prefix node = same_numbers node.prefix prefix

-- and it is split
abbrev pub is_cut_at : List ℕ → Node → Bool
is_cut_at prefix node = is_cut node && stands_at prefix node

pub record IsTable (b : Problem) (l : Ledger) : Type 0 where
  -- the empty prefix has one node
  pub root : tally (stands_at []) l.nodes ≡ 1
  -- with one ready number more, a prefix has as many nodes as it has split ones: one if it is split, and none if it isn't
  pub children : (at : List ℕ) (n : ℕ) → is_ready b.block at n ≡ true → tally (stands_at (at ++ n ∷ [])) l.nodes ≡ tally (is_cut_at at) l.nodes
  -- and with any other number more it has none
  pub others : (at : List ℕ) (n : ℕ) → is_ready b.block at n ≡ false → tally (stands_at (at ++ n ∷ [])) l.nodes ≡ 0
  -- splits are at incomplete prefixes
  pub splits : (node : Node) → Among node l.nodes → node.state ≡ Cut → IsIncomplete b.block node.prefix
  -- the best order is the source order, or strictly faster
  pub best : (l.best ≡ numbers b.block) ⊎ (best_time b l < source_time b)
