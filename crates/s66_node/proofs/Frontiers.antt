-- A tree that is made leaves a prefix open only if it was not allowed to split it.
use Rattle.std.proofs.Common.{ℕ, ◌+◌, ◌≤◌, ◌<◌, ◌≡◌, List, [], ◌∷◌, ◌++◌, arith, inl, inr}
use Rattle.s66_model.specs.{Vertex, AtTerminal, AtSplit, Terminal, Frontier}
use Rattle.s66_node.specs.{IsSpent}
use Rattle.s66_node.proofs.Leasts.{among-either}

module _ (allowance count : ℕ) (lines : List (Vertex Terminal)) (spent : IsSpent allowance count lines) where
  -- one more split: none was left open before
  pub spent-split : (numbers : List ℕ) → count < allowance → IsSpent allowance (count + 1) (lines ++ AtSplit numbers ∷ [])
  spent-split numbers lt among =
      among-either (AtTerminal Frontier) lines (AtSplit numbers ∷ []) (count + 1 ≡ allowance)
      (λ before. absurd (omega (arith, lt, spent before)))
      (λ here. elim here [ inl is ↦ absurd cc | inr none ↦ absurd none ]) among

  -- one more that isn't split: it is left open only if no split is allowed any more
  pub spent-terminal : (terminal : Terminal) → count ≤ allowance → (terminal ≡ Frontier → ¬ (count < allowance)) → IsSpent allowance count (lines ++ AtTerminal terminal ∷ [])
  spent-terminal terminal within left among =
      among-either (AtTerminal Frontier) lines (AtTerminal terminal ∷ []) (count ≡ allowance) spent
      (λ here. elim here [
        | inl is ↦ (let open_is : terminal ≡ Frontier = cc in omega (arith, within, left open_is))
        | inr none ↦ absurd none
      ]) among
