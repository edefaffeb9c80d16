use Rattle.std.proofs.Common.{ℕ, ◌≡◌, List, [], ◌∷◌, refl, sym, ap, ◌∙◌}
use Rattle.s66_model.specs.{Rule, Problem, Tree, Terminal, TerminalHolds, StatedLeaf, StatedFrontier, StatedPassed, StatedHolds, stated_values, terminal_floors, terminal_of, tree_stated}
use Rattle.s66_model.specs.Stated.{Stated}
use Rattle.s66_model.proofs.TreesHold.{tree-weaken, values-alike, seen-holds, holds-seen, seen-match, seen-splits, seen-split_at, seen-values}
use Rattle.s66_model.proofs.stated.stated_law.Goals as goal

module _ (rule : Rule) (b : Problem) (prefix : List ℕ) (tree : Tree Terminal) where
  terminal-holds : (at : List ℕ) (terminal : Stated) → StatedHolds rule b prefix tree at terminal → TerminalHolds rule b prefix tree at (terminal_of b at terminal)
  terminal-holds at (StatedLeaf value) h = refl
  terminal-holds at (StatedFrontier value) h = h.1
  terminal-holds at (StatedPassed value name) h = (h.1, h.2)

  true-values : (at : List ℕ) (terminal : Stated) → StatedHolds rule b prefix tree at terminal → stated_values terminal ≡ terminal_floors b at (terminal_of b at terminal)
  true-values at (StatedLeaf value) h = ap (λ v. v ∷ []) h
  true-values at (StatedFrontier value) h = ap (λ v. v ∷ []) h.0
  true-values at (StatedPassed value name) h = refl

pub returns : goal.returns
returns c = record {
  piece = λ rule b prefix stated h.
      (let tree = tree_stated b prefix stated in
      seen-holds (terminal_of b) b.block (TerminalHolds rule b prefix tree) stated prefix (tree-weaken b.block (StatedHolds rule b prefix tree) (λ at terminal. TerminalHolds rule b prefix tree at (terminal_of b at terminal)) (terminal-holds rule b prefix tree) stated prefix h));
  terminals = λ rule b prefix stated matches is. holds-seen (terminal_of b) b.block (TerminalHolds rule b prefix (tree_stated b prefix stated)) stated prefix matches is;
  matches = λ b prefix stated matches. seen-match (terminal_of b) stated prefix matches;
  splits = λ b prefix stated matches. seen-splits (terminal_of b) stated prefix matches;
  split_at = λ b prefix stated. seen-split_at (terminal_of b) stated prefix;
  values = λ rule b prefix stated h.
      values-alike b.block (StatedHolds rule b prefix (tree_stated b prefix stated)) (λ at terminal. stated_values terminal) (λ at terminal. terminal_floors b at (terminal_of b at terminal)) (true-values rule b prefix (tree_stated b prefix stated)) stated prefix h
      ∙ sym (seen-values (terminal_of b) (terminal_floors b) stated prefix);
}
