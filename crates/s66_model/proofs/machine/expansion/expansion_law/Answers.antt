use Rattle.std.proofs.Common.{ℕ, ◌≤◌, ◌<◌, List, ap, arith, inl, inr, refl}
use Rattle.s66_model.specs.{Rule, Problem, IsIncomplete, value, floor_value, Tree, Alone, Parted, splits, Terminal, Carries, Frontier, Passed, TerminalHolds, TerminalHoldsWhile, IsExpansion}
use Rattle.s66_model.proofs.LedgerSteps.{root-stands}
use Rattle.s66_model.proofs.TreesHold.{tree-weaken}
use Rattle.s66_model.proofs.machine.expansion.expansion_law.Goals as goal

terminal-piece : (rule : Rule) (b : Problem) (high low : ℕ) (prefix : List ℕ) (tree : Tree Terminal) (at : List ℕ) (terminal : Terminal) → TerminalHoldsWhile rule b high low prefix tree at terminal → TerminalHolds rule b prefix tree at terminal
terminal-piece rule b high low prefix tree at (Carries leaf) h = h.0
terminal-piece rule b high low prefix tree at terminal h = h.0

pub returns-clause-piece : goal.returns-clause-piece
returns-clause-piece c = λ rule b high low allowance prefix tree is.
    tree-weaken b.block (TerminalHoldsWhile rule b high low prefix tree) (TerminalHolds rule b prefix tree) (terminal-piece rule b high low prefix tree) tree prefix is.piece

-- if it isn't split it is complete, or its floor is at least low, or no split is allowed
split-due : (rule : Rule) (b : Problem) (high low allowance : ℕ) (prefix : List ℕ) (tree : Tree Terminal) → IsExpansion rule b high low allowance prefix tree → 1 ≤ allowance → IsIncomplete b.block prefix → floor_value b prefix < low → 1 ≤ splits tree
split-due rule b high low allowance prefix (Parted numbers siblings) is some part below = omega arith
split-due rule b high low allowance prefix (Alone Frontier) is some part below = absurd (omega (arith, some, is.spent (inl refl)))
split-due rule b high low allowance prefix (Alone (Passed name)) is some part below =
    (let stands = root-stands rule b low prefix (Alone (Passed name)) is.piece.0 in absurd cc)
split-due rule b high low allowance prefix (Alone (Carries leaf)) is some part below = elim is.piece.1 [
  | inl whole ↦ absurd (omega (arith, whole, part))
  | inr no_less ↦ absurd (omega (arith, no_less, below, ap (value b prefix) is.piece.0))
]

pub returns-clause-due : goal.returns-clause-due
returns-clause-due c = split-due
