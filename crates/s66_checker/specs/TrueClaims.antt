-- To be believed: when what a document claims is true.
use Rattle.std.specs.Prelude.{◌≡◌, ◌≤◌, List, [], ◌∷◌, Option, None, Some}
use Rattle.s66_model.specs.{ClampedStanding, total_of, IsLegal, Tree, tree_seen, Ending, Bounding, Dominated, Factual, ShowsBy, Next, Turned, AtLine, LoadFrom}
use Rattle.s66_moments.specs.{FactStep, load_of, premises_first, shown_by_all, LineEnding, AtLeaf, AtLines, DominatedBy, ShowsByLines}
use Rattle.s66_cert.specs.{Document}
use Rattle.s66_checker.specs.Verdict.{problem_of, node_on, name_of}

-- WITH FACT LINES

-- what closes a prefix: a leaf that bounds, the facts, alone or with a load after the prefix, or a node that dominates it
abbrev pub line_ending : Document → Ending → LineEnding
line_ending d (Bounding leaf) = AtLeaf leaf
line_ending d (Dominated name) = DominatedBy name
line_ending d (Factual (Next number)) = AtLines []
line_ending d (Factual (Turned first second)) = AtLines []
line_ending d (Factual (AtLine line)) = DominatedBy (name_of (node_on d line))
line_ending d (Factual (LoadFrom after numbers)) = AtLines (load_of (problem_of d) d.bound after numbers ∷ [])

-- its tree as a tree with lines: `Next` and `Turned` are closed by the facts alone, `LoadFrom` by its load, and `AtLine` names the node
-- of that line
abbrev pub line_tree : Document → Tree LineEnding
line_tree d = tree_seen (λ at. line_ending d) [] d.tree

-- WHAT IS CLAIMED

-- Its tree shows the bound: without fact lines by its rule. With them each line is founded on those before it, for orders that take less
-- than the bound, and the tree shows the bound by all. A supposition counts as one line, which the lines within it show.
abbrev pub IsShown : Document → Option (List FactStep) → Type 0
IsShown d None = ShowsBy d.rule (problem_of d) d.bound [] d.tree
IsShown d (Some steps) =
    ShowsByLines ClampedStanding (problem_of d) d.bound (shown_by_all (problem_of d) (premises_first (problem_of d)) steps) [] (line_tree d)

-- under its own profile its order is legal and takes its time, its bound isn't above the time, and its tree shows it
pub record IsTrueClaim (d : Document) : Type 0 where
  pub legal : IsLegal (problem_of d).block d.numbers
  pub time : total_of (problem_of d) d.numbers ≡ d.time
  pub bound : d.bound ≤ d.time
  pub tree : IsShown d d.facts
