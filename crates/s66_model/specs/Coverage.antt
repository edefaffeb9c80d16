-- To be believed: what every state of the ledger keeps, the bound that it shows, and how it ends.
use Rattle.std.specs.Prelude.{ℕ, ◌+◌, ◌≡◌, ◌≤◌, Bool, true, false, if◌then◌else◌, not, ◌&&◌, ◌==◌, List, [], ◌∷◌, ◌++◌}
use Rattle.s66_isa.specs.{tally, weigh, least, Among}
use Rattle.s66_model.specs.declared.rule.Rule.{Rule}
use Rattle.s66_model.specs.Timing.{Problem, total_of}
use Rattle.s66_model.specs.LegalOrder.{IsLegal, IsBeginning}
use Rattle.s66_model.specs.Leaves.{value, floor, floor_value}
use Rattle.s66_model.specs.Trees.{split_at}
use Rattle.s66_model.specs.Answer.{Answer, IsAnswer}
use Rattle.s66_model.specs.DominatedLeaves.{Ending, Bounding, Dominated, Factual, DominatesByRule}
use Rattle.s66_model.specs.LedgerRuns.{Ledger, Node, Cut, Closed, is_cut, is_live, best_time, HasNamed}

-- the order begins with the prefix
abbrev pub begins : List ℕ → List ℕ → Bool
begins [] order = true
begins (n ∷ ns) [] = false
begins (n ∷ ns) (m ∷ ms) = n == m && begins ns ms

-- the node isn't split, and the order begins with its prefix
abbrev pub covers : List ℕ → Node → Bool
covers order node = not (is_cut node) && begins node.prefix order

-- Of all these nodes a closed one carries its floor, or the name of one that dominates it by the rule. The floor is at least the
-- best time and at most the total of each order in its subtree.
abbrev pub ClosedHolds : Rule → Problem → ℕ → List Node → List ℕ → Ending → Type 0
ClosedHolds rule b best all prefix (Bounding leaf) =
    (leaf ≡ floor b prefix) × (best ≤ value b prefix leaf)
    × ((order : List ℕ) → IsLegal b.block order → begins prefix order ≡ true → value b prefix leaf ≤ total_of b order)
ClosedHolds rule b best all prefix (Dominated name) = DominatesByRule rule b name prefix × HasNamed rule all name
ClosedHolds rule b best all prefix (Factual leaf) = ⊥

abbrev pub NodeHolds : Rule → Problem → ℕ → List Node → Node → Type 0
NodeHolds rule b best all node =
    IsBeginning b.block node.prefix × ((ending : Ending) → node.state ≡ Closed ending → ClosedHolds rule b best all node.prefix ending)

abbrev pub NodesHold : Rule → Problem → ℕ → List Node → List Node → Type 0
NodesHold rule b best all [] = Unit {0}
NodesHold rule b best all (node ∷ nodes) = NodeHolds rule b best all node × NodesHold rule b best all nodes

pub record Covers (rule : Rule) (b : Problem) (budget : ℕ) (l : Ledger) : Type 0 where
  -- every legal order begins with the prefix of exactly one open, out or closed node
  pub once : (order : List ℕ) → IsLegal b.block order → tally (covers order) l.nodes ≡ 1
  pub nodes : NodesHold rule b (best_time b l) l.nodes l.nodes
  pub best : IsLegal b.block l.best
  -- what is spent is the number of split nodes
  pub spent : l.spent ≡ tally is_cut l.nodes
  pub sum : l.left + weigh (λ n. n) l.allowances + l.spent ≡ budget

-- the best time doesn't rise
abbrev pub NeverRises : Problem → Ledger → Ledger → Type 0
NeverRises b old new = best_time b new ≤ best_time b old

-- THE BOUND

abbrev pub live_floors : Problem → List Node → List ℕ
live_floors b [] = []
live_floors b (node ∷ nodes) = (if is_live node then floor_value b node.prefix ∷ [] else []) ++ live_floors b nodes

-- the least of the best time and the floors of the nodes that are open or out
abbrev pub bound_of : Problem → Ledger → ℕ
bound_of b l = least (λ v. v) (best_time b l ∷ live_floors b l.nodes)

-- THE END

-- an answer for the ledger's budget, no slower than its best, whose tree has every split of its table; that the tree shows its bound follows from its being an answer
pub record IsFinished (rule : Rule) (b : Problem) (budget : ℕ) (l : Ledger) (a : Answer) : Type 0 where
  pub answer : IsAnswer rule b budget a
  pub time : a.time ≤ best_time b l
  pub kept : (node : Node) → Among node l.nodes → node.state ≡ Cut → Among node.prefix (split_at [] a.tree)
