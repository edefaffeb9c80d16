-- What was found of a prefix becomes a node of the tree that is made.
use Rattle.std.proofs.Common.{ℕ, true, ◌≤◌, ◌<◌, ◌≡◌, List, [], ◌∷◌, ◌++◌, length, map, get_or, refl, sym, ap, ◌∙◌, subst, append-nil}
use Rattle.s66_model.specs.{Rule, Problem, floor_value, ready, Vertex, AtTerminal, AtSplit, Terminal, Frontier, Passed}
use Rattle.s66_node.specs.{Dominance, Node, Unsplit, has_floor, Named, named, named_at, node_line, prefixes_over, node_lines, IsNode, AreNodes, Span, span, IsFound, HasValue, IsPushed, state_by}
use Rattle.s66_node.specs.{value_by, named_by, terminal_by}
use Rattle.s66_node.specs.declared.node.State.TheVariants as state
use Rattle.s66_node.specs.declared.grow.Unsplit.TheVariants as unsplit
use Rattle.s66_node.proofs.Nodes.{ArePushed, are-pushed}
use Rattle.s66_node.proofs.Terminals.{left-wider}

-- a prefix that isn't open isn't left open
pub found-open : (b : Problem) (at : List ℕ) (u : Unsplit) → terminal_by b at u ≡ Frontier → state_by u ≡ state.Open
found-open b at (unsplit.Leaf v) is = absurd cc
found-open b at (unsplit.Open v) is = refl
found-open b at (unsplit.Dominated v name) is = absurd cc

-- it is found for wider best times too
pub found-wider : (rule : Rule) (b : Problem) (high low more less : ℕ) (at : List ℕ) (known : List (List ℕ)) (u : Unsplit) → high ≤ more → less ≤ low → IsFound rule b (span high low) at known u → IsFound rule b (span more less) at known u
found-wider rule b high low more less at known u up down h =
    record { value = h.value; left = left-wider rule b high low more less at (terminal_by b at u) up down h.left; knows = h.knows }

module _ (b : Problem) (at : List ℕ) (u : Unsplit) (floor : value_by u ≡ floor_value b at) (all : List Named) (parent value number depth : ℕ) (deep : depth ≡ length at) (short : depth ≤ 255) (valued : HasValue all value (value_by u) (named_by u)) where
  abbrev x : Node
  x = record { parent = parent; value = value; number = number; depth = depth; made = state_by u; state = state_by u }

  found-node : IsNode b all at x
  found-node = by u floor valued
    where
      by : (v : Unsplit) → value_by v ≡ floor_value b at → HasValue all value (value_by v) (named_by v) → IsNode b all at (record { parent = parent; value = value; number = number; depth = depth; made = state_by v; state = state_by v })
      by (unsplit.Leaf v) e h = record { depth = deep; short = short; made = refl; floor = λ is. h ∙ e; within = λ is. absurd cc; named = λ is. absurd cc }
      by (unsplit.Open v) e h = record { depth = deep; short = short; made = refl; floor = λ is. h ∙ e; within = λ is. absurd cc; named = λ is. absurd cc }
      by (unsplit.Dominated v name) e h =
          record { depth = deep; short = short; made = refl; floor = λ is. absurd cc; within = λ is. h.0; named = λ is. ap (λ (d : Named). d.floor) h.1 ∙ e }

  found-line : node_line b (named_at all value).name at (state_by u) ≡ AtTerminal (terminal_by b at u)
  found-line = by u valued
    where
      by : (v : Unsplit) → HasValue all value (value_by v) (named_by v) → node_line b (named_at all value).name at (state_by v) ≡ AtTerminal (terminal_by b at v)
      by (unsplit.Leaf v) h = refl
      by (unsplit.Open v) h = refl
      by (unsplit.Dominated v name) h = ap (λ (d : Named). AtTerminal (Passed d.name)) h.1

-- the root is left as it is
module _ (rule : Rule) (b : Problem) (best : Span) (root : List ℕ) (known : List (List ℕ)) (u : Unsplit) (nodes new : List Node) (dominances all : List Dominance) (depth : ℕ) (none : nodes ≡ []) (deep : depth ≡ length root) (short : depth ≤ 255) (h : IsFound rule b best root known u) (put : IsPushed nodes dominances 0 0 depth u new all) where
  abbrev node : Node
  node = record { parent = 0; value = put.value; number = 0; depth = depth; made = state_by u; state = state_by u }

  only : new ≡ node ∷ []
  only = put.pushed ∙ ap (λ xs. xs ++ node ∷ []) none

  pub root-nodes : AreNodes b (map named all) root new
  root-nodes = subst (AreNodes b (map named all) root) (sym only) (found-node b root u h.value (map named all) 0 put.value 0 depth deep short put.valued.valued, tt)

  pub root-prefixes : root ∷ [] ≡ prefixes_over root new
  root-prefixes = ap (prefixes_over root) (sym only)

  pub root-lines : AtTerminal (terminal_by b root u) ∷ [] ≡ node_lines b (map named all) (prefixes_over root new) new
  root-lines =
      ap (λ (k : Vertex Terminal). k ∷ []) (sym (found-line b root u h.value (map named all) 0 put.value 0 depth deep short put.valued.valued))
      ∙ ap (λ xs. node_lines b (map named all) (prefixes_over root xs) xs) (sym only)

-- a child that isn't split
module _ (rule : Rule) (b : Problem) (best : Span) (root at : List ℕ) (n : ℕ) (known : List (List ℕ)) (u : Unsplit) (nodes new : List Node) (dominances all : List Dominance) (parent depth : ℕ) (deep : depth ≡ length (at ++ n ∷ [])) (short : depth ≤ 255) (are : AreNodes b (map named dominances) root nodes) (within : parent < length (prefixes_over root nodes)) (over : get_or (prefixes_over root nodes) parent [] ≡ at) (h : IsFound rule b best (at ++ n ∷ []) known u) (put : IsPushed nodes dominances parent n depth u new all) where
  abbrev child : Node
  child = record { parent = parent; value = put.value; number = n; depth = depth; made = state_by u; state = state_by u }

  pub terminal-pushed : ArePushed b root (map named dominances) (map named all) nodes new (at ++ n ∷ []) (AtTerminal (terminal_by b (at ++ n ∷ []) u))
  terminal-pushed =
      subst (ArePushed b root (map named dominances) (map named all) nodes new (at ++ n ∷ [])) (found-line b (at ++ n ∷ []) u h.value (map named all) parent put.value n depth deep short put.valued.valued)
      (are-pushed b root (map named dominances) put.valued.more (map named all) nodes new child (at ++ n ∷ []) are put.valued.names put.pushed within (ap (λ a. a ++ n ∷ []) over)
      (found-node b (at ++ n ∷ []) u h.value (map named all) parent put.value n depth deep short put.valued.valued))

-- a node that is split
pub split-node : (b : Problem) (names : List Named) (at : List ℕ) (x : Node) → x.depth ≡ length at → x.depth ≤ 255 → x.made ≡ state.Split → x.state ≡ state.Split → IsNode b names at x
split-node b names at x deep short made is =
    record {
      depth = deep;
      short = short;
      made = made ∙ sym is;
      floor = λ e. absurd (let no : has_floor state.Split ≡ true = ap has_floor (sym is) ∙ e in cc);
      within = λ e. absurd (let no : state.Split ≡ state.Dominated = sym is ∙ e in cc);
      named = λ e. absurd (let no : state.Split ≡ state.Dominated = sym is ∙ e in cc);
    }

module _ (b : Problem) (root at : List ℕ) (n : ℕ) (nodes new : List Node) (names : List Named) (parent depth : ℕ) (deep : depth ≡ length (at ++ n ∷ [])) (short : depth ≤ 255) (are : AreNodes b names root nodes) (within : parent < length (prefixes_over root nodes)) (over : get_or (prefixes_over root nodes) parent [] ≡ at) (put : new ≡ nodes ++ record { parent = parent; value = 0; number = n; depth = depth; made = state.Split; state = state.Split } ∷ []) where
  abbrev split : Node
  split = record { parent = parent; value = 0; number = n; depth = depth; made = state.Split; state = state.Split }

  pub split-pushed : ArePushed b root names names nodes new (at ++ n ∷ []) (AtSplit (ready b.block (at ++ n ∷ [])))
  split-pushed =
      are-pushed b root names [] names nodes new split (at ++ n ∷ []) are (sym (append-nil names)) put within (ap (λ a. a ++ n ∷ []) over) (split-node b names (at ++ n ∷ []) split deep short refl refl)
