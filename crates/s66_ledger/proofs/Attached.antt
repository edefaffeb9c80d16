-- After a piece is put in the place of a node, the nodes of the ledger are those of one tree again.
use Rattle.std.proofs.Common.{ℕ, zero, suc, ◌+◌, ◌^◌, ◌<◌, ◌≡◌, ◌≢◌, Bool, true, false, cond, nat_le, List, [], ◌∷◌, ◌++◌, length, take, drop, get_or, refl, sym, ap, arith, ◌∙◌, subst, inl, inr}
use Rattle.std.proofs.Common.{append-nil, length-set}
use Rattle.std.proofs.lemmas.Bool.{cases_eq}
use Rattle.s66_model.specs.{Problem, ready, floor, Tree, Alone, Parted, Vertex, AtTerminal, AtSplit, flat, Bounding, Terminal, Carries, Frontier, Passed, TerminalHolds, TerminalOpens, TreeOpens}
use Rattle.s66_model.specs.{root_state, new_nodes}
use Rattle.s66_model.specs.LedgerRuns as model
use Rattle.s66_node.specs.{Node, State, tree_prefixes, has_floor, is_stored_open, prefixes_over, node_line, Named, named_at, node_lines, IsNode, NodesFrom, AreNodes, PieceOf, prefixes_of, tree_of}
use Rattle.s66_node.specs.{AreTreeNodes}
use Rattle.s66_node.specs.declared.node.State.TheVariants as state
use Rattle.s66_node.proofs.Nodes.{length-prefixes_over, length-lines}
use Rattle.s66_ledger.specs.{prefixes, name_at, seen_state, nodes_of, made_lines, no_stored, stored_at, put_state, HaveFloors, HaveDepths, StoresOut, placed_parent, settled_state, opened_state}
use Rattle.s66_ledger.specs.{IsNamed, IsGrafting, IsSplitUnder, root_line, IsAttachedAs}
use Rattle.s66_ledger.proofs.NodePrefixes.{prefixes-set}
use Rattle.s66_ledger.proofs.SeenNodes.{nodes-set, nodes-state, lines-state, at-nodes, length-nodes}
use Rattle.s66_ledger.proofs.NodeFloors.{floors-state}
use Rattle.s66_ledger.proofs.OpenHeap.{set-here, set-other}
use Rattle.s66_ledger.proofs.Taken.{LinesOpen, opens-length, tree-taken, taken-prefixes, taken-match, taken-is_piece, taken-named, line_nodes, tree-nodes, tree-root, LineIsNamed, LinesAreNamed}
use Rattle.s66_ledger.proofs.Grafting.{AreMade, IsMarked, marked-all, later_prefixes, prefixes-later, grafting-length, grafting-out}

-- a piece has a line for each node
pub piece-length : (p : PieceOf) → AreTreeNodes p → length (flat (tree_of p)) ≡ length p.nodes
piece-length p are = ap length are.lines ∙ length-lines p.problem p.names (prefixes_of p) p.nodes (length-prefixes_over p.prefix p.nodes)

with_state-front : (xs ys : List model.Node) (i : ℕ) (s : model.State) → i < length xs → model.with_state (xs ++ ys) i s ≡ model.with_state xs i s ++ ys
with_state-front [] ys i s lt = absurd (omega arith)
with_state-front (x ∷ xs) ys zero s lt = refl
with_state-front (x ∷ xs) ys (suc i) s lt = ap (λ (zs : List model.Node). x ∷ zs) (with_state-front xs ys i s (omega arith))

-- a root that is split is no less named, nor is another node
split-named : (all : List Node) (root n : ℕ) (name : List ℕ) → root < length all → IsNamed all n name → IsNamed (put_state all root state.Split) n name
split-named all root n name lt h =
    let y : Node = record (stored_at all root) { state = state.Split } in
    record {
      within = omega (arith, h.within, length-set all root y);
      over = ap (λ ats. get_or ats n []) (prefixes-set all root y no_stored refl refl) ∙ h.over;
      standing =
          λ e.
          elim (cases_eq root n) [
            | inl at ↦ (let no : state.Split ≡ state.Dominated = sym (ap (λ (x : Node). x.state) (set-here all root n y lt at)) ∙ e in absurd cc)
            | inr ne ↦ h.standing (sym (ap (λ (x : Node). x.state) (set-other all root n y ne)) ∙ e)
          ];
    }

split-line : (all : List Node) (root : ℕ) (k : Vertex Terminal) → root < length all → LineIsNamed all k → LineIsNamed (put_state all root state.Split) k
split-line all root (AtSplit numbers) lt h = tt
split-line all root (AtTerminal (Carries leaf)) lt h = tt
split-line all root (AtTerminal Frontier) lt h = tt
split-line all root (AtTerminal (Passed name)) lt (n, named) = (n, split-named all root n name lt named)

split-lines : (all : List Node) (root : ℕ) (ks : List (Vertex Terminal)) → root < length all → LinesAreNamed all ks → LinesAreNamed (put_state all root state.Split) ks
split-lines all root [] lt h = tt
split-lines all root (k ∷ ks) lt h = (split-line all root k lt h.0, split-lines all root ks lt h.1)

-- THE PIECE

module _ (p : PieceOf) (are : AreTreeNodes p) (x : Node) (below : List Node) (first : p.nodes ≡ x ∷ below) where
  abbrev b : Problem
  b = p.problem

  abbrev later : List (List ℕ)
  later = later_prefixes (p.prefix ∷ []) below

  abbrev top : Vertex Terminal
  top = node_line b (named_at p.names x.value).name p.prefix x.state

  prefixes-are : prefixes_of p ≡ p.prefix ∷ later
  prefixes-are = ap (λ xs. prefixes_over p.prefix xs) first ∙ prefixes-later (p.prefix ∷ []) below

  lines-are : flat (tree_of p) ≡ top ∷ node_lines b p.names later below
  lines-are = are.lines ∙ rw (prefixes-are, first) refl

  nodes-are : IsNode b p.names p.prefix x × NodesFrom b p.names (p.prefix ∷ []) below
  nodes-are = subst (AreNodes b p.names p.prefix) first are.nodes

  -- the root's line as it is taken
  root-is : root_line p ≡ node_line b [] p.prefix (opened_state x.state)
  root-is = ap (λ xs. node_line b [] p.prefix (opened_state (stored_at xs 0).state)) first

  -- under a root that is split
  module _ (best root : ℕ) (old : List Node) (out : StoresOut old root) (over : get_or (prefixes old) root [] ≡ p.prefix) (room : length old + length p.nodes < 2 ^ 32) where
    made : AreMade root (length old) (p.prefix ∷ []) old
    made =
        record {
          some = omega arith;
          count = omega arith;
          low = out.0;
          room = omega (arith, room);
          same = λ j lt. (let zero_is : j ≡ 0 = omega (arith, lt) in ap (λ k. get_or (prefixes old) (placed_parent root (length old) k) []) zero_is ∙ (over ∙ ap (λ k. get_or (p.prefix ∷ []) k []) (sym zero_is)));
        }

    marked : (all : List Node) (g : IsGrafting best root p.names old below all) → IsMarked b best later (node_lines b p.names later below) old g.more
    marked all g = marked-all b best root (length old) p.names (p.prefix ∷ []) old below g.more made (omega (arith, room, ap length first)) nodes-are.1 g.grafted

    pub grafting-depths : HaveDepths old → (all : List Node) → IsGrafting best root p.names old below all → HaveDepths all
    grafting-depths depths all g = subst HaveDepths (sym g.behind) ((marked all g).depths depths)

    module _ (split : x.state ≡ state.Split) (new : List Node) (under : IsSplitUnder best root p.names old below new) where
      abbrev all : List Node
      all = under.all

      m : IsMarked b best later (node_lines b p.names later below) old under.grafting.more
      m = marked all under.grafting

      within : root < length all
      within = omega (arith, out.0, grafting-length best root p.names old below all under.grafting)

      split-count : length new + 1 ≡ length old + length p.nodes
      split-count =
          omega (arith, ap length under.split, length-set all root (record (stored_at all root) { state = state.Split }), grafting-length best root p.names old below all under.grafting, ap length first)

      split-floors : HaveFloors b old → HaveFloors b new
      split-floors floors =
          let there : StoresOut all root = grafting-out best root p.names old below all under.grafting root out in
          subst (HaveFloors b) (sym under.split) (floors-state b all root state.Split within (ap has_floor there.1) (subst (HaveFloors b) (sym under.grafting.behind) (m.floors floors)))

      abbrev top_line : Vertex Terminal
      top_line = AtSplit (ready b.block p.prefix)

      top-is : top ≡ top_line
      top-is = ap (node_line b (named_at p.names x.value).name p.prefix) split

      part : (part : Tree Terminal) × TreeOpens (tree_of p) part × (flat part ≡ top_line ∷ m.taken)
      part = tree-taken (tree_of p) (top_line ∷ m.taken) (subst (λ ks. LinesOpen ks (top_line ∷ m.taken)) (sym (lines-are ∙ ap (λ (k : Vertex Terminal). k ∷ node_lines b p.names later below) top-is)) (refl, m.opens))

      pub attached-split : HaveFloors b old → IsAttachedAs p best root old new
      attached-split floors =
          let (tree, opens, lines) = part in
          let match = taken-match b.block (TerminalHolds p.rule b p.prefix (tree_of p)) (tree_of p) tree p.prefix opens are.piece in
          let piece = taken-is_piece p.rule b p.prefix (tree_of p) tree opens are.piece in
          let below_lines : drop 1 (flat tree) ≡ m.taken = ap (drop 1) lines in
          let below_prefixes : drop 1 (tree_prefixes p.prefix tree) ≡ later = ap (drop 1) (taken-prefixes (tree_of p) tree p.prefix opens ∙ (are.prefixes ∙ prefixes-are)) in
          let fresh : line_nodes b best later m.taken ≡ new_nodes b best p.prefix tree =
          ap (λ ats. line_nodes b best ats m.taken) (sym below_prefixes) ∙ (ap (line_nodes b best (drop 1 (tree_prefixes p.prefix tree))) (sym below_lines) ∙ tree-nodes b best tree p.prefix match) in
          let root_is : root_state b best p.prefix tree ≡ model.Cut = tree-root b best tree p.prefix top_line m.taken lines in
          let all_nodes : nodes_of b all ≡ nodes_of b old ++ new_nodes b best p.prefix tree = ap (nodes_of b) under.grafting.behind ∙ (m.nodes ∙ ap (λ ns. nodes_of b old ++ ns) fresh) in
          record {
            part = tree;
            taken =
                record {
                  opens = opens;
                  match = match;
                  count = ap length lines ∙ (omega (arith, opens-length (node_lines b p.names later below) m.taken m.opens, ap length lines-are, piece-length p are));
                  root = ap (take 1) lines ∙ ap (λ (k : Vertex Terminal). k ∷ []) (sym (root-is ∙ ap (λ s. node_line b [] p.prefix (opened_state s)) split));
                };
            count = split-count;
            floors = split-floors floors;
            piece = piece;
            lines =
                ap (made_lines b) under.split
                ∙ (lines-state b all root state.Split ∙ (ap (made_lines b) under.grafting.behind ∙ (m.lines ∙ ap (λ ks. made_lines b old ++ ks) (sym below_lines))));
            nodes =
                ap (nodes_of b) under.split
                ∙ (nodes-state b all root state.Split model.Cut within (λ name path. refl)
                ∙ (ap (λ (ns : List model.Node). model.with_state ns root model.Cut) all_nodes
                ∙ (with_state-front (nodes_of b old) (new_nodes b best p.prefix tree) root model.Cut (omega (arith, out.0, length-nodes b old))
                ∙ ap (λ (s : model.State). model.with_state (nodes_of b old) root s ++ new_nodes b best p.prefix tree) (sym root_is))));
            named =
                taken-named p.rule b p.prefix tree new piece
                (subst (λ ks. LinesAreNamed new ks) (sym lines)
                (subst (λ (ns : List Node). LinesAreNamed ns (top_line ∷ m.taken)) (sym under.split)
                (split-lines all root (top_line ∷ m.taken) within (tt, subst (λ (ns : List Node). LinesAreNamed ns m.taken) (sym under.grafting.behind) m.named))));
          }

-- A ROOT THAT ISN'T SPLIT

-- how it is taken, and what it then is
record IsLeftAs (b : Problem) (best : ℕ) (name at : List ℕ) (x : Node) : Type 0 where
  pub was : Terminal
  pub taken : Terminal
  pub line : node_line b name at x.state ≡ AtTerminal was
  pub line_taken : node_line b [] at (opened_state x.state) ≡ AtTerminal taken
  pub opens : TerminalOpens was taken
  pub seen : (other : List ℕ) → seen_state b other at (settled_state best x.value x.state) ≡ model.state_of b best at taken
  pub named : (nodes : List Node) → LineIsNamed nodes (AtTerminal taken)

left-as : (b : Problem) (best : ℕ) (names : List Named) (name at : List ℕ) (x : Node) → IsNode b names at x → x.state ≢ state.Split → IsLeftAs b best name at x
left-as b best names name at x h unsplit = by x.state refl
  where
    closing : (other : List ℕ) (t : Bool) → seen_state b other at (cond t state.Closed state.Open) ≡ cond t (model.Closed (Bounding (floor b at))) model.Open
    closing other true = refl
    closing other false = refl

    open_as : (s : State) → x.state ≡ s → (was : Terminal) → node_line b name at s ≡ AtTerminal was → node_line b [] at (opened_state s) ≡ AtTerminal Frontier → TerminalOpens was Frontier → settled_state best x.value s ≡ state.Open → IsLeftAs b best name at x
    open_as s is was line line_taken opens settled =
        record {
          was = was;
          taken = Frontier;
          line = ap (node_line b name at) is ∙ line;
          line_taken = ap (λ s. node_line b [] at (opened_state s)) is ∙ line_taken;
          opens = opens;
          seen = λ other. ap (λ s. seen_state b other at (settled_state best x.value s)) is ∙ ap (seen_state b other at) settled;
          named = λ nodes. tt;
        }

    by : (s : State) → x.state ≡ s → IsLeftAs b best name at x
    by state.Open is = open_as state.Open is Frontier refl refl refl refl
    by state.Out is = open_as state.Out is Frontier refl refl refl refl
    by state.Dominated is = open_as state.Dominated is (Passed name) refl refl (inr refl) refl
    by state.Split is = absurd (unsplit is)
    by state.Closed is =
        record {
          was = Carries (floor b at);
          taken = Carries (floor b at);
          line = ap (node_line b name at) is;
          line_taken = ap (λ s. node_line b [] at (opened_state s)) is;
          opens = refl;
          seen = λ other.
              ap (λ s. seen_state b other at (settled_state best x.value s)) is
              ∙ (closing other (nat_le best x.value) ∙ ap (λ v. cond (nat_le best v) (model.Closed (Bounding (floor b at))) model.Open) (h.floor (ap has_floor is)));
          named = λ nodes. tt;
        }

-- what isn't open then is closed
pub not-open : (best value : ℕ) (s : State) → s ≢ state.Split → is_stored_open (settled_state best value s) ≡ false → settled_state best value s ≡ state.Closed
not-open best value state.Open unsplit h = absurd cc
not-open best value state.Out unsplit h = absurd cc
not-open best value state.Closed unsplit h = by (nat_le best value) h
  where
    by : (t : Bool) → is_stored_open (cond t state.Closed state.Open) ≡ false → cond t state.Closed state.Open ≡ state.Closed
    by true h = refl
    by false h = absurd cc
not-open best value state.Split unsplit h = absurd (unsplit refl)
not-open best value state.Dominated unsplit h = absurd cc

alone : (tree : Tree Terminal) (t : Terminal) (rest : List (Vertex Terminal)) → flat tree ≡ AtTerminal t ∷ rest → (tree ≡ Alone t) × (rest ≡ [])
alone (Alone u) t rest e = let first : u ≡ t = cc in (ap Alone first, cc)
alone (Parted ns siblings) t rest e = absurd cc

module _ (p : PieceOf) (are : AreTreeNodes p) (x : Node) (below : List Node) (first : p.nodes ≡ x ∷ below) (unsplit : x.state ≢ state.Split) (best root : ℕ) (old new : List Node) (out : StoresOut old root) (over : get_or (prefixes old) root [] ≡ p.prefix) (moved : new ≡ put_state old root (settled_state best x.value x.state)) where
  abbrev name : List ℕ
  name = (named_at p.names x.value).name

  left : IsLeftAs p.problem best name p.prefix x
  left = left-as p.problem best p.names name p.prefix x (nodes-are p are x below first).0 unsplit

  only : (tree_of p ≡ Alone left.was) × (node_lines p.problem p.names (later p are x below first) below ≡ [])
  only = alone (tree_of p) left.was (node_lines p.problem p.names (later p are x below first) below) (lines-are p are x below first ∙ ap (λ (k : Vertex Terminal). k ∷ node_lines p.problem p.names (later p are x below first) below) left.line)

  one : length p.nodes ≡ 1
  one = sym (piece-length p are) ∙ ap (λ (t : Tree Terminal). length (flat t)) only.0

  alone-count : length new + 1 ≡ length old + length p.nodes
  alone-count = omega (arith, ap length moved, length-set old root (record (stored_at old root) { state = settled_state best x.value x.state }), one)

  alone-floors : HaveFloors p.problem old → HaveFloors p.problem new
  alone-floors floors = subst (HaveFloors p.problem) (sym moved) (floors-state p.problem old root (settled_state best x.value x.state) out.0 (ap has_floor out.1) floors)

  pub attached-alone : HaveFloors p.problem old → IsAttachedAs p best root old new
  attached-alone floors =
      let b = p.problem in
      let opens : TreeOpens (tree_of p) (Alone left.taken) = subst (λ (t : Tree Terminal). TreeOpens t (Alone left.taken)) (sym only.0) left.opens in
      let piece = taken-is_piece p.rule b p.prefix (tree_of p) (Alone left.taken) opens are.piece in
      let s = settled_state best x.value x.state in
      let path : (model.node_at (nodes_of b old) root).prefix ≡ p.prefix = ap (λ (n : model.Node). n.prefix) (at-nodes b old root out.0) ∙ over in
      record {
        part = Alone left.taken;
        taken = record { opens = opens; match = tt; count = sym one; root = ap (λ (k : Vertex Terminal). k ∷ []) (sym (root-is p are x below first ∙ left.line_taken)) };
        count = alone-count;
        floors = alone-floors floors;
        piece = piece;
        lines = ap (made_lines b) moved ∙ (lines-state b old root s ∙ sym (append-nil (made_lines b old)));
        nodes =
            ap (nodes_of b) moved
            ∙ (nodes-set b old root (record (stored_at old root) { state = s }) no_stored out.0 refl refl
            ∙ (ap (λ at. model.with_state (nodes_of b old) root (seen_state b (name_at old root) at s)) path
            ∙ (ap (model.with_state (nodes_of b old) root) (left.seen (name_at old root))
            ∙ sym (append-nil (model.with_state (nodes_of b old) root (model.state_of b best p.prefix left.taken))))));
        named = taken-named p.rule b p.prefix (Alone left.taken) new piece (left.named new, tt);
      }
