-- A piece that is taken with some of its dominated prefixes left open, since their nodes weren't found: what it still covers and shows.
use Rattle.std.proofs.Common.{ℕ, ◌≡◌, ◌≢◌, Bool, true, false, cond, eqb, List, [], ◌∷◌, ◌++◌, length, drop, get_or, refl, sym, ap, arith, inl, inr, ◌∙◌, subst, Option, None, length-append}
use Rattle.s66_isa.specs.{Instr}
use Rattle.s66_model.specs.{Rule, NoneNamed, WrittenEarlier, ClampedStanding, Problem, IsIncomplete, DominatesByRule, Tree, Alone, Parted, Siblings, NoMore, Unsplit, Split, Vertex, AtTerminal}
use Rattle.s66_model.specs.{AtSplit, SiblingsHold, TreeHolds, flat_siblings, flat, sibling_splits, splits, sibling_values, terminal_at, sibling_at, is_node, Terminal, Carries, Frontier, Passed}
use Rattle.s66_model.specs.{IsNamedIn, TerminalHolds, IsPiece, SiblingsMatch, TreeMatches, whole_at, whole_orders, TerminalOpens, SiblingsOpen, TreeOpens, sibling_nodes, root_state, new_nodes}
use Rattle.s66_model.specs.{may_name, TerminalIsNamed, AreNamed}
use Rattle.s66_model.specs.NodeNames as names
use Rattle.s66_model.specs.LedgerRuns as model
use Rattle.s66_model.proofs.Forests.{tree-match}
use Rattle.s66_line.proofs.OperationLaw.{among-at}
use Rattle.s66_node.specs.{sibling_prefixes, tree_prefixes, Node, State}
use Rattle.s66_node.specs.declared.node.State.TheVariants as state
use Rattle.s66_ledger.specs.{prefixes, name_at, stored_at, seen_state, nodes_of, IsNamed}
use Rattle.s66_ledger.proofs.SeenNodes.{at-nodes, length-nodes}

-- LINES

-- a line is taken as it is, or left open
abbrev pub LineOpens : Vertex Terminal → Vertex Terminal → Type 0
LineOpens (AtSplit numbers) line = line ≡ AtSplit numbers
LineOpens (AtTerminal terminal) line = (taken : Terminal) × (line ≡ AtTerminal taken) × TerminalOpens terminal taken

abbrev pub LinesOpen : (lines taken : List (Vertex Terminal)) → Type 0
LinesOpen [] [] = Unit {0}
LinesOpen (k ∷ ks) (t ∷ ts) = LineOpens k t × LinesOpen ks ts
LinesOpen [] (t ∷ ts) = ⊥
LinesOpen (k ∷ ks) [] = ⊥

pub opens-length : (ks ts : List (Vertex Terminal)) → LinesOpen ks ts → length ts ≡ length ks
opens-length [] [] h = refl
opens-length [] (t ∷ ts) h = absurd h
opens-length (k ∷ ks) [] h = absurd h
opens-length (k ∷ ks) (t ∷ ts) h = omega (arith, opens-length ks ts h.1)

lines-cut : (xs ys ls : List (Vertex Terminal)) → LinesOpen (xs ++ ys) ls → (fs : List (Vertex Terminal)) × (bs : List (Vertex Terminal)) × (fs ++ bs ≡ ls) × LinesOpen xs fs × LinesOpen ys bs
lines-cut [] ys ls h = ([], ls, refl, tt, h)
lines-cut (x ∷ xs) ys [] h = absurd h
lines-cut (x ∷ xs) ys (l ∷ ls) h =
    let (fs, bs, e, f, g) = lines-cut xs ys ls h.1 in
    (l ∷ fs, bs, ap (λ (ks : List (Vertex Terminal)). l ∷ ks) e, (h.0, f), g)

-- A TREE is taken so

siblings-taken : (siblings : Siblings Terminal) (ls : List (Vertex Terminal)) → LinesOpen (flat_siblings siblings) ls → (others : Siblings Terminal) × SiblingsOpen siblings others × (flat_siblings others ≡ ls)
siblings-taken NoMore [] h = (NoMore, tt, refl)
siblings-taken NoMore (l ∷ ls) h = absurd h
siblings-taken (Unsplit t siblings) [] h = absurd h
siblings-taken (Unsplit t siblings) (l ∷ ls) h =
    let (u, is, opens) = h.0 in
    let (others, of, e) = siblings-taken siblings ls h.1 in
    (Unsplit u others, (opens, of), ap (λ (ks : List (Vertex Terminal)). AtTerminal u ∷ ks) e ∙ ap (λ (k : Vertex Terminal). k ∷ ls) (sym is))
siblings-taken (Split ns sub siblings) [] h = absurd h
siblings-taken (Split ns sub siblings) (l ∷ ls) h =
    let (fs, bs, e, f, g) = lines-cut (flat_siblings sub) (flat_siblings siblings) ls h.1 in
    let (under, of, same) = siblings-taken sub fs f in
    let (others, of2, same2) = siblings-taken siblings bs g in
    (Split ns under others, (refl, of, of2), rw (same, same2) (ap (λ (ks : List (Vertex Terminal)). AtSplit ns ∷ ks) e ∙ ap (λ (k : Vertex Terminal). k ∷ ls) (sym h.0)))

pub tree-taken : (tree : Tree Terminal) (ls : List (Vertex Terminal)) → LinesOpen (flat tree) ls → (part : Tree Terminal) × TreeOpens tree part × (flat part ≡ ls)
tree-taken (Alone t) [] h = absurd h
tree-taken (Alone t) (l ∷ []) h = let (u, is, opens) = h.0 in (Alone u, opens, ap (λ (k : Vertex Terminal). k ∷ []) (sym is))
tree-taken (Alone t) (l ∷ (m ∷ ls)) h = absurd h.1
tree-taken (Parted ns siblings) [] h = absurd h
tree-taken (Parted ns siblings) (l ∷ ls) h =
    let (others, of, e) = siblings-taken siblings ls h.1 in
    (Parted ns others, (refl, of), ap (λ (ks : List (Vertex Terminal)). AtSplit ns ∷ ks) e ∙ ap (λ (k : Vertex Terminal). k ∷ ls) (sym h.0))

-- it has the same prefixes
siblings-prefixes : (siblings others : Siblings Terminal) (at ns : List ℕ) → SiblingsOpen siblings others → sibling_prefixes at ns others ≡ sibling_prefixes at ns siblings
siblings-prefixes siblings others at [] h = refl
siblings-prefixes NoMore NoMore at (n ∷ ns) h = refl
siblings-prefixes (Unsplit t siblings) (Unsplit u others) at (n ∷ ns) h = ap (λ ats. (at ++ n ∷ []) ∷ ats) (siblings-prefixes siblings others at ns h.1)
siblings-prefixes (Split ms sub siblings) (Split ks under others) at (n ∷ ns) h =
    rw (sym h.0, siblings-prefixes sub under (at ++ n ∷ []) ms h.1, siblings-prefixes siblings others at ns h.2) refl
siblings-prefixes siblings others at (n ∷ ns) h = absurd h

pub taken-prefixes : (tree part : Tree Terminal) (at : List ℕ) → TreeOpens tree part → tree_prefixes at part ≡ tree_prefixes at tree
taken-prefixes (Alone t) (Alone u) at h = refl
taken-prefixes (Parted ns siblings) (Parted ms others) at h = rw (sym h.0) (ap (λ ats. at ∷ ats) (siblings-prefixes siblings others at ns h.1))
taken-prefixes tree part at h = absurd h

-- and the same splits
siblings-same_splits : (siblings others : Siblings Terminal) → SiblingsOpen siblings others → sibling_splits siblings ≡ sibling_splits others
siblings-same_splits NoMore NoMore h = refl
siblings-same_splits (Unsplit terminal siblings) (Unsplit taken others) h = siblings-same_splits siblings others h.1
siblings-same_splits (Split numbers sub siblings) (Split ns under others) h =
    omega (arith, siblings-same_splits sub under h.1, siblings-same_splits siblings others h.2)
siblings-same_splits siblings others h = absurd h

pub same-splits : (tree part : Tree Terminal) → TreeOpens tree part → splits tree ≡ splits part
same-splits (Alone terminal) (Alone taken) h = refl
same-splits (Parted numbers siblings) (Parted ns others) h = omega (arith, siblings-same_splits siblings others h.1)
same-splits tree part h = absurd h

-- and the same whole orders
open-whole : (at : List ℕ) (terminal taken : Terminal) → TerminalOpens terminal taken → whole_at at terminal ≡ whole_at at taken
open-whole at (Carries leaf) taken h = ap (whole_at at) (sym h)
open-whole at Frontier taken h = ap (whole_at at) (sym h)
open-whole at (Passed name) taken (inl h) = ap (whole_at at) (sym h)
open-whole at (Passed name) taken (inr h) = ap (whole_at at) (sym h)

siblings-same_wholes : (prefix ns : List ℕ) (siblings others : Siblings Terminal) → SiblingsOpen siblings others → sibling_values whole_at prefix ns siblings ≡ sibling_values whole_at prefix ns others
siblings-same_wholes prefix [] siblings others h = refl
siblings-same_wholes prefix (n ∷ ns) NoMore NoMore h = refl
siblings-same_wholes prefix (n ∷ ns) (Unsplit terminal siblings) (Unsplit taken others) h =
    rw (open-whole (prefix ++ n ∷ []) terminal taken h.0, siblings-same_wholes prefix ns siblings others h.1) refl
siblings-same_wholes prefix (n ∷ ns) (Split numbers sub siblings) (Split ms under others) h =
    rw (sym h.0, siblings-same_wholes (prefix ++ n ∷ []) numbers sub under h.1, siblings-same_wholes prefix ns siblings others h.2) refl
siblings-same_wholes prefix (n ∷ ns) siblings others h = absurd h

pub same-wholes : (prefix : List ℕ) (tree part : Tree Terminal) → TreeOpens tree part → whole_orders prefix tree ≡ whole_orders prefix part
same-wholes prefix (Alone terminal) (Alone taken) h = open-whole prefix terminal taken h
same-wholes prefix (Parted numbers siblings) (Parted ns others) h =
    siblings-same_wholes prefix numbers siblings others h.1 ∙ ap (λ ms. sibling_values whole_at prefix ms others) h.0
same-wholes prefix tree part h = absurd h

-- a tree that is taken whole
pub terminal-whole : (terminal : Terminal) → TerminalOpens terminal terminal
terminal-whole (Carries leaf) = refl
terminal-whole Frontier = refl
terminal-whole (Passed name) = inl refl

siblings-whole : (siblings : Siblings Terminal) → SiblingsOpen siblings siblings
siblings-whole NoMore = tt
siblings-whole (Unsplit terminal siblings) = (terminal-whole terminal, siblings-whole siblings)
siblings-whole (Split numbers sub siblings) = (refl, siblings-whole sub, siblings-whole siblings)

pub taken-whole : (tree : Tree Terminal) → TreeOpens tree tree
taken-whole (Alone terminal) = terminal-whole terminal
taken-whole (Parted numbers siblings) = (refl, siblings-whole siblings)

-- WHAT HOLDS of its terminals

module _ (block : List Instr) (Q R : List ℕ → Terminal → Type 0) (each : (at : List ℕ) (t u : Terminal) → TerminalOpens t u → Q at t → R at u) where
  siblings-hold : (siblings others : Siblings Terminal) (prefix ns : List ℕ) → SiblingsOpen siblings others → SiblingsHold block Q prefix ns siblings → SiblingsHold block R prefix ns others
  siblings-hold NoMore NoMore prefix [] k h = tt
  siblings-hold NoMore NoMore prefix (n ∷ ns) k h = absurd h
  siblings-hold (Unsplit t siblings) (Unsplit u others) prefix [] k h = absurd h
  siblings-hold (Unsplit t siblings) (Unsplit u others) prefix (n ∷ ns) k h = (each (prefix ++ n ∷ []) t u k.0 h.0, siblings-hold siblings others prefix ns k.1 h.1)
  siblings-hold (Split numbers sub siblings) (Split ms under others) prefix [] k h = absurd h
  siblings-hold (Split numbers sub siblings) (Split ms under others) prefix (n ∷ ns) k h =
      (h.0, sym k.0 ∙ h.1, subst (λ xs. SiblingsHold block R (prefix ++ n ∷ []) xs under) k.0 (siblings-hold sub under (prefix ++ n ∷ []) numbers k.1 h.2), siblings-hold siblings others prefix ns k.2 h.3)
  siblings-hold siblings others prefix ns k h = absurd k

  pub tree-hold : (tree part : Tree Terminal) (prefix : List ℕ) → TreeOpens tree part → TreeHolds block Q prefix tree → TreeHolds block R prefix part
  tree-hold (Alone t) (Alone u) prefix k h = each prefix t u k h
  tree-hold (Parted ns siblings) (Parted ms others) prefix k h =
      (h.0, sym k.0 ∙ h.1, subst (λ xs. SiblingsHold block R prefix xs others) k.0 (siblings-hold siblings others prefix ns k.1 h.2))
  tree-hold tree part prefix k h = absurd k

pub taken-match : (block : List Instr) (Q : List ℕ → Terminal → Type 0) (tree part : Tree Terminal) (prefix : List ℕ) → TreeOpens tree part → TreeHolds block Q prefix tree → TreeMatches part
taken-match block Q tree part prefix k h = tree-match block (λ at t. Unit {0}) part prefix (tree-hold block Q (λ at t. Unit {0}) (λ at t u k h. tt) tree part prefix k h)

-- THE SAME NAMES

terminal-node : (terminal taken : Terminal) (path : List ℕ) → is_node (terminal_at terminal path) ≡ is_node (terminal_at taken path)
terminal-node terminal taken [] = refl
terminal-node terminal taken (n ∷ path) = refl

either-node : {M : Type 0} (t : Bool) (a b c d : Option (Vertex M)) → is_node a ≡ is_node c → is_node b ≡ is_node d → is_node (cond t a b) ≡ is_node (cond t c d)
either-node true a b c d e f = e
either-node false a b c d e f = f

siblings-node : (siblings others : Siblings Terminal) (ns path : List ℕ) → SiblingsOpen siblings others → is_node (sibling_at ns siblings path) ≡ is_node (sibling_at ns others path)
siblings-node siblings others ns [] k = refl
siblings-node siblings others [] (n ∷ path) k = refl
siblings-node NoMore NoMore (m ∷ ms) (n ∷ path) k = refl
siblings-node (Unsplit terminal siblings) (Unsplit taken others) (m ∷ ms) (n ∷ path) k =
    either-node (eqb m n) (terminal_at terminal path) (sibling_at ms siblings (n ∷ path)) (terminal_at taken path) (sibling_at ms others (n ∷ path)) (terminal-node terminal taken path) (siblings-node siblings others ms (n ∷ path) k.1)
siblings-node (Split numbers sub siblings) (Split ks under others) (m ∷ ms) (n ∷ path) k =
    either-node (eqb m n) (sibling_at numbers sub path) (sibling_at ms siblings (n ∷ path)) (sibling_at ks under path) (sibling_at ms others (n ∷ path))
    (siblings-node sub under numbers path k.1 ∙ ap (λ xs. is_node (sibling_at xs under path)) k.0)
    (siblings-node siblings others ms (n ∷ path) k.2)
siblings-node siblings others (m ∷ ms) (n ∷ path) k = absurd k

tree-node : (tree part : Tree Terminal) (prefix name : List ℕ) → TreeOpens tree part → is_node (names.node_named prefix tree name) ≡ is_node (names.node_named prefix part name)
tree-node (Alone terminal) (Alone taken) [] name k = terminal-node terminal taken name
tree-node (Parted numbers siblings) (Parted ns others) [] name k = siblings-node siblings others numbers name k.1 ∙ ap (λ xs. is_node (sibling_at xs others name)) k.0
tree-node tree part (n ∷ prefix) [] k = refl
tree-node tree part (n ∷ prefix) (m ∷ name) k =
    either-node (eqb n m) (names.node_named prefix tree name) None (names.node_named prefix part name) None (tree-node tree part prefix name k) refl
tree-node tree part [] name k = absurd k

still-in : (rule : Rule) (prefix : List ℕ) (tree part : Tree Terminal) (at name : List ℕ) → TreeOpens tree part → IsNamedIn rule prefix tree at name → IsNamedIn rule prefix part at name
still-in NoneNamed prefix tree part at name k h = h
still-in WrittenEarlier prefix tree part at name k h = sym (tree-node tree part prefix name k) ∙ h
still-in ClampedStanding prefix tree part at name k h = h

-- a dominated prefix is incomplete
pub dominated-part : (rule : Rule) (b : Problem) (name at : List ℕ) → DominatesByRule rule b name at → IsIncomplete b.block at
dominated-part NoneNamed b name at h = absurd h
dominated-part WrittenEarlier b name at h = h.0
dominated-part ClampedStanding b name at h = h.0

pub taken-is_piece : (rule : Rule) (b : Problem) (prefix : List ℕ) (tree part : Tree Terminal) → TreeOpens tree part → IsPiece rule b prefix tree → IsPiece rule b prefix part
taken-is_piece rule b prefix tree part k h = tree-hold b.block (TerminalHolds rule b prefix tree) (TerminalHolds rule b prefix part) each tree part prefix k h
  where
    each : (at : List ℕ) (t u : Terminal) → TerminalOpens t u → TerminalHolds rule b prefix tree at t → TerminalHolds rule b prefix part at u
    each at (Carries leaf) u opens held = subst (TerminalHolds rule b prefix part at) (sym opens) held
    each at Frontier u opens held = subst (TerminalHolds rule b prefix part at) (sym opens) held
    each at (Passed name) u (inl is) held = subst (TerminalHolds rule b prefix part at) (sym is) (held.0, still-in rule prefix tree part at name k held.1)
    each at (Passed name) u (inr is) held = subst (TerminalHolds rule b prefix part at) (sym is) (dominated-part rule b name at held.0)

-- AS NODES OF THE LEDGER

abbrev pub line_node : Problem → (best : ℕ) → List ℕ → Vertex Terminal → model.Node
line_node b best at (AtSplit numbers) = record { prefix = at; state = model.Cut }
line_node b best at (AtTerminal terminal) = record { prefix = at; state = model.state_of b best at terminal }

abbrev pub line_nodes : Problem → (best : ℕ) → List (List ℕ) → List (Vertex Terminal) → List model.Node
line_nodes b best [] ks = []
line_nodes b best (at ∷ ats) [] = []
line_nodes b best (at ∷ ats) (k ∷ ks) = line_node b best at k ∷ line_nodes b best ats ks

module _ (b : Problem) (best : ℕ) where
  line_nodes-both : (ats others : List (List ℕ)) (ks ls : List (Vertex Terminal)) → length ats ≡ length ks → line_nodes b best (ats ++ others) (ks ++ ls) ≡ line_nodes b best ats ks ++ line_nodes b best others ls
  line_nodes-both [] others [] ls e = refl
  line_nodes-both [] others (k ∷ ks) ls e = absurd (omega (arith, e))
  line_nodes-both (at ∷ ats) others [] ls e = absurd (omega (arith, e))
  line_nodes-both (at ∷ ats) others (k ∷ ks) ls e = ap (λ (xs : List model.Node). line_node b best at k ∷ xs) (line_nodes-both ats others ks ls (omega (arith, e)))

  siblings-many : (siblings : Siblings Terminal) (at ns : List ℕ) → SiblingsMatch ns siblings → length (sibling_prefixes at ns siblings) ≡ length (flat_siblings siblings)
  siblings-many NoMore at [] h = refl
  siblings-many NoMore at (n ∷ ns) h = absurd h
  siblings-many (Unsplit t siblings) at [] h = absurd h
  siblings-many (Unsplit t siblings) at (n ∷ ns) h = omega (arith, siblings-many siblings at ns h)
  siblings-many (Split ms sub siblings) at [] h = absurd h
  siblings-many (Split ms sub siblings) at (n ∷ ns) h =
      omega (arith, siblings-many sub (at ++ n ∷ []) ms h.0, siblings-many siblings at ns h.1, length-append (sibling_prefixes (at ++ n ∷ []) ms sub) (sibling_prefixes at ns siblings), length-append (flat_siblings sub) (flat_siblings siblings))

  siblings-nodes : (siblings : Siblings Terminal) (at ns : List ℕ) → SiblingsMatch ns siblings → line_nodes b best (sibling_prefixes at ns siblings) (flat_siblings siblings) ≡ sibling_nodes b best at ns siblings
  siblings-nodes NoMore at [] h = refl
  siblings-nodes NoMore at (n ∷ ns) h = absurd h
  siblings-nodes (Unsplit t siblings) at [] h = absurd h
  siblings-nodes (Unsplit t siblings) at (n ∷ ns) h = ap (λ (xs : List model.Node). line_node b best (at ++ n ∷ []) (AtTerminal t) ∷ xs) (siblings-nodes siblings at ns h)
  siblings-nodes (Split ms sub siblings) at [] h = absurd h
  siblings-nodes (Split ms sub siblings) at (n ∷ ns) h =
      let child = at ++ n ∷ [] in
      ap (λ (xs : List model.Node). line_node b best child (AtSplit ms) ∷ xs)
      (line_nodes-both (sibling_prefixes child ms sub) (sibling_prefixes at ns siblings) (flat_siblings sub) (flat_siblings siblings) (siblings-many sub child ms h.0)
      ∙ rw (siblings-nodes sub child ms h.0, siblings-nodes siblings at ns h.1) refl)

  -- below the root
  pub tree-nodes : (tree : Tree Terminal) (at : List ℕ) → TreeMatches tree → line_nodes b best (drop 1 (tree_prefixes at tree)) (drop 1 (flat tree)) ≡ new_nodes b best at tree
  tree-nodes (Alone t) at h = refl
  tree-nodes (Parted ns siblings) at h = siblings-nodes siblings at ns h

  -- and the root
  pub tree-root : (tree : Tree Terminal) (at : List ℕ) (k : Vertex Terminal) (ks : List (Vertex Terminal)) → flat tree ≡ k ∷ ks → root_state b best at tree ≡ (line_node b best at k).state
  tree-root (Alone t) at k ks e = let first : AtTerminal t ≡ k = cc in ap (λ (l : Vertex Terminal). (line_node b best at l).state) first
  tree-root (Parted ns siblings) at k ks e = let first : AtSplit ns ≡ k = cc in ap (λ (l : Vertex Terminal). (line_node b best at l).state) first

-- WHAT IS NAMED

-- the name of a line is that of a node
abbrev pub LineIsNamed : List Node → Vertex Terminal → Type 0
LineIsNamed nodes (AtSplit numbers) = Unit {0}
LineIsNamed nodes (AtTerminal (Carries leaf)) = Unit {0}
LineIsNamed nodes (AtTerminal Frontier) = Unit {0}
LineIsNamed nodes (AtTerminal (Passed name)) = (n : ℕ) × IsNamed nodes n name

abbrev pub LinesAreNamed : List Node → List (Vertex Terminal) → Type 0
LinesAreNamed nodes [] = Unit {0}
LinesAreNamed nodes (k ∷ ks) = LineIsNamed nodes k × LinesAreNamed nodes ks

named-cut : (nodes : List Node) (xs ys : List (Vertex Terminal)) → LinesAreNamed nodes (xs ++ ys) → LinesAreNamed nodes xs × LinesAreNamed nodes ys
named-cut nodes [] ys h = (tt, h)
named-cut nodes (x ∷ xs) ys h = let rest = named-cut nodes xs ys h.1 in ((h.0, rest.0), rest.1)

may-standing : (rule : Rule) (b : Problem) (other at name of : List ℕ) (s : State) → DominatesByRule rule b other at → s ≢ state.Dominated → may_name rule (seen_state b name of s) ≡ true
may-standing NoneNamed b other at name of s h standing = absurd h
may-standing WrittenEarlier b other at name of s h standing = refl
may-standing ClampedStanding b other at name of state.Open h standing = refl
may-standing ClampedStanding b other at name of state.Out h standing = refl
may-standing ClampedStanding b other at name of state.Closed h standing = refl
may-standing ClampedStanding b other at name of state.Split h standing = refl
may-standing ClampedStanding b other at name of state.Dominated h standing = absurd (standing refl)

module _ (rule : Rule) (b : Problem) (root : List ℕ) (tree : Tree Terminal) (nodes : List Node) where
  terminal-named : (at : List ℕ) (t : Terminal) → TerminalHolds rule b root tree at t → LineIsNamed nodes (AtTerminal t) → TerminalIsNamed rule (nodes_of b nodes) at t
  terminal-named at (Carries leaf) h line = tt
  terminal-named at Frontier h line = tt
  terminal-named at (Passed name) h (n, named) =
      let is = at-nodes b nodes n named.within in (
        model.node_at (nodes_of b nodes) n,
        among-at (nodes_of b nodes) n model.no_node (omega (arith, named.within, length-nodes b nodes)),
        ap (λ (x : model.Node). x.prefix) is ∙ named.over,
        ap (λ (x : model.Node). may_name rule x.state) is ∙ may-standing rule b name at (name_at nodes n) (get_or (prefixes nodes) n []) (stored_at nodes n).state h.0 named.standing,
      )

  siblings-named : (siblings : Siblings Terminal) (prefix ns : List ℕ) → SiblingsHold b.block (TerminalHolds rule b root tree) prefix ns siblings → LinesAreNamed nodes (flat_siblings siblings) → SiblingsHold b.block (TerminalIsNamed rule (nodes_of b nodes)) prefix ns siblings
  siblings-named NoMore prefix [] h lines = tt
  siblings-named NoMore prefix (n ∷ ns) h lines = absurd h
  siblings-named (Unsplit t siblings) prefix [] h lines = absurd h
  siblings-named (Unsplit t siblings) prefix (n ∷ ns) h lines = (terminal-named (prefix ++ n ∷ []) t h.0 lines.0, siblings-named siblings prefix ns h.1 lines.1)
  siblings-named (Split numbers sub siblings) prefix [] h lines = absurd h
  siblings-named (Split numbers sub siblings) prefix (n ∷ ns) h lines =
      let parts = named-cut nodes (flat_siblings sub) (flat_siblings siblings) lines.1 in
      (h.0, h.1, siblings-named sub (prefix ++ n ∷ []) numbers h.2 parts.0, siblings-named siblings prefix ns h.3 parts.1)

  tree-named : (part : Tree Terminal) (prefix : List ℕ) → TreeHolds b.block (TerminalHolds rule b root tree) prefix part → LinesAreNamed nodes (flat part) → AreNamed rule b (nodes_of b nodes) prefix part
  tree-named (Alone t) prefix h lines = terminal-named prefix t h lines.0
  tree-named (Parted numbers siblings) prefix h lines = (h.0, h.1, siblings-named siblings prefix numbers h.2 lines.1)

pub taken-named : (rule : Rule) (b : Problem) (prefix : List ℕ) (part : Tree Terminal) (nodes : List Node) → IsPiece rule b prefix part → LinesAreNamed nodes (flat part) → AreNamed rule b (nodes_of b nodes) prefix part
taken-named rule b prefix part nodes piece lines = tree-named rule b prefix part nodes part prefix piece lines
