-- The tree of a ledger's nodes has each split of theirs, as many splits as they have, and the floor or the name of every other node.
use Rattle.std.proofs.Common.{ℕ, zero, suc, ◌+◌, ◌≤◌, ◌<◌, ◌≡◌, ◌⊎◌, Bool, true, false, cond, ◌&&◌, List, [], ◌∷◌, ◌++◌, length, refl, sym, ap, arith, inl, inr, eqb, ◌∙◌, subst, append_assoc, eq-eqb}
use Rattle.std.proofs.Common.{ne_eqb, ltb-true, ltb-false, append-nil}
use Rattle.std.proofs.lemmas.Bool.{cases_Bool, cases_eq, and_left, and_parts, and_from}
use Rattle.s66_isa.specs.{tally, weigh, Among}
use Rattle.s66_isa.proofs.Lists.{tally-none, tally-same, among-front, among-rest}
use Rattle.s66_model.specs.{Problem, is_ready, ready, GoesOn, IsBeginning, IsIncomplete, floor, floor_value, Siblings, NoMore, Unsplit, Split, Tree, Alone, Parted, SiblingsHold, TreeHolds}
use Rattle.s66_model.specs.{sibling_splits, splits, siblings_split_at, split_at, sibling_values, tree_values, Ending, Bounding, ending_values, Ledger, Node, State, Open, Out, Cut, Closed, is_cut}
use Rattle.s66_model.specs.{is_cut_state, begins, same_numbers, stands_at, is_cut_at, IsTable, is_split_at, state_ending, ending_at, node_tree}
use Rattle.s66_model.proofs.LegalOrders.{GoesOn-append, ready-parts}
use Rattle.s66_model.proofs.Remaining.{among-ready, ready-among}
use Rattle.s66_model.proofs.OnceCovered.{and_true, begins-rest, rising-once}
use Rattle.s66_model.proofs.GrownTrees.{SiblingsFit, TreeFits, tree-fits}
use Rattle.s66_model.proofs.OneTree.{same-is}

-- LISTS

pub some-passes : {X : Type 0} (test : X → Bool) (xs : List X) → 0 < tally test xs → (x : X) × Among x xs × (test x ≡ true)
some-passes test [] some = absurd (omega (arith, some))
some-passes test (x ∷ xs) some =
    elim (cases_Bool (test x)) [
      | inl is ↦ (x, inl refl, is)
      | inr off ↦
          (let (y, among, is) = some-passes test xs (omega (arith, some, ap (λ t. cond {A = ℕ} t 1 0) off)) in
          (y, inr among, is))
    ]

pub passes-some : {X : Type 0} (test : X → Bool) (x : X) (xs : List X) → Among x xs → test x ≡ true → 0 < tally test xs
passes-some test x [] among is = absurd among
passes-some test x (y ∷ xs) (inl here) is = omega (arith, ap (λ t. cond {A = ℕ} t 1 0) (sym (ap test here) ∙ is))
passes-some test x (y ∷ xs) (inr past) is = omega (arith, passes-some test x xs past is)

pub is-same : (ns : List ℕ) → same_numbers ns ns ≡ true
is-same [] = refl
is-same (n ∷ ns) = and_from (eqb n n) (same_numbers ns ns) (eq-eqb n n refl) (is-same ns)

-- what begins with these numbers is these, or goes on with one more, which is once among those that may follow
one-follows : (x at ns : List ℕ) → ((m : ℕ) (rest : List ℕ) → x ≡ at ++ m ∷ rest → tally (λ n. eqb n m) ns ≡ 1) → cond (begins at x) 1 0 ≡ cond (same_numbers x at) 1 0 + tally (λ n. begins (at ++ n ∷ []) x) ns
one-follows [] [] ns once = omega (arith, tally-none (λ n. begins (n ∷ []) []) (λ n. refl) ns)
one-follows (m ∷ x) [] ns once = omega (arith, tally-same (λ n. eqb n m && true) (λ n. eqb n m) (λ n. and_true (eqb n m)) ns, once m x refl)
one-follows [] (a ∷ at) ns once = omega (arith, tally-none (λ n. begins (a ∷ at ++ n ∷ []) []) (λ n. refl) ns)
one-follows (m ∷ x) (a ∷ at) ns once =
    elim (cases_eq a m) [
      | inl e ↦
          (let later = one-follows x at ns (λ k rest is. once k rest (ap (λ y. m ∷ y) is ∙ ap (λ h. h ∷ (at ++ k ∷ rest)) (sym e))) in
          rw (eq-eqb a m e, eq-eqb m a (sym e)) later)
      | inr ne ↦ rw (ne_eqb a m ne, ne_eqb m a (λ e. ne (sym e))) (omega (arith, tally-none (λ n. false && begins (at ++ n ∷ []) x) (λ n. refl) ns))
    ]

-- HOW MANY SPLIT NODES STAND AT A PREFIX OR BELOW IT

abbrev below : List Node → List ℕ → ℕ
below nodes at = tally (λ node. is_cut node && begins at node.prefix) nodes

none-follow : (at ns : List ℕ) → weigh (λ n. below [] (at ++ n ∷ [])) ns ≡ 0
none-follow at [] = refl
none-follow at (n ∷ ns) = omega (arith, none-follow at ns)

one-more : (at ns : List ℕ) (node : Node) (nodes : List Node) → weigh (λ n. below (node ∷ nodes) (at ++ n ∷ [])) ns ≡ cond (is_cut node) (tally (λ n. begins (at ++ n ∷ []) node.prefix) ns) 0 + weigh (λ n. below nodes (at ++ n ∷ [])) ns
one-more at [] node nodes = either (is_cut node)
  where
    either : (c : Bool) → 0 ≡ cond c 0 0 + 0
    either true = refl
    either false = refl
one-more at (n ∷ ns) node nodes =
    omega (arith, one-more at ns node nodes, either (is_cut node) (begins (at ++ n ∷ []) node.prefix) (tally (λ k. begins (at ++ k ∷ []) node.prefix) ns))
  where
    either : (c x : Bool) (k : ℕ) → cond c (cond x 1 0 + k) 0 ≡ cond (c && x) 1 0 + cond c k 0
    either true x k = refl
    either false x k = refl

where_cut : (c g s : Bool) (k : ℕ) → cond g 1 0 ≡ cond s 1 0 + k → cond (c && g) 1 0 ≡ cond (c && s) 1 0 + cond c k 0
where_cut true g s k h = h
where_cut false g s k h = refl

cut-stands : (at : List ℕ) (nodes : List Node) → tally (is_cut_at at) nodes ≤ tally (stands_at at) nodes
cut-stands at [] = omega arith
cut-stands at (node ∷ nodes) = omega (arith, cut-stands at nodes, less (is_cut node) (stands_at at node))
  where
    less : (c s : Bool) → cond (c && s) 1 0 ≤ cond s 1 0
    less true s = omega arith
    less false true = omega arith
    less false false = omega arith

-- a node that isn't split is there beside those that are
pub uncut-stands : (node : Node) (nodes : List Node) → Among node nodes → is_cut node ≡ false → tally (is_cut_at node.prefix) nodes < tally (stands_at node.prefix) nodes
uncut-stands node [] among off = absurd among
uncut-stands node (x ∷ nodes) (inl here) off =
    let it : stands_at node.prefix x ≡ true = subst (λ (y : Node). stands_at node.prefix y ≡ true) here (is-same node.prefix) in
    let uncut : is_cut_at node.prefix x ≡ false = and_left (is_cut x) (stands_at node.prefix x) (subst (λ (y : Node). is_cut y ≡ false) here off) in
    omega (arith, cut-stands node.prefix nodes, ap (λ t. cond {A = ℕ} t 1 0) it, ap (λ t. cond {A = ℕ} t 1 0) uncut)
uncut-stands node (x ∷ nodes) (inr past) off =
    let first = cut-stands node.prefix (x ∷ []) in
    omega (arith, first, uncut-stands node nodes past off)

pub cut-counts : (node : Node) (nodes : List Node) → Among node nodes → node.state ≡ Cut → 0 < tally (is_cut_at node.prefix) nodes
cut-counts node nodes among is =
    passes-some (is_cut_at node.prefix) node nodes among (and_from (is_cut node) (stands_at node.prefix node) (ap is_cut_state is) (is-same node.prefix))

cut-state : (state : State) → is_cut_state state ≡ true → state ≡ Cut
cut-state Open h = absurd cc
cut-state Out h = absurd cc
cut-state Cut h = refl
cut-state (Closed ending) h = absurd cc

-- if one node at most is at its prefix, that prefix has its ending
ending-found : (b : Problem) (node : Node) (nodes : List Node) → Among node nodes → tally (stands_at node.prefix) nodes ≤ 1 → ending_at b nodes node.prefix ≡ state_ending b node.prefix node.state
ending-found b node [] among one = absurd among
ending-found b node (x ∷ nodes) (inl here) one =
    let it : stands_at node.prefix x ≡ true = subst (λ (y : Node). stands_at node.prefix y ≡ true) here (is-same node.prefix) in
    rw it (ap (λ (y : Node). state_ending b node.prefix y.state) (sym here))
ending-found b node (x ∷ nodes) (inr past) one =
    let more = passes-some (stands_at node.prefix) node nodes past (is-same node.prefix) in
    elim (cases_Bool (stands_at node.prefix x)) [
      | inl is ↦ absurd (omega (arith, one, more, ap (λ t. cond {A = ℕ} t 1 0) is))
      | inr off ↦ rw off (ending-found b node nodes past (omega (arith, one)))
    ]

-- THE NODES OF ONE TREE

module _ (b : Problem) (l : Ledger) (table : IsTable b l) (beginnings : (node : Node) → Among node l.nodes → IsBeginning b.block node.prefix) where
  abbrev IsSplit : List ℕ → Type 0
  IsSplit at = is_split_at l.nodes at ≡ true

  abbrev IsUnsplit : List ℕ → Type 0
  IsUnsplit at = is_split_at l.nodes at ≡ false

  abbrev cuts : List ℕ → ℕ
  cuts at = tally (is_cut_at at) l.nodes

  abbrev standing : List ℕ → ℕ
  standing at = tally (stands_at at) l.nodes

  pub uncut : (at : List ℕ) → IsUnsplit at → cuts at ≡ 0
  uncut at off = omega (arith, ltb-false 0 (cuts at) off)

  -- if some node is split
  pub split-part : (at : List ℕ) → IsSplit at → IsIncomplete b.block at × IsBeginning b.block at
  split-part at is =
      let (node, among, passes) = some-passes (is_cut_at at) l.nodes (ltb-true 0 (cuts at) is) in
      let both = and_parts (is_cut node) (stands_at at node) passes in
      let e : node.prefix ≡ at = same-is node.prefix at both.1 in
      (subst (IsIncomplete b.block) e (table.splits node among (cut-state node.state both.0)), subst (IsBeginning b.block) e (beginnings node among))

  pub fits : TreeFits b (is_split_at l.nodes) (ending_at b l.nodes) (node_tree b l.nodes)
  fits = tree-fits b (is_split_at l.nodes) (ending_at b l.nodes) (λ at is. (split-part at is).0)

  -- no prefix has two nodes
  one-along : (more at : List ℕ) → GoesOn b.block at more → standing at ≤ 1 → standing (at ++ more) ≤ 1
  one-along [] at goes h = subst (λ x. standing x ≤ 1) (sym (append-nil at)) h
  one-along (n ∷ more) at goes h =
      subst (λ x. standing x ≤ 1) (append_assoc at (n ∷ []) more)
      (one-along more (at ++ n ∷ []) goes.1 (omega (arith, table.children at n goes.0, cut-stands at l.nodes, h)))

  pub one-node : (at : List ℕ) → IsBeginning b.block at → standing at ≤ 1
  one-node at is = one-along at [] is (omega (arith, table.root))

  -- below a prefix that isn't split there is no node
  pub none-along : (more at : List ℕ) (n : ℕ) → GoesOn b.block at (n ∷ more) → cuts at ≡ 0 → standing (at ++ n ∷ more) ≡ 0
  none-along [] at n goes h = table.children at n goes.0 ∙ h
  none-along (m ∷ more) at n goes h =
      let none : cuts (at ++ n ∷ []) ≡ 0 = omega (arith, table.children at n goes.0, cut-stands (at ++ n ∷ []) l.nodes, h) in
      subst (λ x. standing x ≡ 0) (append_assoc at (n ∷ []) (m ∷ more)) (none-along more (at ++ n ∷ []) m goes.1 none)

  none-split : (at more : List ℕ) → GoesOn b.block at more → cuts at ≡ 0 → cuts (at ++ more) ≡ 0
  none-split at [] goes h = subst (λ x. cuts x ≡ 0) (sym (append-nil at)) h
  none-split at (n ∷ more) goes h = omega (arith, none-along more at n goes h, cut-stands (at ++ n ∷ more) l.nodes)

  none-below : (at : List ℕ) → cuts at ≡ 0 → below l.nodes at ≡ 0
  none-below at none = by (cases_some (below l.nodes at))
    where
      cases_some : (k : ℕ) → (k ≡ 0) ⊎ (0 < k)
      cases_some zero = inl refl
      cases_some (suc k) = inr (omega arith)

      by : ((below l.nodes at ≡ 0) ⊎ (0 < below l.nodes at)) → below l.nodes at ≡ 0
      by (inl is) = is
      by (inr some) =
          let (node, among, passes) = some-passes (λ (node : Node). is_cut node && begins at node.prefix) l.nodes some in
          let both = and_parts (is_cut node) (begins at node.prefix) passes in
          let (more, e) = begins-rest at node.prefix both.1 in
          let goes : GoesOn b.block at more = (GoesOn-append b.block [] at more (subst (λ x. GoesOn b.block [] x) e (beginnings node among))).1 in
          let it : 0 < cuts node.prefix = cut-counts node l.nodes among (cut-state node.state both.0) in
          absurd (omega (arith, it, none-split at more goes none, ap (λ x. cuts x) e))

  ready-once : (at x : List ℕ) → IsBeginning b.block x → (m : ℕ) (rest : List ℕ) → x ≡ at ++ m ∷ rest → tally (λ n. eqb n m) (ready b.block at) ≡ 1
  ready-once at x is m rest e =
      let now : is_ready b.block at m ≡ true = (GoesOn-append b.block [] at (m ∷ rest) (subst (λ y. GoesOn b.block [] y) e is)).1.0 in
      let (low, high, new, met) = ready-parts b.block at m now in
      rising-once (is_ready b.block at) m (length b.block) 1 now low (omega (arith, high))

  -- a split node at a prefix or below it is there, or at or below one of its children
  here-or-below : (at : List ℕ) (nodes : List Node) → ((node : Node) → Among node nodes → IsBeginning b.block node.prefix) → below nodes at ≡ tally (is_cut_at at) nodes + weigh (λ n. below nodes (at ++ n ∷ [])) (ready b.block at)
  here-or-below at [] each = omega (arith, none-follow at (ready b.block at))
  here-or-below at (node ∷ nodes) each =
      let one = one-follows node.prefix at (ready b.block at) (ready-once at node.prefix (each node (inl refl))) in
      omega (
        arith,
        here-or-below at nodes (λ x among. each x (inr among)),
        one-more at (ready b.block at) node nodes,
        where_cut (is_cut node) (begins at node.prefix) (stands_at at node) (tally (λ n. begins (at ++ n ∷ []) node.prefix) (ready b.block at)) one,
      )

  split-below : (at : List ℕ) → IsSplit at → below l.nodes at ≡ 1 + weigh (λ n. below l.nodes (at ++ n ∷ [])) (ready b.block at)
  split-below at is =
      omega (arith, here-or-below at l.nodes beginnings, one-node at (split-part at is).1, cut-stands at l.nodes, ltb-true 0 (cuts at) is)

  -- AS MANY SPLITS

  siblings-count : (siblings : Siblings Ending) (prefix ns : List ℕ) → SiblingsFit b (is_split_at l.nodes) (ending_at b l.nodes) prefix ns siblings → sibling_splits siblings ≡ weigh (λ n. below l.nodes (prefix ++ n ∷ [])) ns
  siblings-count NoMore prefix [] h = refl
  siblings-count NoMore prefix (n ∷ ns) h = absurd h
  siblings-count (Unsplit leaf siblings) prefix [] h = absurd h
  siblings-count (Unsplit leaf siblings) prefix (n ∷ ns) h =
      omega (arith, siblings-count siblings prefix ns h.2, none-below (prefix ++ n ∷ []) (uncut (prefix ++ n ∷ []) h.0))
  siblings-count (Split numbers sub siblings) prefix [] h = absurd h
  siblings-count (Split numbers sub siblings) prefix (n ∷ ns) h =
      let at = prefix ++ n ∷ [] in
      let inner : sibling_splits sub ≡ weigh (λ m. below l.nodes (at ++ m ∷ [])) (ready b.block at) = siblings-count sub at numbers h.2 ∙ ap (λ ms. weigh (λ m. below l.nodes (at ++ m ∷ [])) ms) h.1 in
      omega (arith, siblings-count siblings prefix ns h.3, inner, split-below at h.0)

  tree-count : (tree : Tree Ending) → TreeFits b (is_split_at l.nodes) (ending_at b l.nodes) tree → splits tree ≡ below l.nodes []
  tree-count (Alone leaf) h = sym (none-below [] (uncut [] h.0))
  tree-count (Parted numbers siblings) h =
      omega (arith, siblings-count siblings [] numbers h.2, ap (λ ms. weigh (λ m. below l.nodes (m ∷ [])) ms) h.1, split-below [] h.0)

  pub node_tree-splits : splits (node_tree b l.nodes) ≡ tally is_cut l.nodes
  node_tree-splits =
      tree-count (node_tree b l.nodes) fits ∙ tally-same (λ node. is_cut node && true) is_cut (λ node. and_true (is_cut node)) l.nodes

  -- WHAT HOLDS OF EACH NODE THAT ISN'T SPLIT holds at each leaf

  module _ (Q : List ℕ → Ending → Type 0) (each : (node : Node) → Among node l.nodes → is_cut node ≡ false → Q node.prefix (ending_at b l.nodes node.prefix)) where
    leaf-holds : (at : List ℕ) (leaf : Ending) → 0 < standing at → IsUnsplit at → leaf ≡ ending_at b l.nodes at → Q at leaf
    leaf-holds at leaf some off is =
        let (node, among, stands) = some-passes (stands_at at) l.nodes some in
        let e : node.prefix ≡ at = same-is node.prefix at stands in
        subst (λ x. Q at x) (sym is) (subst (λ x. Q x (ending_at b l.nodes x)) e (each node among (by node among e (cases_Bool (is_cut node)))))
      where
        by : (node : Node) → Among node l.nodes → node.prefix ≡ at → ((is_cut node ≡ true) ⊎ (is_cut node ≡ false)) → is_cut node ≡ false
        by node among e (inr not_cut) = not_cut
        by node among e (inl cut) =
            let it : 0 < cuts node.prefix = cut-counts node l.nodes among (cut-state node.state cut) in
            absurd (omega (arith, it, uncut at off, ap (λ x. cuts x) e))

    children-stand : (at ns : List ℕ) → IsSplit at → ns ≡ ready b.block at → (n : ℕ) → Among n ns → 0 < standing (at ++ n ∷ [])
    children-stand at ns is e n among =
        omega (arith, ltb-true 0 (cuts at) is, table.children at n (ready-among b.block at n (subst (λ ms. Among n ms) e among)))

    siblings-hold : (siblings : Siblings Ending) (prefix ns : List ℕ) → ((n : ℕ) → Among n ns → 0 < standing (prefix ++ n ∷ [])) → SiblingsFit b (is_split_at l.nodes) (ending_at b l.nodes) prefix ns siblings → SiblingsHold b.block Q prefix ns siblings
    siblings-hold NoMore prefix [] stand h = tt
    siblings-hold NoMore prefix (n ∷ ns) stand h = absurd h
    siblings-hold (Unsplit leaf siblings) prefix [] stand h = absurd h
    siblings-hold (Unsplit leaf siblings) prefix (n ∷ ns) stand h =
        (leaf-holds (prefix ++ n ∷ []) leaf (stand n (inl refl)) h.0 h.1, siblings-hold siblings prefix ns (λ m among. stand m (inr among)) h.2)
    siblings-hold (Split numbers sub siblings) prefix [] stand h = absurd h
    siblings-hold (Split numbers sub siblings) prefix (n ∷ ns) stand h =
        let at = prefix ++ n ∷ [] in
        ((split-part at h.0).0, h.1, siblings-hold sub at numbers (children-stand at numbers h.0 h.1) h.2, siblings-hold siblings prefix ns (λ m among. stand m (inr among)) h.3)

    tree-hold : (tree : Tree Ending) → TreeFits b (is_split_at l.nodes) (ending_at b l.nodes) tree → TreeHolds b.block Q [] tree
    tree-hold (Alone leaf) h = leaf-holds [] leaf (omega (arith, table.root)) h.0 h.1
    tree-hold (Parted numbers siblings) h = ((split-part [] h.0).0, h.1, siblings-hold siblings [] numbers (children-stand [] numbers h.0 h.1) h.2)

    pub node_tree-holds : TreeHolds b.block Q [] (node_tree b l.nodes)
    node_tree-holds = tree-hold (node_tree b l.nodes) fits

  -- EACH NODE IS A SPLIT OR A LEAF

  -- what the tree has at a prefix that isn't split
  abbrev values_at : List ℕ → List ℕ
  values_at x = ending_values b x (ending_at b l.nodes x)

  abbrev IsInSiblings : List ℕ → List ℕ → List ℕ → Siblings Ending → Type 0
  IsInSiblings x prefix ns siblings =
      (IsSplit x × Among x (siblings_split_at prefix ns siblings)) ⊎ (IsUnsplit x × ((v : ℕ) → Among v (values_at x) → Among v (sibling_values (ending_values b) prefix ns siblings)))

  -- so it is in the siblings with more before them
  behind-unsplit : (x prefix ns : List ℕ) (n : ℕ) (leaf : Ending) (siblings : Siblings Ending) → IsInSiblings x prefix ns siblings → IsInSiblings x prefix (n ∷ ns) (Unsplit leaf siblings)
  behind-unsplit x prefix ns n leaf siblings (inl (is, among)) = inl (is, among)
  behind-unsplit x prefix ns n leaf siblings (inr (off, among)) =
      inr (off, λ v is. among-rest v (ending_values b (prefix ++ n ∷ []) leaf) (sibling_values (ending_values b) prefix ns siblings) (among v is))

  behind-split : (x prefix ns : List ℕ) (n : ℕ) (numbers : List ℕ) (sub siblings : Siblings Ending) → IsInSiblings x prefix ns siblings → IsInSiblings x prefix (n ∷ ns) (Split numbers sub siblings)
  behind-split x prefix ns n numbers sub siblings (inl (is, among)) =
      inl (is, inr (among-rest x (siblings_split_at (prefix ++ n ∷ []) numbers sub) (siblings_split_at prefix ns siblings) among))
  behind-split x prefix ns n numbers sub siblings (inr (off, among)) =
      inr (off, λ v is. among-rest v (sibling_values (ending_values b) (prefix ++ n ∷ []) numbers sub) (sibling_values (ending_values b) prefix ns siblings) (among v is))

  within-split : (x prefix ns : List ℕ) (n : ℕ) (numbers : List ℕ) (sub siblings : Siblings Ending) → IsInSiblings x (prefix ++ n ∷ []) numbers sub → IsInSiblings x prefix (n ∷ ns) (Split numbers sub siblings)
  within-split x prefix ns n numbers sub siblings (inl (is, among)) =
      inl (is, inr (among-front x (siblings_split_at (prefix ++ n ∷ []) numbers sub) (siblings_split_at prefix ns siblings) among))
  within-split x prefix ns n numbers sub siblings (inr (off, among)) =
      inr (off, λ v is. among-front v (sibling_values (ending_values b) (prefix ++ n ∷ []) numbers sub) (sibling_values (ending_values b) prefix ns siblings) (among v is))

  at-unsplit : (prefix ns : List ℕ) (n : ℕ) (leaf : Ending) (siblings : Siblings Ending) (ms : List ℕ) → IsUnsplit (prefix ++ n ∷ []) → leaf ≡ ending_at b l.nodes (prefix ++ n ∷ []) → GoesOn b.block (prefix ++ n ∷ []) ms → 0 < standing ((prefix ++ n ∷ []) ++ ms) → IsInSiblings ((prefix ++ n ∷ []) ++ ms) prefix (n ∷ ns) (Unsplit leaf siblings)
  at-unsplit prefix ns n leaf siblings [] off is goes some =
      let at = prefix ++ n ∷ [] in
      subst (λ x. IsInSiblings x prefix (n ∷ ns) (Unsplit leaf siblings)) (sym (append-nil at)) (subst (λ f. IsInSiblings at prefix (n ∷ ns) (Unsplit f siblings)) (sym is) (inr (off, λ v there. among-front v (values_at at) (sibling_values (ending_values b) prefix ns siblings) there)))
  at-unsplit prefix ns n leaf siblings (m ∷ ms) off is goes some =
      absurd (omega (arith, some, none-along ms (prefix ++ n ∷ []) m goes (uncut (prefix ++ n ∷ []) off)))

  siblings-reach : (siblings : Siblings Ending) (prefix ns : List ℕ) → SiblingsFit b (is_split_at l.nodes) (ending_at b l.nodes) prefix ns siblings → (n : ℕ) (ms : List ℕ) → Among n ns → GoesOn b.block (prefix ++ n ∷ []) ms → 0 < standing ((prefix ++ n ∷ []) ++ ms) → IsInSiblings ((prefix ++ n ∷ []) ++ ms) prefix ns siblings
  siblings-reach siblings prefix [] h n ms among goes some = absurd among
  siblings-reach NoMore prefix (k ∷ ns) h n ms among goes some = absurd h
  siblings-reach (Unsplit leaf siblings) prefix (k ∷ ns) h n ms (inl e) goes some =
      subst (λ j. IsInSiblings ((prefix ++ n ∷ []) ++ ms) prefix (j ∷ ns) (Unsplit leaf siblings)) e
      (at-unsplit prefix ns n leaf siblings ms (subst (λ j. IsUnsplit (prefix ++ j ∷ [])) (sym e) h.0) (subst (λ j. leaf ≡ ending_at b l.nodes (prefix ++ j ∷ [])) (sym e) h.1) goes some)
  siblings-reach (Unsplit leaf siblings) prefix (k ∷ ns) h n ms (inr past) goes some =
      behind-unsplit ((prefix ++ n ∷ []) ++ ms) prefix ns k leaf siblings (siblings-reach siblings prefix ns h.2 n ms past goes some)
  siblings-reach (Split numbers sub siblings) prefix (k ∷ ns) h n [] (inl e) goes some =
      let at = prefix ++ n ∷ [] in
      let is : IsSplit at = subst (λ j. IsSplit (prefix ++ j ∷ [])) (sym e) h.0 in
      subst (λ x. IsInSiblings x prefix (k ∷ ns) (Split numbers sub siblings)) (sym (append-nil at)) (inl (is, inl (ap (λ j. prefix ++ j ∷ []) e)))
  siblings-reach (Split numbers sub siblings) prefix (k ∷ ns) h n (m ∷ ms) (inl e) goes some =
      let at = prefix ++ k ∷ [] in
      let same : (at ++ m ∷ []) ++ ms ≡ (prefix ++ n ∷ []) ++ m ∷ ms = append_assoc at (m ∷ []) ms ∙ ap (λ j. (prefix ++ j ∷ []) ++ m ∷ ms) (sym e) in
      let goes2 : GoesOn b.block at (m ∷ ms) = subst (λ j. GoesOn b.block (prefix ++ j ∷ []) (m ∷ ms)) e goes in
      let next : Among m numbers = subst (λ ks. Among m ks) (sym h.1) (among-ready b.block at m goes2.0) in
      subst (λ x. IsInSiblings x prefix (k ∷ ns) (Split numbers sub siblings)) same
      (within-split ((at ++ m ∷ []) ++ ms) prefix ns k numbers sub siblings (siblings-reach sub at numbers h.2 m ms next goes2.1 (subst (λ x. 0 < standing x) (sym same) some)))
  siblings-reach (Split numbers sub siblings) prefix (k ∷ ns) h n ms (inr past) goes some =
      behind-split ((prefix ++ n ∷ []) ++ ms) prefix ns k numbers sub siblings (siblings-reach siblings prefix ns h.3 n ms past goes some)

  abbrev IsInTree : List ℕ → Tree Ending → Type 0
  IsInTree x tree =
      (IsSplit x × Among x (split_at [] tree)) ⊎ (IsUnsplit x × ((v : ℕ) → Among v (values_at x) → Among v (tree_values (ending_values b) [] tree)))

  behind-root : (x numbers : List ℕ) (siblings : Siblings Ending) → IsInSiblings x [] numbers siblings → IsInTree x (Parted numbers siblings)
  behind-root x numbers siblings (inl (is, among)) = inl (is, inr among)
  behind-root x numbers siblings (inr (off, among)) = inr (off, among)

  tree-reach : (tree : Tree Ending) → TreeFits b (is_split_at l.nodes) (ending_at b l.nodes) tree → (x : List ℕ) → IsBeginning b.block x → 0 < standing x → IsInTree x tree
  tree-reach (Alone leaf) h [] goes some = subst (λ f. IsInTree [] (Alone f)) (sym h.1) (inr (h.0, λ v is. is))
  tree-reach (Alone leaf) h (n ∷ ns) goes some = absurd (omega (arith, some, none-along ns [] n goes (uncut [] h.0)))
  tree-reach (Parted numbers siblings) h [] goes some = inl (h.0, inl refl)
  tree-reach (Parted numbers siblings) h (n ∷ ns) goes some =
      behind-root (n ∷ ns) numbers siblings (siblings-reach siblings [] numbers h.2 n ns (subst (λ ms. Among n ms) (sym h.1) (among-ready b.block [] n goes.0)) goes.1 some)

  -- where nodes are split the tree is
  pub node_tree-keeps : (x : List ℕ) → IsBeginning b.block x → 0 < cuts x → Among x (split_at [] (node_tree b l.nodes))
  node_tree-keeps x goes some = by (tree-reach (node_tree b l.nodes) fits x goes (omega (arith, some, cut-stands x l.nodes)))
    where
      by : IsInTree x (node_tree b l.nodes) → Among x (split_at [] (node_tree b l.nodes))
      by (inl (is, among)) = among
      by (inr (off, among)) = absurd (omega (arith, some, uncut x off))

  -- what each node that isn't split has
  pub ending-is : (node : Node) → Among node l.nodes → ending_at b l.nodes node.prefix ≡ state_ending b node.prefix node.state
  ending-is node among = ending-found b node l.nodes among (one-node node.prefix (beginnings node among))

  -- if that is its floor, the floor is the value of a leaf
  pub node_tree-values : (node : Node) → Among node l.nodes → is_cut node ≡ false → state_ending b node.prefix node.state ≡ Bounding (floor b node.prefix) → Among (floor_value b node.prefix) (tree_values (ending_values b) [] (node_tree b l.nodes))
  node_tree-values node among not_cut bounds = by (tree-reach (node_tree b l.nodes) fits node.prefix (beginnings node among) (omega (arith, beside)))
    where
      beside : cuts node.prefix < standing node.prefix
      beside = uncut-stands node l.nodes among not_cut

      by : IsInTree node.prefix (node_tree b l.nodes) → Among (floor_value b node.prefix) (tree_values (ending_values b) [] (node_tree b l.nodes))
      by (inr (off, there)) =
          there (floor_value b node.prefix) (subst (λ ending. Among (floor_value b node.prefix) (ending_values b node.prefix ending)) (sym (ending-is node among ∙ bounds)) (inl refl))
      by (inl (is, there)) = absurd (omega (arith, beside, one-node node.prefix (beginnings node among), ltb-true 0 (cuts node.prefix) is))
