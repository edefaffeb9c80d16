-- In the tree of a ledger's nodes the prefix of each node leads to it.
use Rattle.std.proofs.Common.{ℕ, ◌<◌, ◌≡◌, Bool, true, false, cond, List, [], ◌∷◌, ◌++◌, refl, sym, ap, arith, inl, inr, eqb, ◌∙◌, subst, append_assoc, Some, eqb-true, eq-eqb, append-nil}
use Rattle.std.proofs.lemmas.Bool.{cases_Bool}
use Rattle.s66_isa.specs.{tally, Among}
use Rattle.s66_model.specs.{Rule, NoneNamed, WrittenEarlier, ClampedStanding, Problem, ready, GoesOn, IsBeginning, Siblings, NoMore, Unsplit, Split, Tree, Alone, Parted, Vertex, AtTerminal, AtSplit}
use Rattle.s66_model.specs.{terminal_at, sibling_at, node_named, Ending, Bounding, Dominated, Factual, may_be_named, Ledger, Node, State, Open, Out, Cut, Closed, may_name, HasNamed, stands_at}
use Rattle.s66_model.specs.{IsTable, is_split_at, state_ending, ending_at, node_tree}
use Rattle.s66_model.proofs.Remaining.{among-ready}
use Rattle.s66_model.proofs.GrownTrees.{SiblingsFit, TreeFits}
use Rattle.s66_model.proofs.NodeTrees.{is-same, passes-some, fits, uncut, none-along, ending-is}

module _ (b : Problem) (l : Ledger) (table : IsTable b l) (beginnings : (node : Node) → Among node l.nodes → IsBeginning b.block node.prefix) where
  abbrev is_split : List ℕ → Bool
  is_split at = is_split_at l.nodes at

  abbrev ending : List ℕ → Ending
  ending at = ending_at b l.nodes at

  abbrev standing : List ℕ → ℕ
  standing at = tally (stands_at at) l.nodes

  -- what the tree has at a prefix
  abbrev vertex_at : List ℕ → Vertex Ending
  vertex_at x = cond (is_split x) (AtSplit (ready b.block x)) (AtTerminal (ending x))

  terminal-there : (at ms : List ℕ) (terminal : Ending) → is_split at ≡ false → terminal ≡ ending at → GoesOn b.block at ms → 0 < standing (at ++ ms) → terminal_at terminal ms ≡ Some (vertex_at (at ++ ms))
  terminal-there at [] terminal off is goes some =
      subst (λ x. Some (AtTerminal terminal) ≡ Some (vertex_at x)) (sym (append-nil at)) (rw off (ap (λ e. Some (AtTerminal e)) is))
  terminal-there at (m ∷ ms) terminal off is goes some =
      absurd (omega (arith, some, none-along b l table beginnings ms at m goes (uncut b l table beginnings at off)))

  siblings-lead : (siblings : Siblings Ending) (prefix ns : List ℕ) → SiblingsFit b is_split ending prefix ns siblings → (n : ℕ) (ms : List ℕ) → Among n ns → GoesOn b.block (prefix ++ n ∷ []) ms → 0 < standing ((prefix ++ n ∷ []) ++ ms) → sibling_at ns siblings (n ∷ ms) ≡ Some (vertex_at ((prefix ++ n ∷ []) ++ ms))
  siblings-lead siblings prefix [] h n ms among goes some = absurd among
  siblings-lead NoMore prefix (k ∷ ns) h n ms among goes some = absurd h
  siblings-lead (Unsplit terminal siblings) prefix (k ∷ ns) h n ms among goes some =
      elim (cases_Bool (eqb k n)) [
        | inl is ↦
            (let e : k ≡ n = eqb-true k n is in
            rw is (terminal-there (prefix ++ n ∷ []) ms terminal (subst (λ j. is_split (prefix ++ j ∷ []) ≡ false) e h.0) (subst (λ j. terminal ≡ ending (prefix ++ j ∷ [])) e h.1) goes some))
        | inr off ↦ rw off (siblings-lead siblings prefix ns h.2 n ms (past k n ns off among) goes some)
      ]
    where
      past : (k n : ℕ) (ns : List ℕ) → eqb k n ≡ false → Among n (k ∷ ns) → Among n ns
      past k n ns off (inl e) = absurd (let no : true ≡ false = sym (eq-eqb k n (sym e)) ∙ off in cc)
      past k n ns off (inr later) = later
  siblings-lead (Split numbers sub siblings) prefix (k ∷ ns) h n ms among goes some =
      elim (cases_Bool (eqb k n)) [
        | inl is ↦ rw is (below (λ m rest fit next more there. siblings-lead sub (prefix ++ n ∷ []) numbers fit m rest next more there) ms (eqb-true k n is) goes some)
        | inr off ↦ rw off (siblings-lead siblings prefix ns h.3 n ms (past off among) goes some)
      ]
    where
      past : eqb k n ≡ false → Among n (k ∷ ns) → Among n ns
      past off (inl e) = absurd (let no : true ≡ false = sym (eq-eqb k n (sym e)) ∙ off in cc)
      past off (inr later) = later

      below : ((m : ℕ) (rest : List ℕ) → SiblingsFit b is_split ending (prefix ++ n ∷ []) numbers sub → Among m numbers → GoesOn b.block ((prefix ++ n ∷ []) ++ m ∷ []) rest → 0 < standing (((prefix ++ n ∷ []) ++ m ∷ []) ++ rest) → sibling_at numbers sub (m ∷ rest) ≡ Some (vertex_at (((prefix ++ n ∷ []) ++ m ∷ []) ++ rest))) → (ms : List ℕ) → k ≡ n → GoesOn b.block (prefix ++ n ∷ []) ms → 0 < standing ((prefix ++ n ∷ []) ++ ms) → sibling_at numbers sub ms ≡ Some (vertex_at ((prefix ++ n ∷ []) ++ ms))
      below lead [] e goes some =
          let at = prefix ++ n ∷ [] in
          let is : is_split at ≡ true = subst (λ j. is_split (prefix ++ j ∷ []) ≡ true) e h.0 in
          let same : numbers ≡ ready b.block at = subst (λ j. numbers ≡ ready b.block (prefix ++ j ∷ [])) e h.1 in
          subst (λ x. Some (AtSplit numbers) ≡ Some (vertex_at x)) (sym (append-nil at)) (rw is (ap (λ ks. Some (AtSplit ks)) same))
      below lead (m ∷ ms) e goes some =
          let at = prefix ++ n ∷ [] in
          let same : (at ++ m ∷ []) ++ ms ≡ at ++ m ∷ ms = append_assoc at (m ∷ []) ms in
          let fit : SiblingsFit b is_split ending at numbers sub = subst (λ j. SiblingsFit b is_split ending (prefix ++ j ∷ []) numbers sub) e h.2 in
          let numbers_are : numbers ≡ ready b.block at = subst (λ j. numbers ≡ ready b.block (prefix ++ j ∷ [])) e h.1 in
          let next : Among m numbers = subst (λ ks. Among m ks) (sym numbers_are) (among-ready b.block at m goes.0) in
          subst (λ x. sibling_at numbers sub (m ∷ ms) ≡ Some (vertex_at x)) same
          (lead m ms fit next goes.1 (subst (λ x. 0 < standing x) (sym same) some))

  tree-leads : (tree : Tree Ending) → TreeFits b is_split ending tree → (x : List ℕ) → IsBeginning b.block x → 0 < standing x → node_named [] tree x ≡ Some (vertex_at x)
  tree-leads (Alone terminal) h x goes some = terminal-there [] x terminal h.0 h.1 goes some
  tree-leads (Parted numbers siblings) h [] goes some = rw h.0 (ap (λ ks. Some (AtSplit ks)) h.1)
  tree-leads (Parted numbers siblings) h (n ∷ ns) goes some =
      siblings-lead siblings [] numbers h.2 n ns (subst (λ ms. Among n ms) (sym h.1) (among-ready b.block [] n goes.0)) goes.1 some

  -- a node that may be named is one that may be named in the tree
  named-vertex : (rule : Rule) (state : State) (at : List ℕ) (split : Bool) → may_name rule state ≡ true → may_be_named rule (Some (cond split (AtSplit (ready b.block at)) (AtTerminal (state_ending b at state)))) ≡ true
  named-vertex NoneNamed state at split h = absurd cc
  named-vertex WrittenEarlier state at split h = refl
  named-vertex ClampedStanding state at true h = refl
  named-vertex ClampedStanding Open at false h = refl
  named-vertex ClampedStanding Out at false h = refl
  named-vertex ClampedStanding Cut at false h = refl
  named-vertex ClampedStanding (Closed (Bounding leaf)) at false h = refl
  named-vertex ClampedStanding (Closed (Dominated name)) at false h = absurd cc
  named-vertex ClampedStanding (Closed (Factual leaf)) at false h = refl

  pub named-there : (rule : Rule) (name : List ℕ) → HasNamed rule l.nodes name → may_be_named rule (node_named [] (node_tree b l.nodes) name) ≡ true
  named-there rule name (node, among, is, may) =
      let some : 0 < standing node.prefix = passes-some (stands_at node.prefix) node l.nodes among (is-same node.prefix) in
      let leads : node_named [] (node_tree b l.nodes) node.prefix ≡ Some (vertex_at node.prefix) = tree-leads (node_tree b l.nodes) (fits b l table beginnings) node.prefix (beginnings node among) some in
      let vertex : may_be_named rule (Some (vertex_at node.prefix)) ≡ true =
      subst (λ e. may_be_named rule (Some (cond (is_split node.prefix) (AtSplit (ready b.block node.prefix)) (AtTerminal e))) ≡ true) (sym (ending-is b l table beginnings node among)) (named-vertex rule node.state node.prefix (is_split node.prefix) may) in
      subst (λ x. may_be_named rule (node_named [] (node_tree b l.nodes) x) ≡ true) is (ap (may_be_named rule) leads ∙ vertex)
