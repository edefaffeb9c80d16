-- The node of each line of a tree that splits into the ready numbers has its prefix as its name, and may be named in the tree of line endings if it may be in this one.
use Rattle.std.proofs.Common.{ℕ, zero, suc, ◌<◌, ◌+◌, ◌-◌, ◌≤◌, ◌≡◌, ◌≢◌, Bool, true, false, ◌&&◌, eqb, ltb, ne_eqb, eq-eqb, length, List, [], ◌∷◌, ◌++◌, Option, None, Some, slice_get, filter, refl}
use Rattle.std.proofs.Common.{sym, ap, ◌∙◌, subst, inl, inr, arith, append_assoc, lt-ltb, le-ltb}
use Rattle.std.proofs.lemmas.Bool.{cases_Bool}
use Rattle.s66_isa.specs.{Among, rising, Instr, numbers, BLOCK_LIMIT}
use Rattle.s66_isa.proofs.Lists.{among-rising, got-among, split-among, filter-among}
use Rattle.s66_model.specs.{is_ready, ready, Tree, Alone, Parted, Siblings, NoMore, Unsplit, Split, Vertex, SiblingsHold, TreeHolds, terminal_at, sibling_at, node_named, Ending, Bounding, Dominated}
use Rattle.s66_model.specs.{Factual, is_standing, Next, Turned, AtLine, LoadFrom, siblings_seen, tree_seen}
use Rattle.s66_moments.specs.{LineEnding, is_closed}
use Rattle.s66_cert.specs.{Document, siblings_placed, tree_placed, IsLineAt}
use Rattle.s66_checker.specs.{is_beginning, is_same_set, problem_of, tree_line_number, node_on, is_name_at, IsNodeOn, line_ending, line_tree}
use Rattle.s66_checker.proofs.GoingTo.{goes_on-Decides}
use Rattle.s66_checker.proofs.ReadyByNeeds.{beginning-few}

-- WHICH NODES MAY BE NAMED

module _ (d : Document) where
  abbrev seen : List ℕ → Ending → LineEnding
  seen at ending = line_ending d ending

  closed-terminal : (ending : Ending) (at path : List ℕ) → is_closed (terminal_at (seen at ending) path) ≡ is_standing (terminal_at ending path)
  closed-terminal ending at (n ∷ path) = refl
  closed-terminal (Bounding leaf) at [] = refl
  closed-terminal (Dominated name) at [] = refl
  closed-terminal (Factual (Next number)) at [] = refl
  closed-terminal (Factual (Turned first second)) at [] = refl
  closed-terminal (Factual (AtLine line)) at [] = refl
  closed-terminal (Factual (LoadFrom after numbers)) at [] = refl

  closed-siblings : (siblings : Siblings Ending) (prefix ns path : List ℕ) → is_closed (sibling_at ns (siblings_seen seen prefix ns siblings) path) ≡ is_standing (sibling_at ns siblings path)
  closed-siblings siblings prefix ns [] = refl
  closed-siblings siblings prefix [] (k ∷ path) = refl
  closed-siblings NoMore prefix (n ∷ ns) (k ∷ path) = refl
  closed-siblings (Unsplit ending siblings) prefix (n ∷ ns) (k ∷ path) =
      elim (cases_Bool (eqb n k)) [
        | inl is ↦ rw is (closed-terminal ending (prefix ++ n ∷ []) path)
        | inr is ↦ rw is (closed-siblings siblings prefix ns (k ∷ path))
      ]
  closed-siblings (Split numbers sub siblings) prefix (n ∷ ns) (k ∷ path) =
      elim (cases_Bool (eqb n k)) [
        | inl is ↦ rw is (closed-siblings sub (prefix ++ n ∷ []) numbers path)
        | inr is ↦ rw is (closed-siblings siblings prefix ns (k ∷ path))
      ]

  pub closed-node : (name : List ℕ) → is_closed (node_named [] (line_tree d) name) ≡ is_standing (node_named [] d.tree name)
  closed-node name = by d.tree
    where
      by : (tree : Tree Ending) → is_closed (node_named [] (tree_seen seen [] tree) name) ≡ is_standing (node_named [] tree name)
      by (Alone ending) = closed-terminal ending [] name
      by (Parted numbers siblings) = closed-siblings siblings [] numbers name

-- THE NODE OF A LINE

none-some : {X : Type 0} (x : X) → None ≡ Some x → ⊥
none-some x is = absurd cc

-- each is below all that come after it
abbrev Rise : List ℕ → Type 0
Rise [] = Unit {0}
Rise (m ∷ ms) = ((n : ℕ) → Among n ms → m < n) × Rise ms

filtered-rise : (test : ℕ → Bool) (count low : ℕ) → Rise (filter test (rising count low))
filtered-rise test zero low = tt
filtered-rise test (suc count) low =
    elim (cases_Bool (test low)) [
      | inl is ↦ rw is ((λ n among. (let here = among-rising count (suc low) n (filter-among test n (rising count (suc low)) among).0 in omega (arith, here.0))), filtered-rise test count (suc low))
      | inr is ↦ rw is (filtered-rise test count (suc low))
    ]

module _ (block : List Instr) (Q : List ℕ → Ending → Type 0) where
  ready-rise : (ns at : List ℕ) → ns ≡ ready block at → Rise ns
  ready-rise ns at e = subst Rise (sym e) (filtered-rise (is_ready block at) (length block) 1)

  -- the vertex of a prefix below this one
  abbrev IsBelow : List ℕ → List ℕ → Siblings Ending → List ℕ × Vertex Ending → Type 0
  IsBelow prefix ns siblings at =
      (n : ℕ) × (path : List ℕ) × (at.0 ≡ prefix ++ n ∷ path) × Among n ns × (sibling_at ns siblings (n ∷ path) ≡ Some at.1)

  -- behind a first child, with which the others share no number
  behind : (prefix ns : List ℕ) (m : ℕ) (siblings all : Siblings Ending) (at : List ℕ × Vertex Ending) → Rise (m ∷ ns) →
      ((n : ℕ) (path : List ℕ) → eqb m n ≡ false → sibling_at (m ∷ ns) all (n ∷ path) ≡ sibling_at ns siblings (n ∷ path)) →
      IsBelow prefix ns siblings at → IsBelow prefix (m ∷ ns) all at
  behind prefix ns m siblings all at rise passes (n, path, is, among, found) =
      let apart : m ≢ n = λ e. absurd (omega (arith, e, rise.0 n among)) in
      (n, path, is, inr among, passes n path (ne_eqb m n apart) ∙ found)

  siblings-below : (siblings : Siblings Ending) (prefix ns : List ℕ) (at : List ℕ × Vertex Ending) → SiblingsHold block Q prefix ns siblings → Rise ns → Among at (siblings_placed prefix ns siblings) → IsBelow prefix ns siblings at
  siblings-below siblings prefix [] at holds rise among = absurd among
  siblings-below NoMore prefix (m ∷ ns) at holds rise among = absurd among
  siblings-below (Unsplit ending siblings) prefix (m ∷ ns) at holds rise (inl here) =
      (m, [], ap (λ (x : List ℕ × Vertex Ending). x.0) here, inl refl, rw (eq-eqb m m refl) (ap (λ (x : List ℕ × Vertex Ending). Some x.1) (sym here)))
  siblings-below (Unsplit ending siblings) prefix (m ∷ ns) at holds rise (inr among) =
      behind prefix ns m siblings (Unsplit ending siblings) at rise (λ n path other. rw other refl) (siblings-below siblings prefix ns at holds.1 rise.1 among)
  siblings-below (Split numbers sub siblings) prefix (m ∷ ns) at holds rise (inl here) =
      (m, [], ap (λ (x : List ℕ × Vertex Ending). x.0) here, inl refl, rw (eq-eqb m m refl) (ap (λ (x : List ℕ × Vertex Ending). Some x.1) (sym here)))
  siblings-below (Split numbers sub siblings) prefix (m ∷ ns) at holds rise (inr among) =
      let child : List ℕ = prefix ++ m ∷ [] in
      elim (split-among at (siblings_placed child numbers sub) (siblings_placed prefix ns siblings) among) [
        | inl below ↦
            let (k, path, is, among2, found) = siblings-below sub child numbers at holds.2 (ready-rise numbers child holds.1) below in
            (m, k ∷ path, is ∙ append_assoc prefix (m ∷ []) (k ∷ path), inl refl, rw (eq-eqb m m refl) found)
        | inr later ↦
            behind prefix ns m siblings (Split numbers sub siblings) at rise (λ n path other. rw other refl) (siblings-below siblings prefix ns at holds.3 rise.1 later)
      ]

  placed-node : (tree : Tree Ending) (at : List ℕ × Vertex Ending) → TreeHolds block Q [] tree → Among at (tree_placed [] tree) → node_named [] tree at.0 ≡ Some at.1
  placed-node (Alone ending) at holds (inl here) = rw (ap (λ (x : List ℕ × Vertex Ending). x.0) here) (ap (λ (x : List ℕ × Vertex Ending). Some x.1) (sym here))
  placed-node (Alone ending) at holds (inr none) = absurd none
  placed-node (Parted numbers siblings) at holds (inl here) = rw (ap (λ (x : List ℕ × Vertex Ending). x.0) here) (ap (λ (x : List ℕ × Vertex Ending). Some x.1) (sym here))
  placed-node (Parted numbers siblings) at holds (inr among) =
      let (n, path, is, among2, found) = siblings-below siblings [] numbers at holds.2 (ready-rise numbers [] holds.1) among in
      rw is found

  -- the line of a number in the document
  pub node-found : (d : Document) (line : ℕ) (at : List ℕ × Vertex Ending) → TreeHolds block Q [] d.tree → node_on d line ≡ Some at → node_named [] d.tree at.0 ≡ Some at.1
  node-found d line at holds is =
      elim (cases_Bool (ltb line (tree_line_number d))) [
        | inl before ↦ absurd (none-some at (sym (rw before refl) ∙ is))
        | inr past ↦ placed-node d.tree at holds (got-among (tree_placed [] d.tree) (line - tree_line_number d) at (sym (rw past refl) ∙ is))
      ]

-- NO NODE

long-none : (d : Document) (limit : ℕ) (at : List ℕ) (found : Option (List ℕ × Vertex Ending)) → length (problem_of d).block ≤ limit → ((line : List ℕ × Vertex Ending) → found ≡ Some line → limit < length line.0) → is_name_at d at found ≡ false
long-none d limit at None few long = refl
long-none d limit at (Some node) few long =
    elim (cases_Bool (is_beginning (problem_of d).block node.0)) [
      | inl is ↦ absurd (omega (arith, few, long node refl, beginning-few (problem_of d).block node.0 ((goes_on-Decides (problem_of d).block [] node.0).0 is)))
      | inr not ↦ rw not (and_none (is_standing (Some node.1)) (is_same_set node.0 at))
    ]
  where
    and_none : (first last : Bool) → (first && false && last) ≡ false
    and_none true last = refl
    and_none false last = refl

-- a line before the tree, and one of the tree, if the one at its place is found or has a prefix that is too long
pub line-before : (d : Document) (line : ℕ) (at : List ℕ) → line < tree_line_number d → is_name_at d at (node_on d line) ≡ false
line-before d line at before = rw (lt-ltb line (tree_line_number d) before) refl

module _ (d : Document) (line place : ℕ) (is : line ≡ place + tree_line_number d) where
  node-at : node_on d line ≡ slice_get (tree_placed [] d.tree) place
  node-at =
      let here : line - tree_line_number d ≡ place = omega (arith, is) in
      rw (le-ltb line (tree_line_number d) (omega (arith, is)), here) refl

  pub node-there : (node : List ℕ × Vertex Ending) → slice_get (tree_placed [] d.tree) place ≡ Some node → node_on d line ≡ Some node
  node-there node found = node-at ∙ found

  pub node-long : (limit : ℕ) (at : List ℕ) → length (problem_of d).block ≤ limit → ((node : List ℕ × Vertex Ending) → slice_get (tree_placed [] d.tree) place ≡ Some node → limit < length node.0) → is_name_at d at (node_on d line) ≡ false
  node-long limit at few long = long-none d limit at (node_on d line) few (λ node found. long node (sym node-at ∙ found))

  pub node-is : (found : Option (Vertex Ending)) (path : List ℕ) → length (problem_of d).block ≤ BLOCK_LIMIT → IsLineAt d.tree place found path → IsNodeOn d line found path
  node-is None path few long = λ at. node-long BLOCK_LIMIT at few long
  node-is (Some vertex) path few there = node-there (path, vertex) there
