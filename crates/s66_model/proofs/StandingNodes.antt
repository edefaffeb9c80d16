-- A node that a name leads to: it is over the tree's prefix, and one that stands is closed or split. What closes a prefix may be a leaf or anything else.
use Rattle.std.proofs.Common.{ℕ, ◌≡◌, ◌⊎◌, Bool, true, false, List, [], ◌∷◌, ◌++◌, refl, sym, ap, inl, inr, eqb, subst, append_assoc, ◌∙◌, Option, Some, None, eqb-true, append-nil}
use Rattle.std.proofs.lemmas.Bool.{cases_Bool}
use Rattle.s66_isa.specs.{Instr}
use Rattle.s66_model.specs.{ready, IsIncomplete, Siblings, NoMore, Unsplit, Split, Tree, Alone, Parted, Vertex, AtTerminal, AtSplit, SiblingsHold, TreeHolds, terminal_at, sibling_at, node_named}
use Rattle.s66_model.specs.{is_node}

-- a node's name goes on from the prefix
pub node-begins : {M : Type 0} (prefix : List ℕ) (tree : Tree M) (name : List ℕ) → is_node (node_named prefix tree name) ≡ true → (path : List ℕ) × (name ≡ prefix ++ path)
node-begins [] tree name h = (name, refl)
node-begins (n ∷ prefix) tree [] h = absurd cc
node-begins (n ∷ prefix) tree (m ∷ name) h =
    elim (cases_Bool (eqb n m)) [
      | inl is ↦
          (let below = node-begins prefix tree name (rw is at h) in
          let same : n ≡ m = eqb-true n m is in
          (below.0, ap (λ x. x ∷ name) (sym same) ∙ ap (λ x. n ∷ x) below.1))
      | inr is ↦ (let no : false ≡ true = rw is at h in absurd cc)
    ]

-- it is a node, and no dominated leaf
abbrev pub stands : {M : Type 0} → (M → Bool) → Option (Vertex M) → Bool
stands closes None = false
stands closes (Some (AtSplit numbers)) = true
stands closes (Some (AtTerminal terminal)) = closes terminal

-- what a node that is no dominated leaf has: what closes it, or children
abbrev pub Standing : {M : Type 0} → (M → Bool) → (List ℕ → M → Type 0) → List Instr → List ℕ → Type 0
Standing {M} closes Q block at =
    ((terminal : M) × (closes terminal ≡ true) × Q at terminal) ⊎ ((numbers : List ℕ) × (siblings : Siblings M) × IsIncomplete block at × (numbers ≡ ready block at) × SiblingsHold block Q at numbers siblings)

module _ {M : Type 0} (closes : M → Bool) (block : List Instr) (Q : List ℕ → M → Type 0) where
  terminal-stands : (terminal : M) (at path : List ℕ) → Q at terminal → stands closes (terminal_at terminal path) ≡ true → Standing closes Q block (at ++ path)
  terminal-stands terminal at [] holds h = inl (terminal, h, subst (λ x. Q x terminal) (sym (append-nil at)) holds)
  terminal-stands terminal at (n ∷ path) holds h = absurd cc

  longer : (at path : List ℕ) (n : ℕ) → Standing closes Q block ((at ++ n ∷ []) ++ path) → Standing closes Q block (at ++ n ∷ path)
  longer at path n h = subst (λ x. Standing closes Q block x) (append_assoc at (n ∷ []) path) h

  sibling-stands : (siblings : Siblings M) (at ns : List ℕ) (n : ℕ) (path : List ℕ) → SiblingsHold block Q at ns siblings → stands closes (sibling_at ns siblings (n ∷ path)) ≡ true → Standing closes Q block (at ++ n ∷ path)
  sibling-stands NoMore at [] n path holds h = absurd cc
  sibling-stands NoMore at (m ∷ ns) n path holds h = absurd holds
  sibling-stands (Unsplit terminal siblings) at [] n path holds h = absurd holds
  sibling-stands (Unsplit terminal siblings) at (m ∷ ns) n path holds h =
      elim (cases_Bool (eqb m n)) [
        | inl is ↦
            (let hold : Q (at ++ n ∷ []) terminal = subst (λ x. Q (at ++ x ∷ []) terminal) (eqb-true m n is) holds.0 in
            longer at path n (terminal-stands terminal (at ++ n ∷ []) path hold (rw is at h)))
        | inr is ↦ sibling-stands siblings at ns n path holds.1 (rw is at h)
      ]
  sibling-stands (Split numbers sub siblings) at [] n path holds h = absurd holds
  sibling-stands (Split numbers sub siblings) at (m ∷ ns) n [] holds h =
      elim (cases_Bool (eqb m n)) [
        | inl is ↦
            (let e : m ≡ n = eqb-true m n is in
            inr (numbers, sub, subst (λ x. IsIncomplete block (at ++ x ∷ [])) e holds.0, subst (λ x. numbers ≡ ready block (at ++ x ∷ [])) e holds.1, subst (λ x. SiblingsHold block Q (at ++ x ∷ []) numbers sub) e holds.2))
        | inr is ↦ sibling-stands siblings at ns n [] holds.3 (rw is at h)
      ]
  sibling-stands (Split numbers sub siblings) at (m ∷ ns) n (k ∷ path) holds h =
      elim (cases_Bool (eqb m n)) [
        | inl is ↦
            (let below : SiblingsHold block Q (at ++ n ∷ []) numbers sub = subst (λ x. SiblingsHold block Q (at ++ x ∷ []) numbers sub) (eqb-true m n is) holds.2 in
            longer at (k ∷ path) n (sibling-stands sub (at ++ n ∷ []) numbers k path below (rw is at h)))
        | inr is ↦ sibling-stands siblings at ns n (k ∷ path) holds.3 (rw is at h)
      ]

  stands-after : (prefix front : List ℕ) (tree : Tree M) (name : List ℕ) → TreeHolds block Q (front ++ prefix) tree → stands closes (node_named prefix tree name) ≡ true → Standing closes Q block (front ++ name)
  stands-after [] front (Alone terminal) name holds h = terminal-stands terminal front name (rw (append-nil front) at holds) h
  stands-after [] front (Parted numbers siblings) [] holds h = inr (numbers, siblings, holds.0, holds.1, holds.2)
  stands-after [] front (Parted numbers siblings) (n ∷ path) holds h =
      sibling-stands siblings front numbers n path (subst (λ x. SiblingsHold block Q x numbers siblings) (append-nil front) holds.2) h
  stands-after (n ∷ prefix) front tree [] holds h = absurd cc
  stands-after (n ∷ prefix) front tree (m ∷ name) holds h =
      elim (cases_Bool (eqb n m)) [
        | inl is ↦
            (let holds2 : TreeHolds block Q ((front ++ n ∷ []) ++ prefix) tree = subst (λ x. TreeHolds block Q x tree) (sym (append_assoc front (n ∷ []) prefix)) holds in
            let below = longer front name n (stands-after prefix (front ++ n ∷ []) tree name holds2 (rw is at h)) in
            subst (λ x. Standing closes Q block (front ++ x ∷ name)) (eqb-true n m is) below)
        | inr is ↦ (let no : false ≡ true = rw is at h in absurd cc)
      ]

  pub node-stands : (prefix : List ℕ) (tree : Tree M) (name : List ℕ) → TreeHolds block Q prefix tree → stands closes (node_named prefix tree name) ≡ true → Standing closes Q block name
  node-stands prefix tree name holds h = stands-after prefix [] tree name holds h
