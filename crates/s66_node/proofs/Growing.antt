-- The steps of a walk in preorder over the tree that is made: down to a child, to the next sibling, and up.
use Rattle.std.proofs.Common.{ℕ, ◌-◌, ◌≡◌, List, [], ◌∷◌, ◌++◌, length, take, refl, sym, ap, arith, inl, inr, ◌∙◌, append_assoc, length-append, subst, append-nil}
use Rattle.s66_isa.specs.{Instr, Among}
use Rattle.s66_model.specs.{ready, IsIncomplete, Tree, Alone, Parted, Siblings, NoMore, Unsplit, Split, AtTerminal, AtSplit, SiblingsHold, TreeHolds, flat_siblings, flat, sibling_splits, splits}
use Rattle.s66_model.specs.{sibling_values, tree_values, siblings_split_at, split_at}
use Rattle.s66_node.specs.{front, SiblingsGrow, TreeGrows, RestsGrow, sibling_prefixes, tree_prefixes, flat_rests, rest_prefixes, rest_values, rests_split_at, Part, Grows}
use Rattle.s66_node.proofs.Leasts.{among-either}

take-front : (at : List ℕ) (n : ℕ) → take (length at) (at ++ n ∷ []) ≡ at
take-front [] n = refl
take-front (m ∷ at) n = ap (λ ms. m ∷ ms) (take-front at n)

pub front-push : (at : List ℕ) (n : ℕ) → front (at ++ n ∷ []) ≡ at
front-push at n =
    let e : length (at ++ n ∷ []) - 1 ≡ length at = omega (arith, length-append at (n ∷ [])) in
    ap (λ k. take k (at ++ n ∷ [])) e ∙ take-front at n

-- one line more, of a prefix that isn't split
abbrev pub with_terminal : {M V : Type 0} → (List ℕ → M → List V) → List ℕ → M → Part M V → Part M V
with_terminal f at terminal part =
    record { vertices = part.vertices ++ AtTerminal terminal ∷ []; prefixes = part.prefixes ++ at ∷ []; found = part.found ++ f at terminal; cuts = part.cuts }

-- and of one that is
abbrev pub with_split : {M V : Type 0} → List ℕ → List ℕ → Part M V → Part M V
with_split at numbers part =
    record { vertices = part.vertices ++ AtSplit numbers ∷ []; prefixes = part.prefixes ++ at ∷ []; found = part.found; cuts = part.cuts ++ at ∷ [] }

module _ {M V : Type 0} (block : List Instr) (P : List ℕ → Type 0) (Q : List ℕ → M → Type 0) (f : List ℕ → M → List V) where
  -- the root is split
  pub grows-root : (root : List ℕ) → P root → Grows block P Q f root root (ready block root ∷ []) (with_split root (ready block root) (record { vertices = []; prefixes = []; found = []; cuts = [] }))
  grows-root root p [] h = absurd h
  grows-root root p (siblings ∷ []) h = (
    Parted (ready block root) siblings,
    (p, refl, h.0),
    ap (λ ks. AtSplit (ready block root) ∷ ks) (sym (append-nil (flat_siblings siblings))),
    sym (append-nil (sibling_values f root (ready block root) siblings)),
    ap (λ xs. root ∷ xs) (sym (append-nil (siblings_split_at root (ready block root) siblings))),
    ap (λ xs. root ∷ xs) (sym (append-nil (sibling_prefixes root (ready block root) siblings))),
  )
  grows-root root p (siblings ∷ (more ∷ rests)) h = absurd h.1

  -- no child is left
  pub grows-up : (root at : List ℕ) (above : List (List ℕ)) (part : Part M V) → Grows block P Q f root at ([] ∷ above) part → Grows block P Q f root (front at) above part
  grows-up root at above part g rests h = g (NoMore ∷ rests) (tt, h)

  -- a child with a terminal
  pub grows-terminal : (root at : List ℕ) (n : ℕ) (ns : List ℕ) (above : List (List ℕ)) (part : Part M V) (terminal : M) → Q (at ++ n ∷ []) terminal → Grows block P Q f root at ((n ∷ ns) ∷ above) part → Grows block P Q f root at (ns ∷ above) (with_terminal f (at ++ n ∷ []) terminal part)
  grows-terminal root at n ns above part terminal q g [] h = absurd h
  grows-terminal root at n ns above part terminal q g (siblings ∷ rests) h =
      let child = at ++ n ∷ [] in
      let (tree, grows, lines, found, cuts, prefixes) = g (Unsplit terminal siblings ∷ rests) ((q, h.0), h.1) in (
        tree,
        grows,
        lines ∙ sym (append_assoc part.vertices (AtTerminal terminal ∷ []) (flat_siblings siblings ++ flat_rests rests)),
        found
            ∙ (ap (λ xs. part.found ++ xs) (append_assoc (f child terminal) (sibling_values f at ns siblings) (rest_values f (front at) above rests))
            ∙ sym (append_assoc part.found (f child terminal) (sibling_values f at ns siblings ++ rest_values f (front at) above rests))),
        cuts,
        prefixes ∙ sym (append_assoc part.prefixes (child ∷ []) (sibling_prefixes at ns siblings ++ rest_prefixes (front at) above rests)),
      )

  -- a child that is split
  pub grows-split : (root at : List ℕ) (n : ℕ) (ns numbers : List ℕ) (above : List (List ℕ)) (part : Part M V) → P (at ++ n ∷ []) → numbers ≡ ready block (at ++ n ∷ []) → Grows block P Q f root at ((n ∷ ns) ∷ above) part → Grows block P Q f root (at ++ n ∷ []) (numbers ∷ (ns ∷ above)) (with_split (at ++ n ∷ []) numbers part)
  grows-split root at n ns numbers above part p is g [] h = absurd h
  grows-split root at n ns numbers above part p is g (sub ∷ []) h = absurd h.1
  grows-split root at n ns numbers above part p is g (sub ∷ (siblings ∷ rests)) h =
      let child = at ++ n ∷ [] in
      let back = front-push at n in
      let siblings_grow : SiblingsGrow block P Q at ns siblings = subst (λ x. SiblingsGrow block P Q x ns siblings) back h.1.0 in
      let rests_grow : RestsGrow block P Q (front at) above rests = subst (λ x. RestsGrow block P Q (front x) above rests) back h.1.1 in
      let (tree, grows, lines, found, cuts, prefixes) = g (Split numbers sub siblings ∷ rests) ((p, is, h.0, siblings_grow), rests_grow) in (
        tree,
        grows,
        lines
            ∙ (ap (λ ks. part.vertices ++ AtSplit numbers ∷ ks) (append_assoc (flat_siblings sub) (flat_siblings siblings) (flat_rests rests))
            ∙ sym (append_assoc part.vertices (AtSplit numbers ∷ []) (flat_siblings sub ++ (flat_siblings siblings ++ flat_rests rests)))),
        found
            ∙ (ap (λ xs. part.found ++ xs) (append_assoc (sibling_values f child numbers sub) (sibling_values f at ns siblings) (rest_values f (front at) above rests))
            ∙ ap (λ x. part.found ++ (sibling_values f child numbers sub ++ (sibling_values f x ns siblings ++ rest_values f (front x) above rests))) (sym back)),
        cuts
            ∙ (ap (λ xs. part.cuts ++ child ∷ xs) (append_assoc (siblings_split_at child numbers sub) (siblings_split_at at ns siblings) (rests_split_at (front at) above rests))
            ∙ (ap (λ x. part.cuts ++ child ∷ (siblings_split_at child numbers sub ++ (siblings_split_at x ns siblings ++ rests_split_at (front x) above rests))) (sym back)
            ∙ sym (append_assoc part.cuts (child ∷ []) (siblings_split_at child numbers sub ++ (siblings_split_at (front child) ns siblings ++ rests_split_at (front (front child)) above rests))))),
        prefixes
            ∙ (ap (λ xs. part.prefixes ++ child ∷ xs) (append_assoc (sibling_prefixes child numbers sub) (sibling_prefixes at ns siblings) (rest_prefixes (front at) above rests))
            ∙ (ap (λ x. part.prefixes ++ child ∷ (sibling_prefixes child numbers sub ++ (sibling_prefixes x ns siblings ++ rest_prefixes (front x) above rests))) (sym back)
            ∙ sym (append_assoc part.prefixes (child ∷ []) (sibling_prefixes child numbers sub ++ (sibling_prefixes (front child) ns siblings ++ rest_prefixes (front (front child)) above rests))))),
      )

  -- nothing is left
  pub grows-done : (root at : List ℕ) (part : Part M V) → Grows block P Q f root at [] part → (tree : Tree M) × TreeGrows block P Q root tree × (flat tree ≡ part.vertices) × (tree_values f root tree ≡ part.found) × (split_at root tree ≡ part.cuts) × (tree_prefixes root tree ≡ part.prefixes)
  grows-done root at part g =
      let (tree, grows, lines, found, cuts, prefixes) = g [] tt in
      (tree, grows, lines ∙ append-nil part.vertices, found ∙ append-nil part.found, cuts ∙ append-nil part.cuts, prefixes ∙ append-nil part.prefixes)

module _ {M : Type 0} (block : List Instr) (P : List ℕ → Type 0) (Q : List ℕ → M → Type 0) where
  -- a grown tree is a tree
  siblings-hold : ((at : List ℕ) → P at → IsIncomplete block at) → (prefix ns : List ℕ) (siblings : Siblings M) → SiblingsGrow block P Q prefix ns siblings → SiblingsHold block Q prefix ns siblings
  siblings-hold part prefix [] NoMore h = tt
  siblings-hold part prefix (n ∷ ns) NoMore h = absurd h
  siblings-hold part prefix [] (Unsplit terminal siblings) h = absurd h
  siblings-hold part prefix (n ∷ ns) (Unsplit terminal siblings) h = (h.0, siblings-hold part prefix ns siblings h.1)
  siblings-hold part prefix [] (Split numbers sub siblings) h = absurd h
  siblings-hold part prefix (n ∷ ns) (Split numbers sub siblings) h =
      (part (prefix ++ n ∷ []) h.0, h.1, siblings-hold part (prefix ++ n ∷ []) numbers sub h.2, siblings-hold part prefix ns siblings h.3)

  pub tree-holds : ((at : List ℕ) → P at → IsIncomplete block at) → (prefix : List ℕ) (tree : Tree M) → TreeGrows block P Q prefix tree → TreeHolds block Q prefix tree
  tree-holds part prefix (Alone terminal) h = h
  tree-holds part prefix (Parted numbers siblings) h = (part prefix h.0, h.1, siblings-hold part prefix numbers siblings h.2)

  -- P holds wherever it is split
  siblings-splits : (prefix ns : List ℕ) (siblings : Siblings M) → SiblingsGrow block P Q prefix ns siblings → (at : List ℕ) → Among at (siblings_split_at prefix ns siblings) → P at
  siblings-splits prefix [] siblings h at among = absurd among
  siblings-splits prefix (n ∷ ns) NoMore h at among = absurd h
  siblings-splits prefix (n ∷ ns) (Unsplit terminal siblings) h at among = siblings-splits prefix ns siblings h.1 at among
  siblings-splits prefix (n ∷ ns) (Split numbers sub siblings) h at (inl e) = subst P (sym e) h.0
  siblings-splits prefix (n ∷ ns) (Split numbers sub siblings) h at (inr among) =
      among-either at (siblings_split_at (prefix ++ n ∷ []) numbers sub) (siblings_split_at prefix ns siblings) (P at) (λ k. siblings-splits (prefix ++ n ∷ []) numbers sub h.2 at k) (λ k. siblings-splits prefix ns siblings h.3 at k) among

  pub tree-splits : (prefix : List ℕ) (tree : Tree M) → TreeGrows block P Q prefix tree → (at : List ℕ) → Among at (split_at prefix tree) → P at
  tree-splits prefix (Alone terminal) h at among = absurd among
  tree-splits prefix (Parted numbers siblings) h at (inl e) = subst P (sym e) h.0
  tree-splits prefix (Parted numbers siblings) h at (inr among) = siblings-splits prefix numbers siblings h.2 at among

-- a tree has as many splits as prefixes that it splits
module _ {M : Type 0} (block : List Instr) (Q : List ℕ → M → Type 0) where
  siblings-count : (prefix ns : List ℕ) (siblings : Siblings M) → SiblingsHold block Q prefix ns siblings → length (siblings_split_at prefix ns siblings) ≡ sibling_splits siblings
  siblings-count prefix [] NoMore h = refl
  siblings-count prefix (n ∷ ns) NoMore h = absurd h
  siblings-count prefix [] (Unsplit terminal siblings) h = absurd h
  siblings-count prefix (n ∷ ns) (Unsplit terminal siblings) h = siblings-count prefix ns siblings h.1
  siblings-count prefix [] (Split numbers sub siblings) h = absurd h
  siblings-count prefix (n ∷ ns) (Split numbers sub siblings) h =
      omega (arith, length-append (siblings_split_at (prefix ++ n ∷ []) numbers sub) (siblings_split_at prefix ns siblings), siblings-count (prefix ++ n ∷ []) numbers sub h.2, siblings-count prefix ns siblings h.3)

  pub splits-count : (prefix : List ℕ) (tree : Tree M) → TreeHolds block Q prefix tree → length (split_at prefix tree) ≡ splits tree
  splits-count prefix (Alone terminal) h = refl
  splits-count prefix (Parted numbers siblings) h = omega (arith, siblings-count prefix numbers siblings h.2)
