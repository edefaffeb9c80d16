-- If a tree splits a prefix, there is a node of this name.
use Rattle.std.proofs.Common.{ℕ, zero, suc, ◌≤◌, ◌<◌, ◌≡◌, ◌⊎◌, Bool, true, List, [], ◌∷◌, ◌++◌, length, refl, sym, ap, arith, inl, inr, ◌∙◌, subst, append_assoc, length-append, eq-eqb, ne_eqb}
use Rattle.std.proofs.Common.{append-nil, filter}
use Rattle.std.proofs.lemmas.Bool.{cases_Bool}
use Rattle.s66_isa.specs.{Instr, Among, rising}
use Rattle.s66_isa.proofs.Lists.{among-front, among-rest}
use Rattle.s66_model.specs.{is_ready, ready, Tree, Alone, Parted, Siblings, NoMore, Unsplit, Split, AtTerminal, SiblingsHold, TreeHolds, flat_siblings, flat, siblings_split_at, split_at, sibling_at}
use Rattle.s66_model.specs.{node_named, is_node}
use Rattle.s66_model.proofs.LongestChain.{Rises-among}
use Rattle.s66_node.proofs.Leasts.{among-either}

-- EACH NUMBER COMES ONCE among those that are ready

abbrev Rises : ℕ → List ℕ → Type 0
Rises low [] = Unit {0}
Rises low (n ∷ ns) = (low ≤ n) × Rises (suc n) ns

rises-lower : (low lower : ℕ) (ns : List ℕ) → lower ≤ low → Rises low ns → Rises lower ns
rises-lower low lower [] le h = tt
rises-lower low lower (n ∷ ns) le h = (omega (arith, le, h.0), h.1)

filter-rises : (test : ℕ → Bool) (count low : ℕ) → Rises low (filter test (rising count low))
filter-rises test zero low = tt
filter-rises test (suc count) low =
    elim (cases_Bool (test low)) [
      | inl is ↦ rw is (omega arith, filter-rises test count (suc low))
      | inr off ↦ rw off (rises-lower (suc low) low (filter test (rising count (suc low))) (omega arith) (filter-rises test count (suc low)))
    ]

ready-rises : (block : List Instr) (prefix : List ℕ) → Rises 1 (ready block prefix)
ready-rises block prefix = filter-rises (is_ready block prefix) (length block) 1

-- THE NODE OF A SPLIT

node-over : {M : Type 0} (prefix : List ℕ) (tree : Tree M) (path : List ℕ) → node_named prefix tree (prefix ++ path) ≡ node_named [] tree path
node-over [] tree path = refl
node-over (n ∷ prefix) tree path = rw (eq-eqb n n refl) (node-over prefix tree path)

-- a path from a split with these children leads to a node
abbrev Leads : {M : Type 0} → List ℕ → List ℕ → Siblings M → List ℕ → Type 0
Leads prefix ns siblings x = (n : ℕ) × (path : List ℕ) × (x ≡ prefix ++ n ∷ path) × Among n ns × (is_node (sibling_at ns siblings (n ∷ path)) ≡ true)

module _ {M : Type 0} (block : List Instr) (Q : List ℕ → M → Type 0) where
  -- past a child that isn't split
  past-terminal : (prefix ns : List ℕ) (m low : ℕ) (terminal : M) (siblings : Siblings M) (x : List ℕ) → Rises low (m ∷ ns) → Leads prefix ns siblings x → Leads prefix (m ∷ ns) (Unsplit terminal siblings) x
  past-terminal prefix ns m low terminal siblings x rises (n, path, is, among, leads) =
      let above : suc m ≤ n = Rises-among (suc m) n ns rises.1 among in
      (n, path, is, inr among, rw (ne_eqb m n (omega (arith, above))) leads)

  -- and past one that is
  past-split : (prefix ns numbers : List ℕ) (m low : ℕ) (sub siblings : Siblings M) (x : List ℕ) → Rises low (m ∷ ns) → Leads prefix ns siblings x → Leads prefix (m ∷ ns) (Split numbers sub siblings) x
  past-split prefix ns numbers m low sub siblings x rises (n, path, is, among, leads) =
      let above : suc m ≤ n = Rises-among (suc m) n ns rises.1 among in
      (n, path, is, inr among, rw (ne_eqb m n (omega (arith, above))) leads)

  -- to it, and to what is below it
  to-split : (prefix ns numbers : List ℕ) (m : ℕ) (sub siblings : Siblings M) → Leads prefix (m ∷ ns) (Split numbers sub siblings) (prefix ++ m ∷ [])
  to-split prefix ns numbers m sub siblings = (m, [], refl, inl refl, rw (eq-eqb m m refl) refl)

  below-split : (prefix ns numbers : List ℕ) (m : ℕ) (sub siblings : Siblings M) (x : List ℕ) → Leads (prefix ++ m ∷ []) numbers sub x → Leads prefix (m ∷ ns) (Split numbers sub siblings) x
  below-split prefix ns numbers m sub siblings x (n, path, is, among, leads) =
      (m, n ∷ path, is ∙ append_assoc prefix (m ∷ []) (n ∷ path), inl refl, rw (eq-eqb m m refl) leads)

  siblings-lead : (prefix ns : List ℕ) (low : ℕ) (siblings : Siblings M) → Rises low ns → SiblingsHold block Q prefix ns siblings → (x : List ℕ) → Among x (siblings_split_at prefix ns siblings) → Leads prefix ns siblings x
  siblings-lead prefix [] low siblings rises h x among = absurd among
  siblings-lead prefix (m ∷ ns) low NoMore rises h x among = absurd h
  siblings-lead prefix (m ∷ ns) low (Unsplit terminal siblings) rises h x among =
      past-terminal prefix ns m low terminal siblings x rises (siblings-lead prefix ns (suc m) siblings rises.1 h.1 x among)
  siblings-lead prefix (m ∷ ns) low (Split numbers sub siblings) rises h x (inl is) =
      subst (Leads prefix (m ∷ ns) (Split numbers sub siblings)) (sym is) (to-split prefix ns numbers m sub siblings)
  siblings-lead prefix (m ∷ ns) low (Split numbers sub siblings) rises h x (inr among) =
      let below = prefix ++ m ∷ [] in
      among-either x (siblings_split_at below numbers sub) (siblings_split_at prefix ns siblings) (Leads prefix (m ∷ ns) (Split numbers sub siblings) x)
      (λ inside. below-split prefix ns numbers m sub siblings x (siblings-lead below numbers 1 sub (subst (Rises 1) (sym h.1) (ready-rises block below)) h.2 x inside))
      (λ later. past-split prefix ns numbers m low sub siblings x rises (siblings-lead prefix ns (suc m) siblings rises.1 h.3 x later)) among

  pub split-node : (prefix : List ℕ) (tree : Tree M) → TreeHolds block Q prefix tree → (x : List ℕ) → Among x (split_at prefix tree) → is_node (node_named prefix tree x) ≡ true
  split-node prefix (Alone terminal) h x among = absurd among
  split-node prefix (Parted numbers siblings) h x (inl is) =
      subst (λ y. is_node (node_named prefix (Parted numbers siblings) y) ≡ true) (sym (is ∙ sym (append-nil prefix))) (ap is_node (node-over prefix (Parted numbers siblings) []))
  split-node prefix (Parted numbers siblings) h x (inr among) =
      let (n, path, is, near, leads) = siblings-lead prefix numbers 1 siblings (subst (Rises 1) (sym h.1) (ready-rises block prefix)) h.2 x among in
      subst (λ y. is_node (node_named prefix (Parted numbers siblings) y) ≡ true) (sym is) (ap is_node (node-over prefix (Parted numbers siblings) (n ∷ path)) ∙ leads)

-- WHAT HOLDS OF THE TERMINALS by their place in the tree and by its lines
module _ {M : Type 0} (block : List Instr) (Q R : List ℕ → M → Type 0) (root : List ℕ) where
  siblings-within : (prefix ns : List ℕ) (siblings : Siblings M) → length root ≤ length prefix → ((at : List ℕ) (terminal : M) → length root < length at → Among (AtTerminal terminal) (flat_siblings siblings) → Q at terminal → R at terminal) → SiblingsHold block Q prefix ns siblings → SiblingsHold block R prefix ns siblings
  siblings-within prefix [] NoMore deep each h = tt
  siblings-within prefix (n ∷ ns) NoMore deep each h = absurd h
  siblings-within prefix [] (Unsplit terminal siblings) deep each h = absurd h
  siblings-within prefix (n ∷ ns) (Unsplit terminal siblings) deep each h = (
    each (prefix ++ n ∷ []) terminal (omega (arith, deep, length-append prefix (n ∷ []))) (inl refl) h.0,
    siblings-within prefix ns siblings deep (λ at t low among. each at t low (inr among)) h.1,
  )
  siblings-within prefix [] (Split numbers sub siblings) deep each h = absurd h
  siblings-within prefix (n ∷ ns) (Split numbers sub siblings) deep each h = (
    h.0,
    h.1,
    siblings-within (prefix ++ n ∷ []) numbers sub (omega (arith, deep, length-append prefix (n ∷ []))) (λ at t low among. each at t low (inr (among-front (AtTerminal t) (flat_siblings sub) (flat_siblings siblings) among))) h.2,
    siblings-within prefix ns siblings deep (λ at t low among. each at t low (inr (among-rest (AtTerminal t) (flat_siblings sub) (flat_siblings siblings) among))) h.3,
  )

  pub tree-within : (tree : Tree M) → ((at : List ℕ) (terminal : M) → (length root < length at) ⊎ (tree ≡ Alone terminal) → Among (AtTerminal terminal) (flat tree) → Q at terminal → R at terminal) → TreeHolds block Q root tree → TreeHolds block R root tree
  tree-within (Alone terminal) each h = each root terminal (inr refl) (inl refl) h
  tree-within (Parted numbers siblings) each h =
      (h.0, h.1, siblings-within root numbers siblings (omega arith) (λ at t low among. each at t (inl low) (inr among)) h.2)
