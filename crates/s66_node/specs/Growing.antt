-- Used by contracts within the crate alone: trees while they are made in preorder: what still has to come, and what the whole will then be.
use Rattle.std.specs.Prelude.{ℕ, ◌≡◌, List, [], ◌∷◌, ◌++◌}
use Rattle.s66_isa.specs.{Instr}
use Rattle.s66_model.specs.{ready, Tree, Alone, Parted, Siblings, NoMore, Unsplit, Split, Vertex, flat_siblings, flat, sibling_values, tree_values, siblings_split_at, split_at}
use Rattle.s66_node.specs.Walked.{front}

-- Each split has exactly the ready numbers, and P holds of its prefix; Q holds at each prefix that isn't split, of its terminal.
abbrev pub SiblingsGrow : {M : Type 0} → List Instr → (List ℕ → Type 0) → (List ℕ → M → Type 0) → List ℕ → List ℕ → Siblings M → Type 0
SiblingsGrow block P Q prefix [] NoMore = Unit {0}
SiblingsGrow block P Q prefix (n ∷ ns) (Unsplit terminal siblings) = Q (prefix ++ n ∷ []) terminal × SiblingsGrow block P Q prefix ns siblings
SiblingsGrow block P Q prefix (n ∷ ns) (Split numbers sub siblings) =
    P (prefix ++ n ∷ []) × (numbers ≡ ready block (prefix ++ n ∷ [])) × SiblingsGrow block P Q (prefix ++ n ∷ []) numbers sub × SiblingsGrow block P Q prefix ns siblings
SiblingsGrow block P Q prefix [] (Unsplit terminal siblings) = ⊥
SiblingsGrow block P Q prefix [] (Split numbers sub siblings) = ⊥
SiblingsGrow block P Q prefix (n ∷ ns) NoMore = ⊥

abbrev pub TreeGrows : {M : Type 0} → List Instr → (List ℕ → Type 0) → (List ℕ → M → Type 0) → List ℕ → Tree M → Type 0
TreeGrows block P Q prefix (Alone terminal) = Q prefix terminal
TreeGrows block P Q prefix (Parted numbers siblings) =
    P prefix × (numbers ≡ ready block prefix) × SiblingsGrow block P Q prefix numbers siblings

-- THE PREFIXES of a tree in preorder

abbrev pub sibling_prefixes : {M : Type 0} → List ℕ → List ℕ → Siblings M → List (List ℕ)
sibling_prefixes prefix [] siblings = []
sibling_prefixes prefix (n ∷ ns) NoMore = []
sibling_prefixes prefix (n ∷ ns) (Unsplit terminal siblings) = (prefix ++ n ∷ []) ∷ sibling_prefixes prefix ns siblings
sibling_prefixes prefix (n ∷ ns) (Split numbers sub siblings) =
    (prefix ++ n ∷ []) ∷ (sibling_prefixes (prefix ++ n ∷ []) numbers sub ++ sibling_prefixes prefix ns siblings)

abbrev pub tree_prefixes : {M : Type 0} → List ℕ → Tree M → List (List ℕ)
tree_prefixes prefix (Alone terminal) = prefix ∷ []
tree_prefixes prefix (Parted numbers siblings) = prefix ∷ sibling_prefixes prefix numbers siblings

-- A walk in preorder is at a prefix. Of it and of each prefix above it, nearest first, some children are still to come: these
-- numbers. The rests are those children.

abbrev pub RestsGrow : {M : Type 0} → List Instr → (List ℕ → Type 0) → (List ℕ → M → Type 0) → List ℕ → List (List ℕ) → List (Siblings M) → Type 0
RestsGrow block P Q at [] [] = Unit {0}
RestsGrow block P Q at (ns ∷ above) (siblings ∷ rests) = SiblingsGrow block P Q at ns siblings × RestsGrow block P Q (front at) above rests
RestsGrow block P Q at [] (siblings ∷ rests) = ⊥
RestsGrow block P Q at (ns ∷ above) [] = ⊥

abbrev pub flat_rests : {M : Type 0} → List (Siblings M) → List (Vertex M)
flat_rests [] = []
flat_rests (siblings ∷ rests) = flat_siblings siblings ++ flat_rests rests

abbrev pub rest_prefixes : {M : Type 0} → List ℕ → List (List ℕ) → List (Siblings M) → List (List ℕ)
rest_prefixes at [] rests = []
rest_prefixes at (ns ∷ above) [] = []
rest_prefixes at (ns ∷ above) (siblings ∷ rests) = sibling_prefixes at ns siblings ++ rest_prefixes (front at) above rests

abbrev pub rest_values : {M V : Type 0} → (List ℕ → M → List V) → List ℕ → List (List ℕ) → List (Siblings M) → List V
rest_values f at [] rests = []
rest_values f at (ns ∷ above) [] = []
rest_values f at (ns ∷ above) (siblings ∷ rests) = sibling_values f at ns siblings ++ rest_values f (front at) above rests

abbrev pub rests_split_at : {M : Type 0} → List ℕ → List (List ℕ) → List (Siblings M) → List (List ℕ)
rests_split_at at [] rests = []
rests_split_at at (ns ∷ above) [] = []
rests_split_at at (ns ∷ above) (siblings ∷ rests) = siblings_split_at at ns siblings ++ rests_split_at (front at) above rests

-- of a tree so far: its lines, their prefixes, the values at those that aren't split, and those that are
pub record Part (M V : Type 0) : Type 0 where
  pub vertices : List (Vertex M)
  pub prefixes : List (List ℕ)
  pub found : List V
  pub cuts : List (List ℕ)

-- whatever the rests will be: there is one tree over the root with the lines so far and then those of the rests, and so are its prefixes, its values and the prefixes that it splits
abbrev pub Grows : {M V : Type 0} → List Instr → (List ℕ → Type 0) → (List ℕ → M → Type 0) → (List ℕ → M → List V) → List ℕ → List ℕ → List (List ℕ) → Part M V → Type 0
Grows {M} block P Q f root at frames part =
    (rests : List (Siblings M)) → RestsGrow block P Q at frames rests →
    (tree : Tree M) × TreeGrows block P Q root tree
    × (flat tree ≡ part.vertices ++ flat_rests rests)
    × (tree_values f root tree ≡ part.found ++ rest_values f at frames rests)
    × (split_at root tree ≡ part.cuts ++ rests_split_at at frames rests)
    × (tree_prefixes root tree ≡ part.prefixes ++ rest_prefixes at frames rests)
