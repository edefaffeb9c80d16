-- Trees and their vertices in preorder: from a tree to its vertices and back, and from vertices to trees and back.
use Rattle.std.proofs.Common.{◌≡◌, ℕ, List, [], ◌∷◌, ◌++◌, refl, sym, ap, ◌∙◌, append_assoc, append-nil}
use Rattle.s66_isa.specs.{Instr}
use Rattle.s66_model.specs.{Tree, Alone, Parted, Siblings, NoMore, Unsplit, Split, Vertex, AtTerminal, AtSplit, SiblingsHold, TreeHolds, flat_siblings, flat, first_siblings, later_siblings, forest}
use Rattle.s66_model.specs.{first_tree, read_tree, SiblingsMatch, TreeMatches}

module _ {M : Type 0} where
  -- FROM TREES TO VERTICES AND BACK

  -- the trees, and more after them
  abbrev and_siblings : Siblings M → Siblings M → Siblings M
  and_siblings NoMore more = more
  and_siblings (Unsplit terminal siblings) more = Unsplit terminal (and_siblings siblings more)
  and_siblings (Split numbers sub siblings) more = Split numbers sub (and_siblings siblings more)

  and_siblings-none : (siblings : Siblings M) → and_siblings siblings NoMore ≡ siblings
  and_siblings-none NoMore = refl
  and_siblings-none (Unsplit terminal siblings) = ap (Unsplit terminal) (and_siblings-none siblings)
  and_siblings-none (Split numbers sub siblings) = ap (Split numbers sub) (and_siblings-none siblings)

  first-match : (ns : List ℕ) (siblings more : Siblings M) → SiblingsMatch ns siblings → first_siblings ns (and_siblings siblings more) ≡ siblings
  first-match [] NoMore more h = refl
  first-match [] (Unsplit terminal siblings) more h = absurd h
  first-match [] (Split numbers sub siblings) more h = absurd h
  first-match (n ∷ ns) NoMore more h = absurd h
  first-match (n ∷ ns) (Unsplit terminal siblings) more h = ap (Unsplit terminal) (first-match ns siblings more h)
  first-match (n ∷ ns) (Split numbers sub siblings) more h = ap (Split numbers sub) (first-match ns siblings more h.1)

  later-match : (ns : List ℕ) (siblings more : Siblings M) → SiblingsMatch ns siblings → later_siblings ns (and_siblings siblings more) ≡ more
  later-match [] NoMore more h = refl
  later-match [] (Unsplit terminal siblings) more h = absurd h
  later-match [] (Split numbers sub siblings) more h = absurd h
  later-match (n ∷ ns) NoMore more h = absurd h
  later-match (n ∷ ns) (Unsplit terminal siblings) more h = later-match ns siblings more h
  later-match (n ∷ ns) (Split numbers sub siblings) more h = later-match ns siblings more h.1

  forest-flat_siblings : (ns : List ℕ) (siblings : Siblings M) (vertices : List (Vertex M)) → SiblingsMatch ns siblings → forest (flat_siblings siblings ++ vertices) ≡ and_siblings siblings (forest vertices)
  forest-flat_siblings [] NoMore vertices h = refl
  forest-flat_siblings [] (Unsplit terminal siblings) vertices h = absurd h
  forest-flat_siblings [] (Split numbers sub siblings) vertices h = absurd h
  forest-flat_siblings (n ∷ ns) NoMore vertices h = absurd h
  forest-flat_siblings (n ∷ ns) (Unsplit terminal siblings) vertices h = ap (Unsplit terminal) (forest-flat_siblings ns siblings vertices h)
  forest-flat_siblings (n ∷ ns) (Split numbers sub siblings) vertices h =
      let later : forest (flat_siblings siblings ++ vertices) ≡ and_siblings siblings (forest vertices) = forest-flat_siblings ns siblings vertices h.1 in
      let all : forest ((flat_siblings sub ++ flat_siblings siblings) ++ vertices) ≡ and_siblings sub (and_siblings siblings (forest vertices)) =
      ap forest (append_assoc (flat_siblings sub) (flat_siblings siblings) vertices) ∙ forest-flat_siblings numbers sub (flat_siblings siblings ++ vertices) h.0 ∙ ap (and_siblings sub) later in
      rw all (rw (first-match numbers sub (and_siblings siblings (forest vertices)) h.0, later-match numbers sub (and_siblings siblings (forest vertices)) h.0) refl)

  -- a tree beside no other
  abbrev one_sibling : Tree M → Siblings M
  one_sibling (Alone terminal) = Unsplit terminal NoMore
  one_sibling (Parted numbers siblings) = Split numbers siblings NoMore

  forest-flat : (tree : Tree M) → TreeMatches tree → forest (flat tree) ≡ one_sibling tree
  forest-flat (Alone terminal) h = refl
  forest-flat (Parted numbers siblings) h =
      let all : forest (flat_siblings siblings) ≡ siblings = ap forest (sym (append-nil (flat_siblings siblings))) ∙ forest-flat_siblings numbers siblings [] h ∙ and_siblings-none siblings in
      let first : first_siblings numbers siblings ≡ siblings = ap (first_siblings numbers) (sym (and_siblings-none siblings)) ∙ first-match numbers siblings NoMore h in
      let later : later_siblings numbers siblings ≡ NoMore = ap (later_siblings numbers) (sym (and_siblings-none siblings)) ∙ later-match numbers siblings NoMore h in
      rw all (rw (first, later) refl)

  first-one : (none tree : Tree M) → first_tree none (one_sibling tree) ≡ tree
  first-one none (Alone terminal) = refl
  first-one none (Parted numbers siblings) = refl

  pub read-flat : (other : M) (tree : Tree M) → TreeMatches tree → read_tree other (flat tree) ≡ tree
  read-flat other tree h = ap (first_tree (Alone other)) (forest-flat tree h) ∙ first-one (Alone other) tree

  -- the vertices determine the tree
  pub flat-once : (tree other : Tree M) → TreeMatches tree → TreeMatches other → flat tree ≡ flat other → tree ≡ other
  flat-once tree other h k e =
      let same : one_sibling tree ≡ one_sibling other = sym (forest-flat tree h) ∙ (ap forest e ∙ forest-flat other k) in
      sym (first-one tree tree) ∙ (ap (first_tree tree) same ∙ first-one tree other)

  -- FROM VERTICES TO TREES AND BACK

  flat-cut : (ns : List ℕ) (siblings : Siblings M) → flat_siblings (first_siblings ns siblings) ++ flat_siblings (later_siblings ns siblings) ≡ flat_siblings siblings
  flat-cut [] siblings = refl
  flat-cut (n ∷ ns) NoMore = refl
  flat-cut (n ∷ ns) (Unsplit terminal siblings) = ap (λ x. AtTerminal terminal ∷ x) (flat-cut ns siblings)
  flat-cut (n ∷ ns) (Split numbers sub siblings) =
      ap (λ x. AtSplit numbers ∷ x) (append_assoc (flat_siblings sub) (flat_siblings (first_siblings ns siblings)) (flat_siblings (later_siblings ns siblings)) ∙ ap (λ x. flat_siblings sub ++ x) (flat-cut ns siblings))

  pub flat-forest : (vertices : List (Vertex M)) → flat_siblings (forest vertices) ≡ vertices
  flat-forest [] = refl
  flat-forest (AtTerminal terminal ∷ vertices) = ap (λ x. AtTerminal terminal ∷ x) (flat-forest vertices)
  flat-forest (AtSplit numbers ∷ vertices) = ap (λ x. AtSplit numbers ∷ x) (flat-cut numbers (forest vertices) ∙ flat-forest vertices)

  -- A TREE OVER A PREFIX MATCHES

  module _ (block : List Instr) (Q : List ℕ → M → Type 0) where
    siblings-match : (siblings : Siblings M) (prefix ns : List ℕ) → SiblingsHold block Q prefix ns siblings → SiblingsMatch ns siblings
    siblings-match NoMore prefix [] h = tt
    siblings-match NoMore prefix (n ∷ ns) h = h
    siblings-match (Unsplit terminal siblings) prefix [] h = h
    siblings-match (Unsplit terminal siblings) prefix (n ∷ ns) h = siblings-match siblings prefix ns h.1
    siblings-match (Split numbers sub siblings) prefix [] h = h
    siblings-match (Split numbers sub siblings) prefix (n ∷ ns) h = (siblings-match sub (prefix ++ n ∷ []) numbers h.2, siblings-match siblings prefix ns h.3)

    pub tree-match : (tree : Tree M) (prefix : List ℕ) → TreeHolds block Q prefix tree → TreeMatches tree
    tree-match (Alone terminal) prefix h = tt
    tree-match (Parted numbers siblings) prefix h = siblings-match siblings prefix numbers h.2
