-- Used by contracts of pieces, answers and documents: the tree that a list of vertices in preorder is.
use Rattle.std.specs.Prelude.{ℕ, List, [], ◌∷◌}
use Rattle.s66_model.specs.Trees.{Tree, Alone, Parted, Siblings, NoMore, Unsplit, Split, Vertex, AtTerminal, AtSplit}

-- A list of vertices is read from its end: each split takes the trees that follow it, one for each of its numbers.

-- of trees beside each other, as many as there are numbers
abbrev pub first_siblings : {M : Type 0} → List ℕ → Siblings M → Siblings M
first_siblings [] siblings = NoMore
first_siblings (n ∷ ns) NoMore = NoMore
first_siblings (n ∷ ns) (Unsplit terminal siblings) = Unsplit terminal (first_siblings ns siblings)
first_siblings (n ∷ ns) (Split numbers sub siblings) = Split numbers sub (first_siblings ns siblings)

-- and those that follow them
abbrev pub later_siblings : {M : Type 0} → List ℕ → Siblings M → Siblings M
later_siblings [] siblings = siblings
later_siblings (n ∷ ns) NoMore = NoMore
later_siblings (n ∷ ns) (Unsplit terminal siblings) = later_siblings ns siblings
later_siblings (n ∷ ns) (Split numbers sub siblings) = later_siblings ns siblings

-- the trees beside each other that the vertices are
abbrev pub forest : {M : Type 0} → List (Vertex M) → Siblings M
forest [] = NoMore
forest (AtTerminal terminal ∷ vertices) = Unsplit terminal (forest vertices)
forest (AtSplit numbers ∷ vertices) = Split numbers (first_siblings numbers (forest vertices)) (later_siblings numbers (forest vertices))

-- the first of them, or this one if there is none
abbrev pub first_tree : {M : Type 0} → Tree M → Siblings M → Tree M
first_tree none NoMore = none
first_tree none (Unsplit terminal siblings) = Alone terminal
first_tree none (Split numbers sub siblings) = Parted numbers sub

-- the tree that the vertices are; without vertices it is the other terminal alone
abbrev pub read_tree : {M : Type 0} → M → List (Vertex M) → Tree M
read_tree other vertices = first_tree (Alone other) (forest vertices)

-- TREES THAT THEIR VERTICES TELL: each split has a child for each of its numbers

abbrev pub SiblingsMatch : {M : Type 0} → List ℕ → Siblings M → Type 0
SiblingsMatch [] NoMore = Unit {0}
SiblingsMatch (n ∷ ns) (Unsplit terminal siblings) = SiblingsMatch ns siblings
SiblingsMatch (n ∷ ns) (Split numbers sub siblings) = SiblingsMatch numbers sub × SiblingsMatch ns siblings
SiblingsMatch [] (Unsplit terminal siblings) = ⊥
SiblingsMatch [] (Split numbers sub siblings) = ⊥
SiblingsMatch (n ∷ ns) NoMore = ⊥

abbrev pub TreeMatches : {M : Type 0} → Tree M → Type 0
TreeMatches (Alone terminal) = Unit {0}
TreeMatches (Parted numbers siblings) = SiblingsMatch numbers siblings
