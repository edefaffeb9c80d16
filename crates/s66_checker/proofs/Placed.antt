-- The lines of a tree in preorder, each with its prefix.
use Rattle.std.proofs.Common.{ℕ, ◌+◌, ◌*◌, ◌≤◌, ◌≡◌, List, [], ◌∷◌, ◌++◌, length, refl, sym, ap, ◌∙◌, arith, append_assoc, append-nil, length-append}
use Rattle.s66_model.specs.{children, Tree, Alone, Parted, Siblings, NoMore, Unsplit, Split, Vertex, AtTerminal, AtSplit, sibling_splits, splits, flat_siblings, flat, Ending}
use Rattle.s66_cert.specs.{SiblingsFit, TreeFits, siblings_placed, tree_placed}

-- a split puts its children in front of the prefixes that are still to come
abbrev pub placed : List (Vertex Ending) → List (List ℕ) → List (List ℕ × Vertex Ending)
placed [] prefixes = []
placed (AtTerminal ending ∷ vertices) [] = []
placed (AtTerminal ending ∷ vertices) (prefix ∷ prefixes) = (prefix, AtTerminal ending) ∷ placed vertices prefixes
placed (AtSplit numbers ∷ vertices) [] = []
placed (AtSplit numbers ∷ vertices) (prefix ∷ prefixes) = (prefix, AtSplit numbers) ∷ placed vertices (children prefix numbers ++ prefixes)

pub none-placed : (vertices : List (Vertex Ending)) → placed vertices [] ≡ []
none-placed [] = refl
none-placed (AtTerminal ending ∷ vertices) = refl
none-placed (AtSplit numbers ∷ vertices) = refl

module _ (limit : ℕ) where
  siblings-placed : (siblings : Siblings Ending) (prefix ns : List ℕ) (vertices : List (Vertex Ending)) (prefixes : List (List ℕ)) → SiblingsFit limit ns siblings →
      placed (flat_siblings siblings ++ vertices) (children prefix ns ++ prefixes) ≡ siblings_placed prefix ns siblings ++ placed vertices prefixes
  siblings-placed NoMore prefix [] vertices prefixes fit = refl
  siblings-placed NoMore prefix (n ∷ ns) vertices prefixes fit = absurd fit
  siblings-placed (Unsplit ending siblings) prefix [] vertices prefixes fit = absurd fit
  siblings-placed (Unsplit ending siblings) prefix (n ∷ ns) vertices prefixes fit = ap (λ ls. (prefix ++ n ∷ [], AtTerminal ending) ∷ ls) (siblings-placed siblings prefix ns vertices prefixes fit.1)
  siblings-placed (Split numbers sub siblings) prefix [] vertices prefixes fit = absurd fit
  siblings-placed (Split numbers sub siblings) prefix (n ∷ ns) vertices prefixes fit =
      let child : List ℕ = prefix ++ n ∷ [] in
      ap (λ ls. (child, AtSplit numbers) ∷ ls)
      (ap (λ ks. placed ks (children child numbers ++ (children prefix ns ++ prefixes))) (append_assoc (flat_siblings sub) (flat_siblings siblings) vertices)
      ∙ siblings-placed sub child numbers (flat_siblings siblings ++ vertices) (children prefix ns ++ prefixes) fit.1
      ∙ ap (λ ls. siblings_placed child numbers sub ++ ls) (siblings-placed siblings prefix ns vertices prefixes fit.2)
      ∙ sym (append_assoc (siblings_placed child numbers sub) (siblings_placed prefix ns siblings) (placed vertices prefixes)))

  pub tree-placed : (tree : Tree Ending) → TreeFits limit tree → placed (flat tree) ([] ∷ []) ≡ tree_placed [] tree
  tree-placed (Alone ending) fit = refl
  tree-placed (Parted numbers siblings) fit =
      ap (λ ls. ([], AtSplit numbers) ∷ ls)
      (ap (λ ks. placed ks (children [] numbers ++ [])) (sym (append-nil (flat_siblings siblings)))
      ∙ siblings-placed siblings [] numbers [] [] fit.1
      ∙ append-nil (siblings_placed [] numbers siblings))

  -- HOW MANY

  few-siblings : (siblings : Siblings Ending) (ns : List ℕ) → SiblingsFit limit ns siblings → length (flat_siblings siblings) ≤ length ns + limit * sibling_splits siblings
  few-siblings NoMore [] fit = omega arith
  few-siblings NoMore (n ∷ ns) fit = absurd fit
  few-siblings (Unsplit ending siblings) [] fit = absurd fit
  few-siblings (Unsplit ending siblings) (n ∷ ns) fit = omega (arith, few-siblings siblings ns fit.1)
  few-siblings (Split numbers sub siblings) [] fit = absurd fit
  few-siblings (Split numbers sub siblings) (n ∷ ns) fit =
      omega (arith, few-siblings sub numbers fit.1, few-siblings siblings ns fit.2, fit.0.1, length-append (flat_siblings sub) (flat_siblings siblings))

  -- no more lines than the children of all splits, and one
  pub few-lines : (tree : Tree Ending) → TreeFits limit tree → length (flat tree) ≤ 1 + limit * splits tree
  few-lines (Alone ending) fit = omega arith
  few-lines (Parted numbers siblings) fit = omega (arith, few-siblings siblings numbers fit.1, fit.0.1)
