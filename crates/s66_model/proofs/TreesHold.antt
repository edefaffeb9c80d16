-- What holds at the terminals of a tree, and of a tree with other terminals.
use Rattle.std.proofs.Common.{ℕ, ◌+◌, ◌≡◌, List, [], ◌∷◌, ◌++◌, refl, ap, arith}
use Rattle.s66_isa.specs.{Instr}
use Rattle.s66_model.specs.{Tree, Alone, Parted, Siblings, NoMore, Unsplit, Split, SiblingsHold, TreeHolds, sibling_splits, splits, siblings_split_at, split_at, sibling_values, tree_values}
use Rattle.s66_model.specs.{SiblingsMatch, TreeMatches, siblings_seen, tree_seen}

-- what is implied at each terminal holds of the tree
module _ {M : Type 0} (block : List Instr) (Q R : List ℕ → M → Type 0) (each : (at : List ℕ) (terminal : M) → Q at terminal → R at terminal) where
  siblings-weaken : (siblings : Siblings M) (prefix ns : List ℕ) → SiblingsHold block Q prefix ns siblings → SiblingsHold block R prefix ns siblings
  siblings-weaken NoMore prefix [] h = tt
  siblings-weaken NoMore prefix (n ∷ ns) h = absurd h
  siblings-weaken (Unsplit terminal siblings) prefix [] h = absurd h
  siblings-weaken (Unsplit terminal siblings) prefix (n ∷ ns) h = (each (prefix ++ n ∷ []) terminal h.0, siblings-weaken siblings prefix ns h.1)
  siblings-weaken (Split numbers sub siblings) prefix [] h = absurd h
  siblings-weaken (Split numbers sub siblings) prefix (n ∷ ns) h =
      (h.0, h.1, siblings-weaken sub (prefix ++ n ∷ []) numbers h.2, siblings-weaken siblings prefix ns h.3)

  pub tree-weaken : (tree : Tree M) (prefix : List ℕ) → TreeHolds block Q prefix tree → TreeHolds block R prefix tree
  tree-weaken (Alone terminal) prefix h = each prefix terminal h
  tree-weaken (Parted numbers siblings) prefix h = (h.0, h.1, siblings-weaken siblings prefix numbers h.2)

-- what is the same at each terminal of which this holds is the same of the tree
module _ {M V : Type 0} (block : List Instr) (Q : List ℕ → M → Type 0) (f g : List ℕ → M → List V) (each : (at : List ℕ) (terminal : M) → Q at terminal → f at terminal ≡ g at terminal) where
  siblings-alike : (siblings : Siblings M) (prefix ns : List ℕ) → SiblingsHold block Q prefix ns siblings → sibling_values f prefix ns siblings ≡ sibling_values g prefix ns siblings
  siblings-alike siblings prefix [] h = refl
  siblings-alike NoMore prefix (n ∷ ns) h = refl
  siblings-alike (Unsplit terminal siblings) prefix (n ∷ ns) h = rw (each (prefix ++ n ∷ []) terminal h.0, siblings-alike siblings prefix ns h.1) refl
  siblings-alike (Split numbers sub siblings) prefix (n ∷ ns) h =
      rw (siblings-alike sub (prefix ++ n ∷ []) numbers h.2, siblings-alike siblings prefix ns h.3) refl

  pub values-alike : (tree : Tree M) (prefix : List ℕ) → TreeHolds block Q prefix tree → tree_values f prefix tree ≡ tree_values g prefix tree
  values-alike (Alone terminal) prefix h = each prefix terminal h
  values-alike (Parted numbers siblings) prefix h = siblings-alike siblings prefix numbers h.2

-- OTHER TERMINALS

module _ {M N : Type 0} (f : List ℕ → M → N) where
  module _ (block : List Instr) (Q : List ℕ → N → Type 0) where
    seen-holds_siblings : (siblings : Siblings M) (prefix ns : List ℕ) → SiblingsHold block (λ at terminal. Q at (f at terminal)) prefix ns siblings → SiblingsHold block Q prefix ns (siblings_seen f prefix ns siblings)
    seen-holds_siblings NoMore prefix [] h = tt
    seen-holds_siblings NoMore prefix (n ∷ ns) h = absurd h
    seen-holds_siblings (Unsplit terminal siblings) prefix [] h = absurd h
    seen-holds_siblings (Unsplit terminal siblings) prefix (n ∷ ns) h = (h.0, seen-holds_siblings siblings prefix ns h.1)
    seen-holds_siblings (Split numbers sub siblings) prefix [] h = absurd h
    seen-holds_siblings (Split numbers sub siblings) prefix (n ∷ ns) h = (h.0, h.1, seen-holds_siblings sub (prefix ++ n ∷ []) numbers h.2, seen-holds_siblings siblings prefix ns h.3)

    -- what holds of the other terminals is seen of the tree that has them
    pub seen-holds : (tree : Tree M) (prefix : List ℕ) → TreeHolds block (λ at terminal. Q at (f at terminal)) prefix tree → TreeHolds block Q prefix (tree_seen f prefix tree)
    seen-holds (Alone terminal) prefix h = h
    seen-holds (Parted numbers siblings) prefix h = (h.0, h.1, seen-holds_siblings siblings prefix numbers h.2)

    holds-seen_siblings : (siblings : Siblings M) (prefix ns : List ℕ) → SiblingsMatch ns siblings → SiblingsHold block Q prefix ns (siblings_seen f prefix ns siblings) → SiblingsHold block (λ at terminal. Q at (f at terminal)) prefix ns siblings
    holds-seen_siblings NoMore prefix [] is h = tt
    holds-seen_siblings NoMore prefix (n ∷ ns) is h = absurd is
    holds-seen_siblings (Unsplit terminal siblings) prefix [] is h = absurd is
    holds-seen_siblings (Unsplit terminal siblings) prefix (n ∷ ns) is h = (h.0, holds-seen_siblings siblings prefix ns is h.1)
    holds-seen_siblings (Split numbers sub siblings) prefix [] is h = absurd is
    holds-seen_siblings (Split numbers sub siblings) prefix (n ∷ ns) is h =
        (h.0, h.1, holds-seen_siblings sub (prefix ++ n ∷ []) numbers is.0 h.2, holds-seen_siblings siblings prefix ns is.1 h.3)

    -- and the other way round
    pub holds-seen : (tree : Tree M) (prefix : List ℕ) → TreeMatches tree → TreeHolds block Q prefix (tree_seen f prefix tree) → TreeHolds block (λ at terminal. Q at (f at terminal)) prefix tree
    holds-seen (Alone terminal) prefix is h = h
    holds-seen (Parted numbers siblings) prefix is h = (h.0, h.1, holds-seen_siblings siblings prefix numbers is h.2)

  seen-match_siblings : (siblings : Siblings M) (prefix ns : List ℕ) → SiblingsMatch ns siblings → SiblingsMatch ns (siblings_seen f prefix ns siblings)
  seen-match_siblings NoMore prefix [] is = tt
  seen-match_siblings NoMore prefix (n ∷ ns) is = absurd is
  seen-match_siblings (Unsplit terminal siblings) prefix [] is = absurd is
  seen-match_siblings (Unsplit terminal siblings) prefix (n ∷ ns) is = seen-match_siblings siblings prefix ns is
  seen-match_siblings (Split numbers sub siblings) prefix [] is = absurd is
  seen-match_siblings (Split numbers sub siblings) prefix (n ∷ ns) is = (seen-match_siblings sub (prefix ++ n ∷ []) numbers is.0, seen-match_siblings siblings prefix ns is.1)

  pub seen-match : (tree : Tree M) (prefix : List ℕ) → TreeMatches tree → TreeMatches (tree_seen f prefix tree)
  seen-match (Alone terminal) prefix is = tt
  seen-match (Parted numbers siblings) prefix is = seen-match_siblings siblings prefix numbers is

  seen-splits_siblings : (siblings : Siblings M) (prefix ns : List ℕ) → SiblingsMatch ns siblings → sibling_splits (siblings_seen f prefix ns siblings) ≡ sibling_splits siblings
  seen-splits_siblings NoMore prefix [] is = refl
  seen-splits_siblings NoMore prefix (n ∷ ns) is = refl
  seen-splits_siblings (Unsplit terminal siblings) prefix [] is = absurd is
  seen-splits_siblings (Unsplit terminal siblings) prefix (n ∷ ns) is = seen-splits_siblings siblings prefix ns is
  seen-splits_siblings (Split numbers sub siblings) prefix [] is = absurd is
  seen-splits_siblings (Split numbers sub siblings) prefix (n ∷ ns) is =
      omega (arith, seen-splits_siblings sub (prefix ++ n ∷ []) numbers is.0, seen-splits_siblings siblings prefix ns is.1)

  -- it has as many splits
  pub seen-splits : (tree : Tree M) (prefix : List ℕ) → TreeMatches tree → splits (tree_seen f prefix tree) ≡ splits tree
  seen-splits (Alone terminal) prefix is = refl
  seen-splits (Parted numbers siblings) prefix is = ap (λ k. 1 + k) (seen-splits_siblings siblings prefix numbers is)

  seen-split_at_siblings : (siblings : Siblings M) (prefix ns : List ℕ) → siblings_split_at prefix ns (siblings_seen f prefix ns siblings) ≡ siblings_split_at prefix ns siblings
  seen-split_at_siblings siblings prefix [] = refl
  seen-split_at_siblings NoMore prefix (n ∷ ns) = refl
  seen-split_at_siblings (Unsplit terminal siblings) prefix (n ∷ ns) = seen-split_at_siblings siblings prefix ns
  seen-split_at_siblings (Split numbers sub siblings) prefix (n ∷ ns) =
      rw (seen-split_at_siblings sub (prefix ++ n ∷ []) numbers, seen-split_at_siblings siblings prefix ns) refl

  -- at the same prefixes
  pub seen-split_at : (tree : Tree M) (prefix : List ℕ) → split_at prefix (tree_seen f prefix tree) ≡ split_at prefix tree
  seen-split_at (Alone terminal) prefix = refl
  seen-split_at (Parted numbers siblings) prefix = ap (λ l. prefix ∷ l) (seen-split_at_siblings siblings prefix numbers)

  module _ {V : Type 0} (g : List ℕ → N → List V) where
    seen-values_siblings : (siblings : Siblings M) (prefix ns : List ℕ) → sibling_values g prefix ns (siblings_seen f prefix ns siblings) ≡ sibling_values (λ at terminal. g at (f at terminal)) prefix ns siblings
    seen-values_siblings siblings prefix [] = refl
    seen-values_siblings NoMore prefix (n ∷ ns) = refl
    seen-values_siblings (Unsplit terminal siblings) prefix (n ∷ ns) = ap (λ l. g (prefix ++ n ∷ []) (f (prefix ++ n ∷ []) terminal) ++ l) (seen-values_siblings siblings prefix ns)
    seen-values_siblings (Split numbers sub siblings) prefix (n ∷ ns) =
        rw (seen-values_siblings sub (prefix ++ n ∷ []) numbers, seen-values_siblings siblings prefix ns) refl

    -- and its values are those of the other terminals
    pub seen-values : (tree : Tree M) (prefix : List ℕ) → tree_values g prefix (tree_seen f prefix tree) ≡ tree_values (λ at terminal. g at (f at terminal)) prefix tree
    seen-values (Alone terminal) prefix = refl
    seen-values (Parted numbers siblings) prefix = seen-values_siblings siblings prefix numbers
