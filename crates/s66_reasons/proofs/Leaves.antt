-- The lines of a tree at their prefixes: what holds of each leaf, how long the prefixes are, and how many lines there are.
use Rattle.std.proofs.Common.{ℕ, ◌≡◌, ◌≤◌, Bool, false, List, [], ◌∷◌, ◌++◌, length, refl, ap, sym, subst, inl, inr, arith, length-append, ◌∙◌}
use Rattle.std.proofs.lemmas.Bool.{or_parts}
use Rattle.s66_isa.specs.{Instr, Among, some_of}
use Rattle.s66_isa.proofs.Lists.{split-among}
use Rattle.s66_model.specs.{Tree, Alone, Parted, Siblings, NoMore, Unsplit, Split, Vertex, AtTerminal, AtSplit, SiblingsHold, TreeHolds, flat, flat_siblings, Ending}
use Rattle.s66_cert.specs.{IsLeafLine, SiblingsFit, TreeFits, siblings_placed, tree_placed}

abbrev Line : Type 0
Line = List ℕ × Vertex Ending

same-ending : (at other : List ℕ) (ending e : Ending) → ◌≡◌ {A = Line} (at, AtTerminal ending) (other, AtTerminal e) → ending ≡ e
same-ending at other ending e is = (let vertex : AtTerminal ending ≡ AtTerminal e = ap (λ (line : Line). line.1) is in cc)

no-split : (at other : List ℕ) (ending : Ending) (numbers : List ℕ) → ◌≡◌ {A = Line} (at, AtTerminal ending) (other, AtSplit numbers) → ⊥
no-split at other ending numbers is = (let vertex : AtTerminal ending ≡ AtSplit numbers = ap (λ (line : Line). line.1) is in absurd cc)

-- WHAT HOLDS OF EACH LEAF

module _ (block : List Instr) (Q : List ℕ → Ending → Type 0) where
  here-holds : (at other : List ℕ) (ending e : Ending) → Q other e → ◌≡◌ {A = Line} (at, AtTerminal ending) (other, AtTerminal e) → Q at ending
  here-holds at other ending e holds is =
      subst (λ ns. Q ns ending) (sym (ap (λ (line : Line). line.0) is)) (subst (Q other) (sym (same-ending at other ending e is)) holds)

  siblings-each : (siblings : Siblings Ending) (prefix ns at : List ℕ) (ending : Ending) → SiblingsHold block Q prefix ns siblings →
      Among (at, AtTerminal ending) (siblings_placed prefix ns siblings) → Q at ending
  siblings-each NoMore prefix [] at ending holds among = absurd among
  siblings-each NoMore prefix (n ∷ ns) at ending holds among = absurd among
  siblings-each (Unsplit e siblings) prefix [] at ending holds among = absurd holds
  siblings-each (Unsplit e siblings) prefix (n ∷ ns) at ending holds (inl is) = here-holds at (prefix ++ n ∷ []) ending e holds.0 is
  siblings-each (Unsplit e siblings) prefix (n ∷ ns) at ending holds (inr past) = siblings-each siblings prefix ns at ending holds.1 past
  siblings-each (Split numbers sub siblings) prefix [] at ending holds among = absurd holds
  siblings-each (Split numbers sub siblings) prefix (n ∷ ns) at ending holds (inl is) = absurd (no-split at (prefix ++ n ∷ []) ending numbers is)
  siblings-each (Split numbers sub siblings) prefix (n ∷ ns) at ending holds (inr past) =
      elim (split-among (at, AtTerminal ending) (siblings_placed (prefix ++ n ∷ []) numbers sub) (siblings_placed prefix ns siblings) past) [
        | inl below ↦ siblings-each sub (prefix ++ n ∷ []) numbers at ending holds.2 below
        | inr later ↦ siblings-each siblings prefix ns at ending holds.3 later
      ]

  pub tree-each : (tree : Tree Ending) (at : List ℕ) (ending : Ending) → TreeHolds block Q [] tree → Among (at, AtTerminal ending) (tree_placed [] tree) → Q at ending
  tree-each (Alone e) at ending holds (inl is) = here-holds at [] ending e holds is
  tree-each (Alone e) at ending holds (inr past) = absurd past
  tree-each (Parted numbers siblings) at ending holds (inl is) = absurd (no-split at [] ending numbers is)
  tree-each (Parted numbers siblings) at ending holds (inr past) = siblings-each siblings [] numbers at ending holds.2 past

  -- HOW LONG A PREFIX IS: no longer than the block, if that holds of those of leaves

  module _ (short : (at : List ℕ) (ending : Ending) → Q at ending → length at ≤ length block) where
    siblings-short : (siblings : Siblings Ending) (prefix ns : List ℕ) (line : Line) → SiblingsHold block Q prefix ns siblings →
        Among line (siblings_placed prefix ns siblings) → length line.0 ≤ length block
    siblings-short NoMore prefix [] line holds among = absurd among
    siblings-short NoMore prefix (n ∷ ns) line holds among = absurd among
    siblings-short (Unsplit e siblings) prefix [] line holds among = absurd holds
    siblings-short (Unsplit e siblings) prefix (n ∷ ns) line holds (inl is) =
        omega (arith, ap (λ (l : Line). length l.0) is, short (prefix ++ n ∷ []) e holds.0)
    siblings-short (Unsplit e siblings) prefix (n ∷ ns) line holds (inr past) = siblings-short siblings prefix ns line holds.1 past
    siblings-short (Split numbers sub siblings) prefix [] line holds among = absurd holds
    siblings-short (Split numbers sub siblings) prefix (n ∷ ns) line holds (inl is) =
        omega (arith, ap (λ (l : Line). length l.0) is, holds.0)
    siblings-short (Split numbers sub siblings) prefix (n ∷ ns) line holds (inr past) =
        elim (split-among line (siblings_placed (prefix ++ n ∷ []) numbers sub) (siblings_placed prefix ns siblings) past) [
          | inl below ↦ siblings-short sub (prefix ++ n ∷ []) numbers line holds.2 below
          | inr later ↦ siblings-short siblings prefix ns line holds.3 later
        ]

    pub tree-short : (tree : Tree Ending) (line : Line) → TreeHolds block Q [] tree → Among line (tree_placed [] tree) → length line.0 ≤ length block
    tree-short (Alone e) line holds (inl is) = omega (arith, ap (λ (l : Line). length l.0) is)
    tree-short (Alone e) line holds (inr past) = absurd past
    tree-short (Parted numbers siblings) line holds (inl is) = omega (arith, ap (λ (l : Line). length l.0) is)
    tree-short (Parted numbers siblings) line holds (inr past) = siblings-short siblings [] numbers line holds.2 past

-- WHAT A LINE OF A DOCUMENT HAS

module _ (limit : ℕ) where
  siblings-fit : (siblings : Siblings Ending) (prefix ns at : List ℕ) (ending : Ending) → SiblingsFit limit ns siblings →
      Among (at, AtTerminal ending) (siblings_placed prefix ns siblings) → IsLeafLine limit ending
  siblings-fit NoMore prefix [] at ending fit among = absurd among
  siblings-fit NoMore prefix (n ∷ ns) at ending fit among = absurd among
  siblings-fit (Unsplit e siblings) prefix [] at ending fit among = absurd fit
  siblings-fit (Unsplit e siblings) prefix (n ∷ ns) at ending fit (inl is) =
      subst (IsLeafLine limit) (sym (same-ending at (prefix ++ n ∷ []) ending e is)) fit.0
  siblings-fit (Unsplit e siblings) prefix (n ∷ ns) at ending fit (inr past) = siblings-fit siblings prefix ns at ending fit.1 past
  siblings-fit (Split numbers sub siblings) prefix [] at ending fit among = absurd fit
  siblings-fit (Split numbers sub siblings) prefix (n ∷ ns) at ending fit (inl is) = absurd (no-split at (prefix ++ n ∷ []) ending numbers is)
  siblings-fit (Split numbers sub siblings) prefix (n ∷ ns) at ending fit (inr past) =
      elim (split-among (at, AtTerminal ending) (siblings_placed (prefix ++ n ∷ []) numbers sub) (siblings_placed prefix ns siblings) past) [
        | inl below ↦ siblings-fit sub (prefix ++ n ∷ []) numbers at ending fit.1 below
        | inr later ↦ siblings-fit siblings prefix ns at ending fit.2 later
      ]

  pub tree-fit : (tree : Tree Ending) (at : List ℕ) (ending : Ending) → TreeFits limit tree → Among (at, AtTerminal ending) (tree_placed [] tree) → IsLeafLine limit ending
  tree-fit (Alone e) at ending fit (inl is) = subst (IsLeafLine limit) (sym (same-ending at [] ending e is)) fit
  tree-fit (Alone e) at ending fit (inr past) = absurd past
  tree-fit (Parted numbers siblings) at ending fit (inl is) = absurd (no-split at [] ending numbers is)
  tree-fit (Parted numbers siblings) at ending fit (inr past) = siblings-fit siblings [] numbers at ending fit.1 past

-- A TEST that no line of a tree passes

module _ (test : Vertex Ending → Bool) where
  some-append : (xs ys : List (Vertex Ending)) → some_of test (xs ++ ys) ≡ false → (some_of test xs ≡ false) × (some_of test ys ≡ false)
  some-append [] ys none = (refl, none)
  some-append (x ∷ xs) ys none =
      let parts = or_parts (test x) (some_of test (xs ++ ys)) none in
      let rest = some-append xs ys parts.1 in
      (rw (parts.0, rest.0) refl, rest.1)

  here-fails : (line : Line) (at : List ℕ) (vertex : Vertex Ending) → test vertex ≡ false → ◌≡◌ {A = Line} line (at, vertex) → test line.1 ≡ false
  here-fails line at vertex fails is = ap (λ (l : Line). test l.1) is ∙ fails

  siblings-none : (siblings : Siblings Ending) (prefix ns : List ℕ) (line : Line) → some_of test (flat_siblings siblings) ≡ false →
      Among line (siblings_placed prefix ns siblings) → test line.1 ≡ false
  siblings-none NoMore prefix [] line none among = absurd among
  siblings-none NoMore prefix (n ∷ ns) line none among = absurd among
  siblings-none (Unsplit e siblings) prefix [] line none among = absurd among
  siblings-none (Unsplit e siblings) prefix (n ∷ ns) line none (inl is) =
      here-fails line (prefix ++ n ∷ []) (AtTerminal e) (or_parts (test (AtTerminal e)) (some_of test (flat_siblings siblings)) none).0 is
  siblings-none (Unsplit e siblings) prefix (n ∷ ns) line none (inr past) =
      siblings-none siblings prefix ns line (or_parts (test (AtTerminal e)) (some_of test (flat_siblings siblings)) none).1 past
  siblings-none (Split numbers sub siblings) prefix [] line none among = absurd among
  siblings-none (Split numbers sub siblings) prefix (n ∷ ns) line none (inl is) =
      here-fails line (prefix ++ n ∷ []) (AtSplit numbers) (or_parts (test (AtSplit numbers)) (some_of test (flat_siblings sub ++ flat_siblings siblings)) none).0 is
  siblings-none (Split numbers sub siblings) prefix (n ∷ ns) line none (inr past) =
      let rest = some-append (flat_siblings sub) (flat_siblings siblings) (or_parts (test (AtSplit numbers)) (some_of test (flat_siblings sub ++ flat_siblings siblings)) none).1 in
      elim (split-among line (siblings_placed (prefix ++ n ∷ []) numbers sub) (siblings_placed prefix ns siblings) past) [
        | inl below ↦ siblings-none sub (prefix ++ n ∷ []) numbers line rest.0 below
        | inr later ↦ siblings-none siblings prefix ns line rest.1 later
      ]

  pub tree-none : (tree : Tree Ending) (line : Line) → some_of test (flat tree) ≡ false → Among line (tree_placed [] tree) → test line.1 ≡ false
  tree-none (Alone e) line none (inl is) = here-fails line [] (AtTerminal e) (or_parts (test (AtTerminal e)) false none).0 is
  tree-none (Alone e) line none (inr past) = absurd past
  tree-none (Parted numbers siblings) line none (inl is) =
      here-fails line [] (AtSplit numbers) (or_parts (test (AtSplit numbers)) (some_of test (flat_siblings siblings)) none).0 is
  tree-none (Parted numbers siblings) line none (inr past) =
      siblings-none siblings [] numbers line (or_parts (test (AtSplit numbers)) (some_of test (flat_siblings siblings)) none).1 past

-- HOW MANY LINES

siblings-count : (siblings : Siblings Ending) (prefix ns : List ℕ) → length (siblings_placed prefix ns siblings) ≤ length (flat_siblings siblings)
siblings-count NoMore prefix [] = omega arith
siblings-count NoMore prefix (n ∷ ns) = omega arith
siblings-count (Unsplit e siblings) prefix [] = omega arith
siblings-count (Unsplit e siblings) prefix (n ∷ ns) = omega (arith, siblings-count siblings prefix ns)
siblings-count (Split numbers sub siblings) prefix [] = omega arith
siblings-count (Split numbers sub siblings) prefix (n ∷ ns) =
    omega (
      arith,
      siblings-count sub (prefix ++ n ∷ []) numbers,
      siblings-count siblings prefix ns,
      length-append (siblings_placed (prefix ++ n ∷ []) numbers sub) (siblings_placed prefix ns siblings),
      length-append (flat_siblings sub) (flat_siblings siblings),
    )

pub tree-count : (tree : Tree Ending) → length (tree_placed [] tree) ≤ length (flat tree)
tree-count (Alone e) = omega arith
tree-count (Parted numbers siblings) = omega (arith, siblings-count siblings [] numbers)
