-- Lines are those of one whole tree exactly if they leave no tree to come.
use Rattle.std.proofs.Common.{ℕ, zero, suc, ◌+◌, ◌≡◌, ◌≤◌, List, [], ◌∷◌, ◌++◌, length, arith, refl, sym, ap, subst, append_assoc, ◌↔◌, IsTrue, false, append-nil}
use Rattle.s66_isa.specs.{BLOCK_LIMIT}
use Rattle.s66_model.specs.{Ending, Tree, Alone, Parted, Siblings, NoMore, Unsplit, Split, Vertex, AtTerminal, AtSplit, flat, flat_siblings, splits as count_of}
use Rattle.s66_cert.specs.{SiblingsFit, TreeFits, tree_of_lines, Leave, split_count, IsVertex, sibling_count}
use Rattle.s66_cert.proofs.Sound.{whole-tree}

-- these are the lines of one tree that a document may have, with at most this many splits
abbrev pub AreOfOneTree : List (Vertex Ending) → ℕ → Type 0
AreOfOneTree all most = (flat (tree_of_lines all) ≡ all) × TreeFits BLOCK_LIMIT (tree_of_lines all) × (count_of (tree_of_lines all) ≤ most)

-- THE LINES OF A TREE leave none to come

siblings-leave : (m n : ℕ) (ns : List ℕ) (siblings : Siblings Ending) (rest : List (Vertex Ending)) → SiblingsFit BLOCK_LIMIT ns siblings → m ≡ length ns + n → Leave n rest 0 →
    Leave m (flat_siblings siblings ++ rest) 0
siblings-leave m n [] NoMore rest fits e h = let same : n ≡ m = omega arith in subst (λ (k : ℕ). Leave k rest 0) same h
siblings-leave m n [] (Unsplit leaf siblings) rest fits e h = absurd fits
siblings-leave m n [] (Split numbers sub siblings) rest fits e h = absurd fits
siblings-leave m n (k ∷ ns) NoMore rest fits e h = absurd fits
siblings-leave zero n (k ∷ ns) (Unsplit leaf siblings) rest fits e h = absurd (omega arith)
siblings-leave zero n (k ∷ ns) (Split numbers sub siblings) rest fits e h = absurd (omega arith)
siblings-leave (suc m) n (k ∷ ns) (Unsplit leaf siblings) rest fits e h = (fits.0, siblings-leave m n ns siblings rest fits.1 (omega arith) h)
siblings-leave (suc m) n (k ∷ ns) (Split numbers sub siblings) rest fits e h =
    let later : Leave m (flat_siblings siblings ++ rest) 0 = siblings-leave m n ns siblings rest fits.2 (omega arith) h in
    let all : Leave (length numbers + m) (flat_siblings sub ++ (flat_siblings siblings ++ rest)) 0 =
    siblings-leave (length numbers + m) m numbers sub (flat_siblings siblings ++ rest) fits.1 refl later in
    (fits.0, subst (λ (vs : List (Vertex Ending)). Leave (length numbers + m) vs 0) (sym (append_assoc (flat_siblings sub) (flat_siblings siblings) rest)) all)

tree-leaves : (tree : Tree Ending) → TreeFits BLOCK_LIMIT tree → Leave 1 (flat tree) 0
tree-leaves (Alone leaf) fits = (fits, refl)
tree-leaves (Parted numbers siblings) fits =
    let all : Leave (length numbers + 0) (flat_siblings siblings ++ []) 0 = siblings-leave (length numbers + 0) 0 numbers siblings [] fits.1 refl refl in
    (fits.0, subst (λ (vs : List (Vertex Ending)). Leave (length numbers + 0) vs 0) (append-nil (flat_siblings siblings)) all)

whole-leaves : (all : List (Vertex Ending)) (most : ℕ) → AreOfOneTree all most → Leave 1 all 0
whole-leaves all most h = subst (λ (vs : List (Vertex Ending)). Leave 1 vs 0) h.0 (tree-leaves (tree_of_lines all) h.1)

-- LINES THAT ARE LEFT

-- what is so of all lines if these are left: this many trees are to come, and so many lines split
pub record AreLeft (all rest : List (Vertex Ending)) (left splits : ℕ) : Type 0 where
  pub leave : Leave 1 all 0 ↔ Leave left rest 0
  pub count : split_count all ≡ splits + split_count rest

pub at-last : (all rest : List (Vertex Ending)) (left splits most : ℕ) → AreLeft all rest left splits → rest ≡ [] → splits ≤ most → left ≡ 0 ↔ AreOfOneTree all most
at-last all rest left splits most h none few =
    let last : AreLeft all [] left splits = subst (λ (vs : List (Vertex Ending)). AreLeft all vs left splits) none h in (
      λ over.
          let tree = whole-tree all (last.leave.1 over) in
          (tree.0, tree.1, omega (arith, tree.2, last.count, few)),
      λ whole. last.leave.0 (whole-leaves all most whole),
    )

-- a line comes after the last tree, or no tree may have it
pub not-next : (all rest more : List (Vertex Ending)) (vertex : Vertex Ending) (left splits most : ℕ) → AreLeft all rest left splits → rest ≡ vertex ∷ more → (1 ≤ left → ¬ IsVertex BLOCK_LIMIT vertex) → ¬ AreOfOneTree all most
not-next all rest more vertex left splits most h next bad whole =
    none-left left vertex bad (subst (λ (vs : List (Vertex Ending)). Leave left vs 0) next (h.leave.0 (whole-leaves all most whole)))
  where
    none-left : (left : ℕ) (vertex : Vertex Ending) → (1 ≤ left → ¬ IsVertex BLOCK_LIMIT vertex) → ¬ Leave left (vertex ∷ more) 0
    none-left zero (AtTerminal leaf) bad leave = leave
    none-left zero (AtSplit numbers) bad leave = leave
    none-left (suc left) (AtTerminal leaf) bad leave = bad (omega arith) leave.0
    none-left (suc left) (AtSplit numbers) bad leave = bad (omega arith) leave.0

-- a split comes, and there are as many as there may be
pub too-many : (all rest more : List (Vertex Ending)) (vertex : Vertex Ending) (left splits most : ℕ) → AreLeft all rest left splits → rest ≡ vertex ∷ more → 1 ≤ sibling_count vertex → most ≤ splits → ¬ AreOfOneTree all most
too-many all rest more vertex left splits most h next split full whole =
    omega (arith, (whole-tree all (whole-leaves all most whole)).2, h.count, ap split_count next, counted vertex split, whole.2)
  where
    counted : (vertex : Vertex Ending) → 1 ≤ sibling_count vertex → 1 ≤ split_count (vertex ∷ more)
    counted (AtTerminal leaf) split = absurd (omega (arith, split))
    counted (AtSplit numbers) split = omega arith

pub refused : (all : List (Vertex Ending)) (most : ℕ) → ¬ AreOfOneTree all most → IsTrue false ↔ AreOfOneTree all most
refused all most bad = (λ e. absurd (cc), λ whole. absurd (bad whole))
