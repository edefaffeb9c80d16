-- A tree that is grown by a test is split exactly where the test says so, and has the terminal that belongs to every other prefix.
use Rattle.std.proofs.Common.{ℕ, zero, suc, ◌+◌, ◌≤◌, ◌<◌, ◌≡◌, Bool, true, false, List, [], ◌∷◌, ◌++◌, length, refl, arith, inl, inr, length-append}
use Rattle.std.proofs.lemmas.Bool.{cases_Bool}
use Rattle.s66_model.specs.{Problem, ready, Siblings, NoMore, Unsplit, Split, Tree, Alone, Parted, each_sibling, grown_sibling, grown_tree}

abbrev pub SiblingsFit : {M : Type 0} → Problem → (List ℕ → Bool) → (List ℕ → M) → List ℕ → List ℕ → Siblings M → Type 0
SiblingsFit b is_split terminal_of prefix [] NoMore = Unit {0}
SiblingsFit b is_split terminal_of prefix (n ∷ ns) (Unsplit terminal siblings) =
    (is_split (prefix ++ n ∷ []) ≡ false) × (terminal ≡ terminal_of (prefix ++ n ∷ [])) × SiblingsFit b is_split terminal_of prefix ns siblings
SiblingsFit b is_split terminal_of prefix (n ∷ ns) (Split numbers sub siblings) =
    (is_split (prefix ++ n ∷ []) ≡ true) × (numbers ≡ ready b.block (prefix ++ n ∷ [])) × SiblingsFit b is_split terminal_of (prefix ++ n ∷ []) numbers sub × SiblingsFit b is_split terminal_of prefix ns siblings
SiblingsFit b is_split terminal_of prefix [] (Unsplit terminal siblings) = ⊥
SiblingsFit b is_split terminal_of prefix [] (Split numbers sub siblings) = ⊥
SiblingsFit b is_split terminal_of prefix (n ∷ ns) NoMore = ⊥

abbrev pub TreeFits : {M : Type 0} → Problem → (List ℕ → Bool) → (List ℕ → M) → Tree M → Type 0
TreeFits b is_split terminal_of (Alone terminal) = (is_split [] ≡ false) × (terminal ≡ terminal_of [])
TreeFits b is_split terminal_of (Parted numbers siblings) = (is_split [] ≡ true) × (numbers ≡ ready b.block []) × SiblingsFit b is_split terminal_of [] numbers siblings

-- if only incomplete prefixes are split
module _ {M : Type 0} (b : Problem) (is_split : List ℕ → Bool) (terminal_of : List ℕ → M) (part : (at : List ℕ) → is_split at ≡ true → length at < length b.block) where
  abbrev sibling : ℕ → List ℕ → Siblings M → Siblings M
  sibling more = grown_sibling b.block is_split terminal_of more

  abbrev Fit : ℕ → Type 0
  Fit more =
      (prefix : List ℕ) (n : ℕ) (ns : List ℕ) (later : Siblings M) → length b.block ≤ length prefix + 1 + more → SiblingsFit b is_split terminal_of prefix ns later → SiblingsFit b is_split terminal_of prefix (n ∷ ns) (sibling more (prefix ++ n ∷ []) later)

  each-fit : (more : ℕ) → Fit more → (prefix ns : List ℕ) → length b.block ≤ length prefix + 1 + more → SiblingsFit b is_split terminal_of prefix ns (each_sibling (sibling more) prefix ns)
  each-fit more fit prefix [] enough = tt
  each-fit more fit prefix (n ∷ ns) enough =
      fit prefix n ns (each_sibling (sibling more) prefix ns) enough (each-fit more fit prefix ns enough)

  sibling-fits : (more : ℕ) → Fit more
  sibling-fits zero prefix n ns later enough h =
      let at = prefix ++ n ∷ [] in
      elim (cases_Bool (is_split at)) [
        | inl is ↦ absurd (omega (arith, part at is, enough, length-append prefix (n ∷ [])))
        | inr off ↦ (off, refl, h)
      ]
  sibling-fits (suc more) prefix n ns later enough h =
      let at = prefix ++ n ∷ [] in
      elim (cases_Bool (is_split at)) [
        | inl is ↦ rw is (is, refl, each-fit more (sibling-fits more) at (ready b.block at) (omega (arith, enough, length-append prefix (n ∷ []))), h)
        | inr off ↦ rw off (off, refl, h)
      ]

  pub tree-fits : TreeFits b is_split terminal_of (grown_tree b.block is_split terminal_of)
  tree-fits =
      elim (cases_Bool (is_split [])) [
        | inl is ↦ rw is (is, refl, each-fit (length b.block) (sibling-fits (length b.block)) [] (ready b.block []) (omega arith))
        | inr off ↦ rw off (off, refl)
      ]
