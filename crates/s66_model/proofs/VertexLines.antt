-- The lines of a grown tree: of a prefix that isn't split one, and of a split one its own and then those of its children.
use Rattle.std.proofs.Common.{ℕ, zero, suc, ◌+◌, ◌-◌, ◌≤◌, ◌≡◌, Bool, true, false, cond, List, [], ◌∷◌, ◌++◌, length, refl, sym, ap, arith, append_assoc, length-append, ◌∙◌, append-nil}
use Rattle.s66_isa.specs.{Instr}
use Rattle.s66_model.specs.{ready, Siblings, NoMore, Unsplit, Split, Alone, Parted, AtTerminal, AtSplit, flat, flat_siblings, each_sibling, grown_sibling, grown_tree, children, lines_at, lines_of}

module _ {M : Type 0} (block : List Instr) (is_split : List ℕ → Bool) (terminal : List ℕ → M) where
  abbrev sibling : ℕ → List ℕ → Siblings M → Siblings M
  sibling more = grown_sibling block is_split terminal more

  -- the lines of what follows come after
  sibling-lines : (more : ℕ) (at : List ℕ) (later : Siblings M) → flat_siblings (sibling more at later) ≡ flat_siblings (sibling more at NoMore) ++ flat_siblings later
  sibling-lines zero at later = refl
  sibling-lines (suc more) at later = by (is_split at)
    where
      by : (b : Bool) →
          flat_siblings (cond b (Split (ready block at) (each_sibling (sibling more) at (ready block at)) later) (Unsplit (terminal at) later))
          ≡ flat_siblings (cond b (Split (ready block at) (each_sibling (sibling more) at (ready block at)) NoMore) (Unsplit (terminal at) NoMore)) ++ flat_siblings later
      by true = ap (λ vertices. AtSplit (ready block at) ∷ (vertices ++ flat_siblings later)) (sym (append-nil (flat_siblings (each_sibling (sibling more) at (ready block at)))))
      by false = refl

  each-lines : (more : ℕ) (at ns : List ℕ) → suc (length block) - (length at + 1) ≡ more → flat_siblings (each_sibling (sibling more) at ns) ≡ lines_of block is_split terminal (children at ns)
  each-lines more at [] is = refl
  each-lines more at (n ∷ ns) is =
      let here : suc (length block) - length (at ++ n ∷ []) ≡ more = ap (λ k. suc (length block) - k) (length-append at (n ∷ [])) ∙ is in
      sibling-lines more (at ++ n ∷ []) (each_sibling (sibling more) at ns)
      ∙ (ap (λ vertices. flat_siblings (sibling more (at ++ n ∷ []) NoMore) ++ vertices) (each-lines more at ns is)
      ∙ ap (λ k. flat_siblings (sibling k (at ++ n ∷ []) NoMore) ++ lines_of block is_split terminal (children at ns)) (sym here))

  pub lines-unsplit : (at : List ℕ) → is_split at ≡ false → lines_at block is_split terminal at ≡ AtTerminal (terminal at) ∷ []
  lines-unsplit at off = by (suc (length block) - length at)
    where
      by : (more : ℕ) → flat_siblings (sibling more at NoMore) ≡ AtTerminal (terminal at) ∷ []
      by zero = refl
      by (suc more) = rw off refl

  pub lines-split : (at : List ℕ) → is_split at ≡ true → length at ≤ length block →
      lines_at block is_split terminal at ≡ AtSplit (ready block at) ∷ lines_of block is_split terminal (children at (ready block at))
  lines-split at is few =
      let more : ℕ = length block - length at in
      let some : suc (length block) - length at ≡ suc more = omega arith in
      ap (λ k. flat_siblings (sibling k at NoMore)) some ∙ by more (omega arith)
    where
      by : (more : ℕ) → suc (length block) - (length at + 1) ≡ more → flat_siblings (sibling (suc more) at NoMore) ≡ AtSplit (ready block at) ∷ lines_of block is_split terminal (children at (ready block at))
      by more same =
          rw is (ap (λ vertices. AtSplit (ready block at) ∷ vertices) (append-nil (flat_siblings (each_sibling (sibling more) at (ready block at))) ∙ each-lines more at (ready block at) same))

  pub lines-tree : flat (grown_tree block is_split terminal) ≡ lines_of block is_split terminal ([] ∷ [])
  lines-tree = by (is_split []) refl ∙ sym (append-nil (lines_at block is_split terminal []))
    where
      by : (b : Bool) → is_split [] ≡ b →
          flat (cond b (Parted (ready block []) (each_sibling (sibling (length block)) [] (ready block []))) (Alone (terminal []))) ≡ lines_at block is_split terminal []
      by true is = ap (λ vertices. AtSplit (ready block []) ∷ vertices) (each-lines (length block) [] (ready block []) (omega arith)) ∙ sym (lines-split [] is (omega arith))
      by false off = sym (lines-unsplit [] off)

  pub lines-both : (ats more : List (List ℕ)) → lines_of block is_split terminal (ats ++ more) ≡ lines_of block is_split terminal ats ++ lines_of block is_split terminal more
  lines-both [] more = refl
  lines-both (at ∷ ats) more =
      ap (λ vertices. lines_at block is_split terminal at ++ vertices) (lines-both ats more)
      ∙ sym (append_assoc (lines_at block is_split terminal at) (lines_of block is_split terminal ats) (lines_of block is_split terminal more))
