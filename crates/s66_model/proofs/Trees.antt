-- What a leaf is worth and what a tree shows are lower bounds.
use Rattle.std.proofs.Common.{ℕ, ◌≤◌, ◌≡◌, List, [], ◌∷◌, ◌++◌, length, sym, ap, arith, inl, inr, ◌∙◌, append_assoc, length-append, subst, append-nil}
use Rattle.s66_isa.specs.{Among}
use Rattle.s66_model.specs.{Problem, total_of, ready, IsBeginning, IsIncomplete, Completes, Leaf, Whole, Chain, Load, Parcels, value, MayStand, Siblings, NoMore, Unsplit, Split, Tree, Alone, Parted}
use Rattle.s66_model.specs.{LeafShows, SiblingsHold, Shows}
use Rattle.s66_model.proofs.Remaining.{among-ready, step-begins, step-completes, rest-first, rest-none}
use Rattle.s66_model.proofs.ParcelsBound.{parcels-sound}
use Rattle.s66_model.proofs.LoadBound.{load-sound}
use Rattle.s66_model.proofs.ChainBound.{chain-sound}

-- a leaf that may stand at a beginning is at most the total of every order that begins so
pub leaf-sound : (b : Problem) (prefix rest : List ℕ) (leaf : Leaf) → IsBeginning b.block prefix → Completes b.block prefix rest → MayStand b prefix leaf → value b prefix leaf ≤ total_of b (prefix ++ rest)
leaf-sound b prefix rest Whole begins h may =
    let e : prefix ++ rest ≡ prefix = ap (λ r. prefix ++ r) (rest-none prefix rest (length b.block) may h.1) ∙ append-nil prefix in
    omega (arith, ap (total_of b) e)
leaf-sound b prefix rest (Chain numbers) begins h may = chain-sound b prefix rest numbers begins h may.1
leaf-sound b prefix rest (Load kind) begins h may = load-sound b prefix rest kind begins h
leaf-sound b prefix [] Parcels begins h may = absurd (omega (arith, length-append {A = ℕ} prefix []))
leaf-sound b prefix (n ∷ rest) Parcels begins h may = parcels-sound b prefix begins n rest h

module _ (b : Problem) (low : ℕ) where
  -- the children of a split show low of whatever goes on with one of them
  AreSound : Siblings Leaf → Type 0
  AreSound siblings =
      (prefix ns : List ℕ) → SiblingsHold b.block (LeafShows b low) prefix ns siblings → IsBeginning b.block prefix → (n : ℕ) (rest : List ℕ) → Among n ns → Completes b.block prefix (n ∷ rest) → low ≤ total_of b (prefix ++ n ∷ rest)

  parted-sound : (prefix rest numbers : List ℕ) (siblings : Siblings Leaf) → AreSound siblings → IsIncomplete b.block prefix → numbers ≡ ready b.block prefix → SiblingsHold b.block (LeafShows b low) prefix numbers siblings → IsBeginning b.block prefix → Completes b.block prefix rest → low ≤ total_of b (prefix ++ rest)
  unfolding AreSound
  parted-sound prefix rest numbers siblings sound incomplete is shows begins h =
      let (n, more, e) = rest-first b.block prefix rest incomplete h.1 in
      let h2 : Completes b.block prefix (n ∷ more) = subst (λ x. Completes b.block prefix x) e h in
      let among : Among n numbers = subst (λ x. Among n x) (sym is) (among-ready b.block prefix n h2.0.0) in
      subst (λ x. low ≤ total_of b (prefix ++ x)) (sym e) (sound prefix numbers shows begins n more among h2)

  split-sound : (numbers : List ℕ) (siblings : Siblings Leaf) → AreSound siblings → (prefix : List ℕ) (n m : ℕ) (rest : List ℕ) → n ≡ m → IsIncomplete b.block (prefix ++ m ∷ []) → numbers ≡ ready b.block (prefix ++ m ∷ []) → SiblingsHold b.block (LeafShows b low) (prefix ++ m ∷ []) numbers siblings → IsBeginning b.block prefix → Completes b.block prefix (n ∷ rest) → low ≤ total_of b (prefix ++ n ∷ rest)
  split-sound numbers siblings sound prefix n m rest e incomplete is shows begins h =
      let longer = prefix ++ n ∷ [] in
      let incomplete2 : IsIncomplete b.block longer = subst (λ x. IsIncomplete b.block (prefix ++ x ∷ [])) (sym e) incomplete in
      let is2 : numbers ≡ ready b.block longer = subst (λ x. numbers ≡ ready b.block (prefix ++ x ∷ [])) (sym e) is in
      let shows2 : SiblingsHold b.block (LeafShows b low) longer numbers siblings = subst (λ x. SiblingsHold b.block (LeafShows b low) (prefix ++ x ∷ []) numbers siblings) (sym e) shows in
      let below = parted-sound longer rest numbers siblings sound incomplete2 is2 shows2 (step-begins b.block prefix n begins h.0.0) (step-completes b.block prefix n rest h) in
      omega (arith, ap (total_of b) (append_assoc prefix (n ∷ []) rest))

  siblings-sound : (siblings : Siblings Leaf) → AreSound siblings
  unfolding AreSound
  siblings-sound NoMore prefix [] shows begins n rest among h = absurd among
  siblings-sound NoMore prefix (m ∷ ns) shows begins n rest among h = absurd shows
  siblings-sound (Unsplit leaf siblings) prefix [] shows begins n rest among h = absurd among
  siblings-sound (Unsplit leaf siblings) prefix (m ∷ ns) shows begins n rest among h =
      elim among [
        | inl here ↦
            (let show : LeafShows b low (prefix ++ n ∷ []) leaf = subst (λ x. LeafShows b low (prefix ++ x ∷ []) leaf) (sym here) shows.0 in
            let below = leaf-sound b (prefix ++ n ∷ []) rest leaf (step-begins b.block prefix n begins h.0.0) (step-completes b.block prefix n rest h) show.0 in
            omega (arith, ap (total_of b) (append_assoc prefix (n ∷ []) rest)))
        | inr past ↦ siblings-sound siblings prefix ns shows.1 begins n rest past h
      ]
  siblings-sound (Split numbers sub siblings) prefix [] shows begins n rest among h = absurd among
  siblings-sound (Split numbers sub siblings) prefix (m ∷ ns) shows begins n rest among h =
      elim among [
        | inl here ↦ split-sound numbers sub (siblings-sound sub) prefix n m rest here shows.0 shows.1 shows.2 begins h
        | inr past ↦ siblings-sound siblings prefix ns shows.3 begins n rest past h
      ]

-- what a tree shows over a beginning is at most the total of every order that begins so
pub tree-sound : (b : Problem) (low : ℕ) (prefix rest : List ℕ) (tree : Tree Leaf) → IsBeginning b.block prefix → Completes b.block prefix rest → Shows b low prefix tree → low ≤ total_of b (prefix ++ rest)
tree-sound b low prefix rest (Alone leaf) begins h shows = omega (arith, leaf-sound b prefix rest leaf begins h shows.0, shows.1)
tree-sound b low prefix rest (Parted numbers siblings) begins h shows =
    parted-sound b low prefix rest numbers siblings (siblings-sound b low siblings) shows.0 shows.1 shows.2 begins h
