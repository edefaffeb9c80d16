-- The lines of a tree are without fault exactly when each split has the ready numbers and each ending shows what it has to.
use Rattle.std.proofs.Common.{ℕ, ◌≡◌, ◌↔◌, List, [], ◌∷◌, ◌++◌, None, refl, inl, inr}
use Rattle.s66_isa.specs.{Among}
use Rattle.s66_isa.proofs.Lists.{among-front, among-rest}
use Rattle.s66_model.specs.{Problem, ready, IsBeginning, Tree, Alone, Parted, Siblings, NoMore, Unsplit, Split, Vertex, AtTerminal, flat_siblings, flat, SiblingsHold, TreeHolds, Ending}
use Rattle.s66_model.proofs.Remaining.{step-begins}
use Rattle.s66_model.proofs.AnswerBound.{AreReady, split-ready}
use Rattle.s66_cert.specs.{Document, SiblingsFit, TreeFits, siblings_placed, tree_placed}
use Rattle.s66_checker.specs.{problem_of, line_fault}
use Rattle.s66_checker.proofs.Faultless.{split-shows, ready-short}

module _ (d : Document) where
  abbrev b : Problem
  b = problem_of d

  -- none of these lines has a fault
  abbrev pub Pass : List (List ℕ × Vertex Ending) → Type 0
  Pass [] = Unit {0}
  Pass (at ∷ later) = (line_fault d at.0 at.1 ≡ None) × Pass later

  pass-append : (lines later : List (List ℕ × Vertex Ending)) → Pass (lines ++ later) ↔ (Pass lines × Pass later)
  pass-append [] later = ((λ h. (tt, h)), λ h. h.1)
  pass-append (at ∷ lines) later =
      let rest = pass-append lines later in
      ((λ h. (let both = rest.0 h.1 in ((h.0, both.0), both.1))), λ h. (h.0.0, rest.1 (h.0.1, h.1)))

  -- what the endings have to show that may come
  module _ (May : Ending → Type 0) (Shown : List ℕ → Ending → Type 0) (shows : (at : List ℕ) (ending : Ending) → May ending → IsBeginning b.block at → (line_fault d at (AtTerminal ending) ≡ None) ↔ Shown at ending) where
    siblings-show : (limit : ℕ) (siblings : Siblings Ending) (prefix ns : List ℕ) → SiblingsFit limit ns siblings → ((ending : Ending) → Among (AtTerminal ending) (flat_siblings siblings) → May ending) → IsBeginning b.block prefix → AreReady b prefix ns →
        Pass (siblings_placed prefix ns siblings) ↔ SiblingsHold b.block Shown prefix ns siblings
    siblings-show limit NoMore prefix [] fit may begins are = ((λ h. tt), λ h. tt)
    siblings-show limit NoMore prefix (n ∷ ns) fit may begins are = absurd fit
    siblings-show limit (Unsplit ending siblings) prefix [] fit may begins are = absurd fit
    siblings-show limit (Unsplit ending siblings) prefix (n ∷ ns) fit may begins are =
        let here = shows (prefix ++ n ∷ []) ending (may ending (inl refl)) (step-begins b.block prefix n begins (are n (inl refl))) in
        let later = siblings-show limit siblings prefix ns fit.1 (λ e among. may e (inr among)) begins (λ m among. are m (inr among)) in
        ((λ h. (here.0 h.0, later.0 h.1)), λ h. (here.1 h.0, later.1 h.1))
    siblings-show limit (Split numbers sub siblings) prefix [] fit may begins are = absurd fit
    siblings-show limit (Split numbers sub siblings) prefix (n ∷ ns) fit may begins are =
        let child = prefix ++ n ∷ [] in
        let begins2 : IsBeginning b.block child = step-begins b.block prefix n begins (are n (inl refl)) in
        let here = split-shows d child numbers in
        let below = λ (e : numbers ≡ ready b.block child). siblings-show limit sub child numbers fit.1 (λ t among. may t (inr (among-front (AtTerminal t) (flat_siblings sub) (flat_siblings siblings) among))) begins2 (split-ready b child numbers e) in
        let later = siblings-show limit siblings prefix ns fit.2 (λ t among. may t (inr (among-rest (AtTerminal t) (flat_siblings sub) (flat_siblings siblings) among))) begins (λ m among. are m (inr among)) in
        let parts = pass-append (siblings_placed child numbers sub) (siblings_placed prefix ns siblings) in (
          (λ h. (let e = here.0 h.0 in
              let both = parts.0 h.1 in
              (ready-short b child numbers begins2 e fit.0.0, e, (below e).0 both.0, later.0 both.1))),
          λ h. (here.1 h.1, parts.1 ((below h.1).1 h.2, later.1 h.3)),
        )

    pub tree-shows : (limit : ℕ) (tree : Tree Ending) → TreeFits limit tree → ((ending : Ending) → Among (AtTerminal ending) (flat tree) → May ending) → Pass (tree_placed [] tree) ↔ TreeHolds b.block Shown [] tree
    tree-shows limit (Alone ending) fit may =
        let here = shows [] ending (may ending (inl refl)) tt in
        ((λ h. here.0 h.0), λ h. (here.1 h, tt))
    tree-shows limit (Parted numbers siblings) fit may =
        let here = split-shows d [] numbers in
        let below = λ (e : numbers ≡ ready b.block []). siblings-show limit siblings [] numbers fit.1 (λ t among. may t (inr among)) tt (split-ready b [] numbers e) in (
          (λ h. (let e = here.0 h.0 in (ready-short b [] numbers tt e fit.0.0, e, (below e).0 h.1))),
          λ h. (here.1 h.1, (below h.1).1 h.2),
        )
