-- The tree of an answer shows its bound.
use Rattle.std.proofs.Common.{ℕ, ◌≤◌, ◌≡◌, true, List, [], ◌∷◌, ◌++◌, refl, sym, arith, inl, inr, subst}
use Rattle.s66_isa.specs.{Among}
use Rattle.s66_isa.proofs.Lists.{least-le, among-front, among-rest}
use Rattle.s66_model.specs.{Rule, Problem, is_ready, ready, IsBeginning, IsBound, IsBest, value, MayStand, floor, Siblings, NoMore, Unsplit, Split, Tree, Alone, Parted, SiblingsHold, TreeHolds}
use Rattle.s66_model.specs.{sibling_values, tree_values, Ending, Bounding, Dominated, Factual, EndingShows, ShowsBy, MayEnd, ending_values, IsAnswer, IsBestAnswer}
use Rattle.s66_model.specs.Answer.{Answer}
use Rattle.s66_model.proofs.Remaining.{ready-among, step-begins}
use Rattle.s66_model.proofs.DominatedTrees.{shown-below}

-- low is at most each of the values
abbrev IsBelow : ℕ → List ℕ → Type 0
IsBelow low values = (v : ℕ) → Among v values → low ≤ v

abbrev pub AreReady : Problem → List ℕ → List ℕ → Type 0
AreReady b prefix ns = (n : ℕ) → Among n ns → is_ready b.block prefix n ≡ true

pub split-ready : (b : Problem) (prefix ns : List ℕ) → ns ≡ ready b.block prefix → AreReady b prefix ns
split-ready b prefix ns is n among = ready-among b.block prefix n (subst (λ x. Among n x) is among)

-- if a floor may stand at every beginning
module _ (stands : (b : Problem) (prefix : List ℕ) → IsBeginning b.block prefix → MayStand b prefix (floor b prefix)) where
  module _ (rule : Rule) (b : Problem) (low : ℕ) (whole : Tree Ending) where
    ending-shows : (at : List ℕ) (ending : Ending) → IsBeginning b.block at → MayEnd rule b whole at ending → IsBelow low (ending_values b at ending) → EndingShows rule b low [] whole at ending
    ending-shows at (Bounding leaf) begins is below =
        (subst (λ x. MayStand b at x) (sym is) (stands b at begins), below (value b at leaf) (inl refl))
    ending-shows at (Dominated name) begins is below = is
    ending-shows at (Factual leaf) begins is below = is

    siblings-show : (siblings : Siblings Ending) (prefix ns : List ℕ) → SiblingsHold b.block (MayEnd rule b whole) prefix ns siblings → IsBeginning b.block prefix → AreReady b prefix ns → IsBelow low (sibling_values (ending_values b) prefix ns siblings) → SiblingsHold b.block (EndingShows rule b low [] whole) prefix ns siblings
    siblings-show NoMore prefix [] holds begins are below = tt
    siblings-show NoMore prefix (n ∷ ns) holds begins are below = holds
    siblings-show (Unsplit ending siblings) prefix [] holds begins are below = holds
    siblings-show (Unsplit ending siblings) prefix (n ∷ ns) holds begins are below =
        let longer = prefix ++ n ∷ [] in
        let begins2 : IsBeginning b.block longer = step-begins b.block prefix n begins (are n (inl refl)) in
        let others = sibling_values (ending_values b) prefix ns siblings in (
          ending-shows longer ending begins2 holds.0 (λ v among. below v (among-front v (ending_values b longer ending) others among)),
          siblings-show siblings prefix ns holds.1 begins (λ m among. are m (inr among)) (λ v among. below v (among-rest v (ending_values b longer ending) others among)),
        )
    siblings-show (Split numbers sub siblings) prefix [] holds begins are below = holds
    siblings-show (Split numbers sub siblings) prefix (n ∷ ns) holds begins are below =
        let longer = prefix ++ n ∷ [] in
        let begins2 : IsBeginning b.block longer = step-begins b.block prefix n begins (are n (inl refl)) in
        let inner = sibling_values (ending_values b) longer numbers sub in
        let others = sibling_values (ending_values b) prefix ns siblings in (
          holds.0,
          holds.1,
          siblings-show sub longer numbers holds.2 begins2 (split-ready b longer numbers holds.1) (λ v among. below v (among-front v inner others among)),
          siblings-show siblings prefix ns holds.3 begins (λ m among. are m (inr among)) (λ v among. below v (among-rest v inner others among)),
        )

    -- a tree whose values are all at least low shows it
    pub tree-shows : (tree : Tree Ending) → TreeHolds b.block (MayEnd rule b whole) [] tree → IsBelow low (tree_values (ending_values b) [] tree) → TreeHolds b.block (EndingShows rule b low [] whole) [] tree
    tree-shows (Alone ending) holds below = ending-shows [] ending tt holds below
    tree-shows (Parted numbers siblings) holds below =
        (holds.0, holds.1, siblings-show siblings [] numbers holds.2 tt (split-ready b [] numbers holds.1) below)

  pub answer-shown : (rule : Rule) (b : Problem) (budget : ℕ) (a : Answer) → IsAnswer rule b budget a → ShowsBy rule b a.bound [] a.tree
  answer-shown rule b budget a is =
      let values = tree_values (ending_values b) [] a.tree in
      tree-shows rule b a.bound a.tree a.tree is.tree (λ v among. omega (arith, is.bound, least-le (λ x. x) v (a.time ∷ values) (inr among)))

  pub answer-bound : (rule : Rule) (b : Problem) (budget : ℕ) (a : Answer) → IsAnswer rule b budget a → IsBound b a.bound
  answer-bound rule b budget a is order legal = shown-below rule b a.bound [] order a.tree (answer-shown rule b budget a is) legal

  pub answer-best : (rule : Rule) (b : Problem) (budget : ℕ) (a : Answer) → IsAnswer rule b budget a → IsBestAnswer a → IsBest b a.time
  answer-best rule b budget a is best =
      ((a.order, is.legal, sym is.time), subst (λ low. IsBound b low) best (answer-bound rule b budget a is))
