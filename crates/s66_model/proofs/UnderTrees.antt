-- What holds of the orders through each unsplit prefix of a tree holds of all orders that begin with the tree's prefix.
use Rattle.std.proofs.Common.{ℕ, ◌≤◌, ◌<◌, ◌≡◌, List, [], ◌∷◌, ◌++◌, length, sym, arith, inl, inr, subst, append_assoc, length-append}
use Rattle.s66_isa.specs.{Among}
use Rattle.s66_model.specs.{Problem, ready, Completes, IsBeginning, IsIncomplete, Siblings, NoMore, Unsplit, Split, Tree, Alone, Parted, SiblingsHold, TreeHolds}
use Rattle.s66_model.proofs.Remaining.{among-ready, step-begins, step-completes, rest-first}

-- R holds of each order through a terminal that is deeper than depth
module _ {M : Type 0} (b : Problem) (Q : List ℕ → M → Type 0) (R : List ℕ → Type 0) (depth : ℕ) (at_terminal : (at : List ℕ) (terminal : M) (rest : List ℕ) → depth < length at → Q at terminal → IsBeginning b.block at → Completes b.block at rest → R (at ++ rest)) where
  find_split : (sub : Siblings M) → ((there ns : List ℕ) → SiblingsHold b.block Q there ns sub → depth ≤ length there → IsBeginning b.block there → (n : ℕ) (rest : List ℕ) → Among n ns → Completes b.block there (n ∷ rest) → R (there ++ n ∷ rest)) → (at rest numbers : List ℕ) → IsIncomplete b.block at → numbers ≡ ready b.block at → SiblingsHold b.block Q at numbers sub → depth ≤ length at → IsBeginning b.block at → Completes b.block at rest → R (at ++ rest)
  find_split sub ih at rest numbers part is holds deep begins whole =
      let (n, more, e) = rest-first b.block at rest part whole.1 in
      let whole2 : Completes b.block at (n ∷ more) = subst (λ x. Completes b.block at x) e whole in
      let among : Among n numbers = subst (λ x. Among n x) (sym is) (among-ready b.block at n whole2.0.0) in
      subst (λ x. R (at ++ x)) (sym e) (ih at numbers holds deep begins n more among whole2)

  siblings-find : (siblings : Siblings M) (there ns : List ℕ) → SiblingsHold b.block Q there ns siblings → depth ≤ length there → IsBeginning b.block there → (n : ℕ) (rest : List ℕ) → Among n ns → Completes b.block there (n ∷ rest) → R (there ++ n ∷ rest)
  siblings-find NoMore there [] holds deep begins n rest among h = absurd among
  siblings-find NoMore there (m ∷ ns) holds deep begins n rest among h = absurd holds
  siblings-find (Unsplit terminal siblings) there [] holds deep begins n rest among h = absurd among
  siblings-find (Unsplit terminal siblings) there (m ∷ ns) holds deep begins n rest among h =
      elim among [
        | inl here ↦
            (let hold : Q (there ++ n ∷ []) terminal = subst (λ x. Q (there ++ x ∷ []) terminal) (sym here) holds.0 in
            subst R (append_assoc there (n ∷ []) rest) (at_terminal (there ++ n ∷ []) terminal rest (omega (arith, deep, length-append there (n ∷ []))) hold (step-begins b.block there n begins h.0.0) (step-completes b.block there n rest h)))
        | inr past ↦ siblings-find siblings there ns holds.1 deep begins n rest past h
      ]
  siblings-find (Split numbers sub siblings) there [] holds deep begins n rest among h = absurd among
  siblings-find (Split numbers sub siblings) there (m ∷ ns) holds deep begins n rest among h =
      elim among [
        | inl here ↦
            (let part : IsIncomplete b.block (there ++ n ∷ []) = subst (λ x. IsIncomplete b.block (there ++ x ∷ [])) (sym here) holds.0 in
            let is : numbers ≡ ready b.block (there ++ n ∷ []) = subst (λ x. numbers ≡ ready b.block (there ++ x ∷ [])) (sym here) holds.1 in
            let below : SiblingsHold b.block Q (there ++ n ∷ []) numbers sub = subst (λ x. SiblingsHold b.block Q (there ++ x ∷ []) numbers sub) (sym here) holds.2 in
            subst R (append_assoc there (n ∷ []) rest) (find_split sub (siblings-find sub) (there ++ n ∷ []) rest numbers part is below (omega (arith, deep, length-append there (n ∷ []))) (step-begins b.block there n begins h.0.0) (step-completes b.block there n rest h)))
        | inr past ↦ siblings-find siblings there ns holds.3 deep begins n rest past h
      ]

  pub split-find : (at numbers : List ℕ) (siblings : Siblings M) → IsIncomplete b.block at → numbers ≡ ready b.block at → SiblingsHold b.block Q at numbers siblings → depth ≤ length at → IsBeginning b.block at → (rest : List ℕ) → Completes b.block at rest → R (at ++ rest)
  split-find at numbers siblings part is holds deep begins rest h = find_split siblings (siblings-find siblings) at rest numbers part is holds deep begins h

pub tree-find : {M : Type 0} (b : Problem) (Q : List ℕ → M → Type 0) (R : List ℕ → Type 0) → ((at : List ℕ) (terminal : M) (rest : List ℕ) → Q at terminal → IsBeginning b.block at → Completes b.block at rest → R (at ++ rest)) → (there : List ℕ) (tree : Tree M) → TreeHolds b.block Q there tree → IsBeginning b.block there → (rest : List ℕ) → Completes b.block there rest → R (there ++ rest)
tree-find b Q R at_terminal there (Alone terminal) holds begins rest h = at_terminal there terminal rest holds begins h
tree-find b Q R at_terminal there (Parted numbers siblings) holds begins rest h =
    split-find b Q R 0 (λ at terminal more deep. at_terminal at terminal more) there numbers siblings holds.0 holds.1 holds.2 (omega arith) begins rest h
