-- What workers made is put in the places of its numbers, and taken out of these in order (`make_each`).
use Rattle.std.proofs.Common.{ℕ, ◌≡◌, ◌<◌, List, [], ◌∷◌, ◌++◌, Option, None, All, IfSome, arith, inl, inr, get_or, length, set, subst, sym, get_or-set_same, get_or-set_other, length-set}
use Rattle.std.proofs.lemmas.Bool.{cases_eq}
use Rattle.std.proofs.lemmas.Grind.{common_steps}
use Rattle.s66_answer.specs.{AreMade, ArePut}

module _ {T : Type 0} (gives : ℕ → T → Type 0) where
  pub none-put : (places : List (Option T)) → All (λ p. p ≡ None) places → ArePut gives places
  none-put places empty i d within = subst (λ p. IfSome p (gives i)) (sym (empty i d within)) tt

  pub put-more : (places : List (Option T)) (i : ℕ) (p : Option T) → IfSome p (gives i) → ArePut gives places → ArePut gives (set places i p)
  put-more places i p is put j d within =
      let old : j < length places = omega (arith, length-set places i p) in
      elim (cases_eq j i) [
        | inl here ↦ subst (λ k. IfSome (get_or (set places i p) k d) (gives k)) (sym here) (subst (λ q. IfSome q (gives i)) (sym (get_or-set_same places i p d (omega (arith, here)))) is)
        | inr other ↦ subst (λ q. IfSome q (gives j)) (sym (get_or-set_other places i j p d other)) (put j d old)
      ]

  pub made-more : (made : List T) (x : T) → gives (length made) x → AreMade gives made → AreMade gives (made ++ x ∷ [])
  made-more made x is are i d within = grind (arith, common_steps, are i d)
