-- Two steps of a parse by clap have no fault if neither has one.
use Rattle.std.proofs.Common.{◌≡◌, [], ◌∷◌, List, refl, subst}
use Rattle.clap.specs.Words.{Kinds}
use Rattle.clap.specs.Kinds.{or_else}

pub full : {K : Type 0} (k : K) (ks : List K) → k ∷ ks ≡ [] → ⊥
full k ks e = subst (λ (l : List _). elim l as (λ _. Type 0) [ [] ↦ ⊥ | x ∷ xs ↦ Unit {0} ]) e tt

pub first-none : (a b : Kinds) → or_else a b ≡ [] → a ≡ []
first-none [] b none = refl
first-none (k ∷ ks) b none = absurd (full k ks none)

pub second-none : (a b : Kinds) → or_else a b ≡ [] → b ≡ []
second-none [] b none = none
second-none (k ∷ ks) b none = absurd (full k ks none)
