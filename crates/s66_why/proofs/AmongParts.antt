-- What is in a list that is joined of parts, as the stretches of all instructions, is in one of the parts.
use Rattle.std.proofs.Common.{ℕ, ◌≤◌, ◌≡◌, ◌∙◌, List, [], ◌∷◌, Bool, true, if◌then◌else◌, refl, sym, arith, inl, inr, flat_map}
use Rattle.std.proofs.lemmas.Bool.{cases_Bool, cond-true, cond-false}
use Rattle.s66_isa.specs.{Among, greatest, tally}
use Rattle.s66_isa.proofs.Lists.{cases_le, split-among}

pub among-flat : {X Y : Type 0} (f : Y → List X) (x : X) (ys : List Y) → Among x (flat_map f ys) → (y : Y) × Among y ys × Among x (f y)
among-flat f x [] among = absurd among
among-flat f x (y ∷ ys) among =
    elim (split-among x (f y) (flat_map f ys) among) [
      | inl here ↦ (y, inl refl, here)
      | inr past ↦ let more = among-flat f x ys past in (more.0, inr more.1, more.2)
    ]

-- the greatest is that of some item
pub greatest-met : {X : Type 0} (f : X → ℕ) (xs : List X) → 1 ≤ greatest f xs → (x : X) × Among x xs × (f x ≡ greatest f xs)
greatest-met f [] some = absurd (omega arith)
greatest-met f (x ∷ xs) some =
    elim (cases_le (greatest f xs) (f x)) [
      | inl here ↦ (x, inl refl, omega arith)
      | inr past ↦ let more = greatest-met f xs (omega arith) in (more.0, inr more.1, omega (arith, more.2))
    ]

-- of those that pass
pub greatest-passes : {X : Type 0} (test : X → Bool) (f : X → ℕ) (t : ℕ) (xs : List X) → 1 ≤ t → t ≡ greatest (λ x. if test x then f x else 0) xs →
    (x : X) × Among x xs × (test x ≡ true) × (f x ≡ t)
greatest-passes test f t xs some is =
    let met = greatest-met (λ x. if test x then f x else 0) xs (omega (arith, is)) in
    elim (cases_Bool (test met.0)) [
      | inl holds ↦ (met.0, met.1, holds, sym (cond-true (test met.0) (f met.0) 0 holds) ∙ met.2 ∙ sym is)
      | inr fails ↦ absurd (omega (arith, is, met.2, cond-false (test met.0) (f met.0) 0 fails))
    ]

pub tally-le : {X : Type 0} (test other : X → Bool) (xs : List X) → ((x : X) → Among x xs → test x ≡ true → other x ≡ true) → tally test xs ≤ tally other xs
tally-le test other [] passes = omega arith
tally-le test other (x ∷ xs) passes =
    let rest : tally test xs ≤ tally other xs = tally-le test other xs (λ y among. passes y (inr among)) in
    elim (cases_Bool (test x)) [
      | inl holds ↦ omega (arith, rest, cond-true {A = ℕ} (test x) 1 0 holds, cond-true {A = ℕ} (other x) 1 0 (passes x (inl refl) holds))
      | inr fails ↦ omega (arith, rest, cond-false {A = ℕ} (test x) 1 0 fails)
    ]
