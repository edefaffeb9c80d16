-- A loop over the numbers of a block from 1 on, which filters, sums or keeps the least.
use Rattle.std.proofs.Common.{ℕ, ◌+◌, ◌<◌, ◌≡◌, Bool, true, false, min, List, [], ◌∷◌, ◌++◌, length, Option, None, Some, refl, sym, ap, subst, add-one, arith, ◌∙◌, append-nil, length-append, filter}
use Rattle.std.proofs.lemmas.List.Elements.{filter-append}
use Rattle.s66_isa.specs.{least, weigh, rising}
use Rattle.s66_isa.proofs.Lists.{weigh-append}
use Rattle.s66_model.specs.{Problem, is_remaining, sum_remaining}
use Rattle.s66_model.proofs.Beginnings.{rising-push}
use Rattle.s66_model.proofs.FloorParts.{sum_remaining-weigh}

rising_more : (n : ℕ) → rising (n + 1) 1 ≡ rising n 1 ++ (n + 1) ∷ []
rising_more n = rw add-one (rising-push n 1 ∙ ap (λ x. rising n 1 ++ x ∷ []) (omega arith))

filter_more : (test : ℕ → Bool) (n : ℕ) → filter test (rising (n + 1) 1) ≡ filter test (rising n 1) ++ filter test ((n + 1) ∷ [])
filter_more test n = ap (filter test) (rising_more n) ∙ filter-append test (rising n 1) ((n + 1) ∷ [])

pub filter_taken : (test : ℕ → Bool) (n : ℕ) (xs : List ℕ) → xs ≡ filter test (rising n 1) → test (n + 1) ≡ true → xs ++ (n + 1) ∷ [] ≡ filter test (rising (n + 1) 1)
filter_taken test n xs is passes = ap (λ ys. ys ++ (n + 1) ∷ []) is ∙ sym (filter_more test n ∙ rw passes refl)

pub filter_passed : (test : ℕ → Bool) (n : ℕ) (xs : List ℕ) → xs ≡ filter test (rising n 1) → test (n + 1) ≡ false → xs ≡ filter test (rising (n + 1) 1)
filter_passed test n xs is fails = is ∙ sym (filter_more test n ∙ rw fails (append-nil (filter test (rising n 1))))

-- the sum over those that pass
pub sum_taken : (test : ℕ → Bool) (f : ℕ → ℕ) (n : ℕ) → test (n + 1) ≡ true → weigh f (filter test (rising (n + 1) 1)) ≡ weigh f (filter test (rising n 1)) + f (n + 1)
sum_taken test f n passes =
    omega (arith, ap (weigh f) (filter_taken test n (filter test (rising n 1)) refl passes), weigh-append f (filter test (rising n 1)) ((n + 1) ∷ []))

pub sum_passed : (test : ℕ → Bool) (f : ℕ → ℕ) (n : ℕ) → test (n + 1) ≡ false → weigh f (filter test (rising (n + 1) 1)) ≡ weigh f (filter test (rising n 1))
sum_passed test f n fails = ap (weigh f) (sym (filter_passed test n (filter test (rising n 1)) refl fails))

pub sum_all : (b : Problem) (prefix : List ℕ) (f : ℕ → ℕ) (n : ℕ) → n ≡ length b.block → weigh f (filter (is_remaining b.block prefix) (rising n 1)) ≡ sum_remaining b.block prefix f
sum_all b prefix f n all = ap (λ k. weigh f (filter (is_remaining b.block prefix) (rising k 1))) all ∙ sym (sum_remaining-weigh b prefix f)

-- THE LEAST SO FAR, none of none

abbrev pub IsLeast : (ℕ → ℕ) → List ℕ → Option ℕ → Type 0
IsLeast f xs None = xs ≡ []
IsLeast f xs (Some least_one) = (0 < length xs) × (least_one ≡ least f xs)

least-push : (f : ℕ → ℕ) (x : ℕ) (xs : List ℕ) → 0 < length xs → least f (xs ++ x ∷ []) ≡ min (least f xs) (f x)
least-push f x [] some = absurd (omega arith)
least-push f x (y ∷ []) some = refl
least-push f x (y ∷ (z ∷ zs)) some = omega (arith, least-push f x (z ∷ zs) (omega arith))

pub least_first : (test : ℕ → Bool) (f : ℕ → ℕ) (n v : ℕ) → IsLeast f (filter test (rising n 1)) None → test (n + 1) ≡ true → v ≡ f (n + 1) → IsLeast f (filter test (rising (n + 1) 1)) (Some v)
least_first test f n v none passes is =
    let taken : filter test (rising (n + 1) 1) ≡ (n + 1) ∷ [] = sym (filter_taken test n (filter test (rising n 1)) refl passes) ∙ ap (λ ys. ys ++ (n + 1) ∷ []) none in
    subst (λ ys. IsLeast f ys (Some v)) (sym taken) (omega arith, is)

pub least_other : (test : ℕ → Bool) (f : ℕ → ℕ) (n other v : ℕ) → IsLeast f (filter test (rising n 1)) (Some other) → test (n + 1) ≡ true → v ≡ min (f (n + 1)) other → IsLeast f (filter test (rising (n + 1) 1)) (Some v)
least_other test f n other v is passes least_is =
    let xs = filter test (rising n 1) in
    subst (λ ys. IsLeast f ys (Some v)) (filter_taken test n xs refl passes)
    (omega (arith, length-append xs ((n + 1) ∷ [])), omega (arith, is.1, least_is, least-push f (n + 1) xs is.0))

pub least_passed : (test : ℕ → Bool) (f : ℕ → ℕ) (n : ℕ) (so_far : Option ℕ) → IsLeast f (filter test (rising n 1)) so_far → test (n + 1) ≡ false → IsLeast f (filter test (rising (n + 1) 1)) so_far
least_passed test f n so_far is fails =
    subst (λ ys. IsLeast f ys so_far) (filter_passed test n (filter test (rising n 1)) refl fails) is
