-- Sums over the seat records of workers, each of whom has one.
use mathlib.Core.Logic.{dite}
use native.Mathlib.Decide.{ℕ_discrete}
use Rattle.std.proofs.Common.{◌≡◌, ◌≢◌, ℕ, zero, suc, ◌+◌, ◌-◌, ◌<◌, ◌≤◌, cond, eqb, List, [], ◌∷◌, length, get_or, All, sym, refl, ap, ◌∙◌, arith, eq-eqb, ne_eqb}
use Rattle.std.proofs.lemmas.Bool.{cond-true, cond-false}
use Rattle.std.proofs.lemmas.List.Elements.{All-head, All-tail}
use Rattle.s66_isa.specs.{weigh, rising}
use Rattle.s66_isa.proofs.Lists.{weigh-same, among-rising}
use Rattle.s66_model.specs.{Summary, SeatRecord, Account, Agrees, account_at, no_account}
use Rattle.s66_share.specs.{books_of}

none-of : (f : ℕ → ℕ) (k count low : ℕ) → k < low → weigh (λ w. cond (eqb k w) (f w) 0) (rising count low) ≡ 0
none-of f k zero low h = refl
none-of f k (suc count) low h =
    omega (arith, cond-false {A = ℕ} (eqb k low) (f low) 0 (ne_eqb k low (λ e. omega arith)), none-of f k count (suc low) (omega arith))

-- f of the one number that is k
one-of : (f : ℕ → ℕ) (k count low : ℕ) → low ≤ k → k < low + count → weigh (λ w. cond (eqb k w) (f w) 0) (rising count low) ≡ f k
one-of f k zero low h lt = absurd (omega arith)
one-of f k (suc count) low h lt =
    dite (ℕ_discrete k low)
    (λ (e : k ≡ low). omega (arith, cond-true {A = ℕ} (eqb k low) (f low) 0 (eq-eqb k low e), none-of f k count (suc low) (omega arith), ap f e))
    (λ (ne : k ≢ low). omega (arith, cond-false {A = ℕ} (eqb k low) (f low) 0 (ne_eqb k low ne), one-of f k count (suc low) (omega arith) (omega arith)))

weigh-plus : {X : Type 0} (f g : X → ℕ) (xs : List X) → weigh (λ x. f x + g x) xs ≡ weigh f xs + weigh g xs
weigh-plus f g [] = refl
weigh-plus f g (x ∷ xs) = omega (arith, weigh-plus f g xs)

-- f of w for each of the worker's seat records
abbrev share : (ℕ → ℕ) → ℕ → List SeatRecord → ℕ
share f w ps = weigh (λ p. cond (eqb p.who w) (f w) 0) ps

share-none : (f : ℕ → ℕ) (w : ℕ) (ps : List SeatRecord) → books_of w ps ≡ 0 → share f w ps ≡ 0
share-none f w [] h = refl
share-none f w (p ∷ ps) h =
    dite (ℕ_discrete p.who w)
    (λ (e : p.who ≡ w). absurd (omega (arith, cond-true {A = ℕ} (eqb p.who w) 1 0 (eq-eqb p.who w e))))
    (λ (ne : p.who ≢ w).
    let off = ne_eqb p.who w ne in
    omega (arith, cond-false {A = ℕ} (eqb p.who w) (f w) 0 off, share-none f w ps (omega (arith, cond-false {A = ℕ} (eqb p.who w) 1 0 off))))

share-one : (f : ℕ → ℕ) (w : ℕ) (ps : List SeatRecord) → books_of w ps ≡ 1 → share f w ps ≡ f w
share-one f w [] h = absurd (omega arith)
share-one f w (p ∷ ps) h =
    dite (ℕ_discrete p.who w)
    (λ (e : p.who ≡ w).
    let on = eq-eqb p.who w e in
    omega (arith, cond-true {A = ℕ} (eqb p.who w) (f w) 0 on, share-none f w ps (omega (arith, cond-true {A = ℕ} (eqb p.who w) 1 0 on))))
    (λ (ne : p.who ≢ w).
    let off = ne_eqb p.who w ne in
    omega (arith, cond-false {A = ℕ} (eqb p.who w) (f w) 0 off, share-one f w ps (omega (arith, cond-false {A = ℕ} (eqb p.who w) 1 0 off))))

weigh-zero : {X : Type 0} (xs : List X) → weigh (λ x. 0) xs ≡ 0
weigh-zero [] = refl
weigh-zero (x ∷ xs) = omega (arith, weigh-zero xs)

-- f of each worker, by the seat records of each
by-worker : (f : ℕ → ℕ) (s : Summary) (ps : List SeatRecord) → All (Agrees s) ps → weigh (λ p. f p.who) ps ≡ weigh (λ w. share f w ps) (rising (length s.accounts) 1)
by-worker f s [] agree = sym (weigh-zero (rising (length s.accounts) 1))
by-worker f s (p ∷ ps) agree =
    let workers = rising (length s.accounts) 1 in
    let here = (All-head (Agrees s) p ps agree).worker in
    omega (
      arith,
      weigh-plus (λ w. cond (eqb p.who w) (f w) 0) (λ w. share f w ps) workers,
      one-of f p.who (length s.accounts) 1 here.0 (omega (arith, here.1)),
      by-worker f s ps (All-tail (Agrees s) p ps agree),
    )

same-splits : (s : Summary) (ps : List SeatRecord) → All (Agrees s) ps → weigh (λ p. p.account.splits) ps ≡ weigh (λ p. (account_at s p.who).splits) ps
same-splits s [] agree = refl
same-splits s (p ∷ ps) agree =
    omega (arith, ap (λ (a : Account). a.splits) (All-head (Agrees s) p ps agree).account, same-splits s ps (All-tail (Agrees s) p ps agree))

by-account : (accounts : List Account) (low : ℕ) → weigh (λ w. (get_or accounts (w - low) no_account).splits) (rising (length accounts) low) ≡ weigh (λ a. a.splits) accounts
by-account [] low = refl
by-account (a ∷ accounts) low =
    let here : (get_or (a ∷ accounts) (low - low) no_account).splits ≡ a.splits = (let none : low - low ≡ 0 = omega arith in ap (λ (k : ℕ). (get_or (a ∷ accounts) k no_account).splits) none) in
    let past = weigh-same (λ w. (get_or (a ∷ accounts) (w - low) no_account).splits) (λ w. (get_or accounts (w - suc low) no_account).splits) (rising (length accounts) (suc low))
    (λ w among.
    let above = among-rising (length accounts) (suc low) w among in
    let next : w - low ≡ suc (w - suc low) = omega (arith, above.0) in
    ap (λ (k : ℕ). (get_or (a ∷ accounts) k no_account).splits) next) in
    omega (arith, here, past, by-account accounts (suc low))

-- if each worker has one seat record, their splits add up as those of the accounts do
pub splits-of-all : (s : Summary) (ps : List SeatRecord) → All (Agrees s) ps → ((w : ℕ) → 1 ≤ w → w ≤ length s.accounts → books_of w ps ≡ 1)
    → weigh (λ p. p.account.splits) ps ≡ weigh (λ a. a.splits) s.accounts
splits-of-all s ps agree one =
    let f : ℕ → ℕ = λ w. (account_at s w).splits in
    same-splits s ps agree ∙ by-worker f s ps agree
    ∙ weigh-same (λ w. share f w ps) f (rising (length s.accounts) 1)
    (λ w among. let within = among-rising (length s.accounts) 1 w among in share-one f w ps (one w within.0 (omega (arith, within.1))))
    ∙ by-account s.accounts 1
