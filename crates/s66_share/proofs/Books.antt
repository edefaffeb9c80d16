-- Seat records at a lock: how many are a worker's, and which agree with the summary of what is under it.
use mathlib.Core.Logic.{dite}
use native.Mathlib.Decide.{ℕ_discrete}
use Rattle.std.proofs.Common.{◌≡◌, ◌≢◌, ℕ, zero, suc, ◌+◌, ◌<◌, ◌≤◌, cond, List, [], ◌∷◌, length, map, All, refl, ap, ◌∙◌, arith, eq-eqb, ne_eqb}
use Rattle.std.proofs.lemmas.List.Elements.{All-nil, All-cons, All-head, All-tail}
use Rattle.s66_isa.specs.{rising}
use Rattle.s66_model.specs.{Summary, SeatRecord, Agrees, opened}
use Rattle.s66_share.specs.{books_of, all_opened, first_of, rest_of, MayBecome}

counted : (n : ℕ) (p : SeatRecord) (ps : List SeatRecord) → p.who ≡ n → books_of n (p ∷ ps) ≡ 1 + books_of n ps
counted n p ps e = ap (λ b. cond b 1 0 + books_of n ps) (eq-eqb p.who n e)

not_counted : (n : ℕ) (p : SeatRecord) (ps : List SeatRecord) → p.who ≢ n → books_of n (p ∷ ps) ≡ books_of n ps
not_counted n p ps ne = ap (λ b. cond b 1 0 + books_of n ps) (ne_eqb p.who n ne) ∙ omega arith

pub own : (p : SeatRecord) → books_of p.who (p ∷ []) ≡ 1
own p = counted p.who p [] refl

-- THE FIRST AND THE REST

pub cut : (n : ℕ) (ps : List SeatRecord) → books_of n (rest_of ps) + books_of n (first_of ps) ≡ books_of n ps
cut n [] = refl
cut n (p ∷ ps) = omega arith

pub rest-agree : (s : Summary) (ps : List SeatRecord) → All (Agrees s) ps → All (Agrees s) (rest_of ps)
rest-agree s [] h = h
rest-agree s (p ∷ ps) h = All-tail (Agrees s) p ps h

pub first-agree : (s : Summary) (ps : List SeatRecord) → All (Agrees s) ps → All (Agrees s) (first_of ps)
first-agree s [] h = h
first-agree s (p ∷ ps) h = All-cons (Agrees s) p [] (All-head (Agrees s) p ps h) (All-nil (Agrees s))

-- AFTER A CALL

-- the seat records of other workers still agree
pub others-agree : (who : ℕ) (s t : Summary) (ps : List SeatRecord) → MayBecome who s t → books_of who ps ≡ 0 → All (Agrees s) ps → All (Agrees t) ps
others-agree who s t [] follows none agree = All-nil (Agrees t)
others-agree who s t (p ∷ ps) follows none agree =
    let other : p.who ≢ who = λ e. omega (arith, counted who p ps e) in
    All-cons (Agrees t) p ps (follows.others p other (All-head (Agrees s) p ps agree))
    (others-agree who s t ps follows (omega (arith, not_counted who p ps other)) (All-tail (Agrees s) p ps agree))

-- AS THE LOCK OPENS

abbrev books_from : Summary → ℕ → ℕ → List SeatRecord
books_from s count low = map (opened s) (rising count low)

opened_none : (s : Summary) (count low n : ℕ) → n < low → books_of n (books_from s count low) ≡ 0
opened_none s zero low n h = refl
opened_none s (suc count) low n h =
    omega (arith, not_counted n (opened s low) (books_from s count (suc low)) (λ e. omega arith), opened_none s count (suc low) n (omega arith))

opened_once_from : (s : Summary) (count low n : ℕ) → books_of n (books_from s count low) ≤ 1
opened_once_from s zero low n = omega arith
opened_once_from s (suc count) low n =
    dite (ℕ_discrete low n)
    (λ (e : low ≡ n). omega (arith, counted n (opened s low) (books_from s count (suc low)) e, opened_none s count (suc low) n (omega arith)))
    (λ (ne : low ≢ n). omega (arith, not_counted n (opened s low) (books_from s count (suc low)) ne, opened_once_from s count (suc low) n))

pub opened_once : (s : Summary) (n : ℕ) → books_of n (all_opened s) ≤ 1
opened_once s n = opened_once_from s (length s.accounts) 1 n

pub opened-agrees : (s : Summary) (w : ℕ) → 1 ≤ w → w ≤ length s.accounts → Agrees s (opened s w)
opened-agrees s w low high = record { worker = (low, high); rule = refl; problem = refl; budget = refl; account = refl; least = omega arith }

opened_from-agree : (s : Summary) (count low : ℕ) → 1 ≤ low → low + count ≤ length s.accounts + 1 → All (Agrees s) (books_from s count low)
opened_from-agree s zero low h near = All-nil (Agrees s)
opened_from-agree s (suc count) low h near =
    All-cons (Agrees s) (opened s low) (books_from s count (suc low)) (opened-agrees s low h (omega arith)) (opened_from-agree s count (suc low) (omega arith) (omega arith))

pub opened-agree : (s : Summary) → All (Agrees s) (all_opened s)
opened-agree s = opened_from-agree s (length s.accounts) 1 (omega arith) (omega arith)

some_from : (s : Summary) (count low : ℕ) → 0 < count → 0 < length (books_from s count low)
some_from s zero low h = absurd (omega arith)
some_from s (suc count) low h = omega arith

pub some_opened : (s : Summary) → 0 < length s.accounts → 0 < length (all_opened s)
some_opened s h = some_from s (length s.accounts) 1 h

-- a worker who has a seat record among some that agree
pub has_book : (s : Summary) (ps : List SeatRecord) → 0 < length ps → All (Agrees s) ps → (w : ℕ) × (1 ≤ w) × (w ≤ length s.accounts) × (1 ≤ books_of w ps)
has_book s [] h agree = absurd (omega arith)
has_book s (p ∷ ps) h agree = let worker = (All-head (Agrees s) p ps agree).worker in (p.who, worker.0, worker.1, omega (arith, counted p.who p ps refl))
