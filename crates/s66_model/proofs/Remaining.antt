-- What remains after a beginning, what is ready, and what a whole order goes on with.
use Rattle.std.proofs.Common.{ℕ, ◌≤◌, ◌≡◌, Bool, true, false, true≢false, not, ◌&&◌, List, [], ◌∷◌, ◌++◌, length, refl, sym, ap, arith, inl, inr, leb, eqb, append_assoc, length-append, subst, ◌∙◌}
use Rattle.std.proofs.Common.{le-leb, leb-true, filter}
use Rattle.std.proofs.lemmas.Bool.{or_left, or_right, or_parts, or_from, and_parts, and_from, not_from_false, not-true, cond_both, cases_Bool, cond-false}
use Rattle.s66_isa.specs.{Instr, tally, has, Among, numbers}
use Rattle.s66_isa.proofs.Lists.{rising-among, among-rising, filter-all, filter-among}
use Rattle.s66_model.specs.{IsLegal, is_ready, is_remaining, ready, remaining, IsBeginning, IsIncomplete, IsOrder, Completes}
use Rattle.s66_model.proofs.LegalOrders.{legal-order, order-legal, GoesOn-append, GoesOn-join, ready-parts}

-- WHAT PASSES

pub among-filter : {X : Type 0} (test : X → Bool) (x : X) (xs : List X) → Among x xs → test x ≡ true → Among x (filter test xs)
among-filter test x [] h is = absurd h
among-filter test x (y ∷ ys) h is =
    cond_both (test y) (y ∷ filter test ys) (filter test ys) (λ zs. Among x zs)
    (λ passes. elim h [
      | inl here ↦ inl here
      | inr past ↦ inr (among-filter test x ys past is)
    ])
    (λ fails. elim h [
      | inl here ↦ absurd (true≢false (sym is ∙ (ap test here ∙ fails)))
      | inr past ↦ among-filter test x ys past is
    ])

-- WHAT REMAINS

pub remaining-parts : (block : List Instr) (prefix : List ℕ) (n : ℕ) → is_remaining block prefix n ≡ true → (1 ≤ n) × (n ≤ length block) × (has n prefix ≡ false)
remaining-parts block prefix n h =
    let both = and_parts (leb 1 n && leb n (length block)) (not (has n prefix)) h in
    let range = and_parts (leb 1 n) (leb n (length block)) both.0 in
    (leb-true 1 n range.0, leb-true n (length block) range.1, not-true (has n prefix) both.1)

pub among-remaining : (block : List Instr) (prefix : List ℕ) (n : ℕ) → is_remaining block prefix n ≡ true → Among n (remaining block prefix)
among-remaining block prefix n h =
    let (low, high, new) = remaining-parts block prefix n h in
    among-filter (is_remaining block prefix) n (numbers block) (rising-among (length block) 1 n low (omega (arith, high))) h

pub remaining-among : (block : List Instr) (prefix : List ℕ) (n : ℕ) → Among n (remaining block prefix) → is_remaining block prefix n ≡ true
remaining-among block prefix n h = (filter-among (is_remaining block prefix) n (numbers block) h).1

-- before anything is placed all numbers remain
pub all-remain : (block : List Instr) → remaining block [] ≡ numbers block
all-remain block =
    filter-all (is_remaining block []) (numbers block) (λ n among.
    let (low, high) = among-rising (length block) 1 n among in
    rw (le-leb 1 n low, le-leb n (length block) (omega (arith, high))) refl)

has-front : (n : ℕ) (xs ys : List ℕ) → has n (xs ++ ys) ≡ false → has n xs ≡ false
has-front n [] ys h = refl
has-front n (x ∷ xs) ys h =
    let both = or_parts (eqb n x) (has n (xs ++ ys)) h in
    or_from (eqb n x) (has n xs) both.0 (has-front n xs ys both.1)

-- what is ready later remains
pub later-remains : (block : List Instr) (prefix front : List ℕ) (n : ℕ) → is_ready block (prefix ++ front) n ≡ true → is_remaining block prefix n ≡ true
later-remains block prefix front n h =
    let (low, high, new, met) = ready-parts block (prefix ++ front) n h in
    and_from (leb 1 n && leb n (length block)) (not (has n prefix))
    (and_from (leb 1 n) (leb n (length block)) (le-leb 1 n low) (le-leb n (length block) high))
    (not_from_false (has n prefix) (has-front n prefix front new))

-- WHAT IS READY

pub among-ready : (block : List Instr) (prefix : List ℕ) (n : ℕ) → is_ready block prefix n ≡ true → Among n (ready block prefix)
among-ready block prefix n h =
    let (low, high, new, met) = ready-parts block prefix n h in
    among-filter (is_ready block prefix) n (numbers block) (rising-among (length block) 1 n low (omega (arith, high))) h

pub ready-among : (block : List Instr) (prefix : List ℕ) (n : ℕ) → Among n (ready block prefix) → is_ready block prefix n ≡ true
ready-among block prefix n h = (filter-among (is_ready block prefix) n (numbers block) h).1

-- ONE NUMBER FURTHER

pub step-begins : (block : List Instr) (prefix : List ℕ) (n : ℕ) → IsBeginning block prefix → is_ready block prefix n ≡ true → IsBeginning block (prefix ++ n ∷ [])
step-begins block prefix n begins h = GoesOn-join block [] prefix (n ∷ []) begins (h, tt)

pub step-completes : (block : List Instr) (prefix : List ℕ) (n : ℕ) (rest : List ℕ) → Completes block prefix (n ∷ rest) → Completes block (prefix ++ n ∷ []) rest
step-completes block prefix n rest h =
    let e : (prefix ++ n ∷ []) ++ rest ≡ prefix ++ n ∷ rest = append_assoc prefix (n ∷ []) rest in
    (h.0.1, subst (λ xs. length xs ≡ length block) (sym e) h.1)

-- a legal order that begins so
pub legal-parts : (block : List Instr) (prefix rest : List ℕ) → IsLegal block (prefix ++ rest) → IsBeginning block prefix × Completes block prefix rest
legal-parts block prefix rest h =
    let order : IsOrder block (prefix ++ rest) = legal-order block (prefix ++ rest) h in
    let both = GoesOn-append block [] prefix rest order.0 in
    (both.0, (both.1, order.1))

-- an incomplete beginning goes on with a number
pub rest-first : (block : List Instr) (prefix rest : List ℕ) → IsIncomplete block prefix → length (prefix ++ rest) ≡ length block → (n : ℕ) × (more : List ℕ) × (rest ≡ n ∷ more)
rest-first block prefix [] h e = absurd (omega (arith, length-append {A = ℕ} prefix []))
rest-first block prefix (n ∷ rest) h e = (n, rest, refl)

-- and a complete one with none
pub rest-none : (prefix rest : List ℕ) (k : ℕ) → length prefix ≡ k → length (prefix ++ rest) ≡ k → rest ≡ []
rest-none prefix [] k h e = refl
rest-none prefix (n ∷ rest) k h e = absurd (omega (arith, length-append prefix (n ∷ rest)))

-- AN ORDER HAS EVERY NUMBER

tally-has : (n : ℕ) (ns : List ℕ) → 1 ≤ tally (λ m. eqb n m) ns → has n ns ≡ true
tally-has n [] h = absurd (omega arith)
tally-has n (m ∷ ns) h =
    elim (cases_Bool (eqb n m)) [
      | inl is ↦ or_left (eqb n m) (has n ns) is
      | inr is ↦ or_right (eqb n m) (has n ns) (tally-has n ns (omega (arith, cond-false {A = ℕ} (eqb n m) 1 0 is)))
    ]

pub order-has : (block : List Instr) (order : List ℕ) → IsOrder block order → (n : ℕ) → 1 ≤ n → n ≤ length block → has n order ≡ true
order-has block order legal n low high =
    tally-has n order (omega (arith, (order-legal block order legal).once n low high))
