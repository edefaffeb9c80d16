-- The chain that is printed: it is a chain, none is greater, and of equal ones it goes first.
use Rattle.std.proofs.Common.{ℕ, zero, suc, ◌+◌, ◌-◌, ◌≤◌, ◌<◌, ◌≡◌, ◌≢◌, Bool, true, true≢false, List, [], ◌∷◌, length, refl, sym, subst, ap, arith, inl, inr, ltb, eqb, ◌∙◌, ltb-true, eqb-true}
use Rattle.std.proofs.Common.{eq-eqb, ne_eqb, filter}
use Rattle.std.proofs.lemmas.Bool.{and_parts, cond_both, cases_eq, cases_lt}
use Rattle.s66_isa.specs.{Instr, greatest, first_that, rising, Among, numbers}
use Rattle.s66_isa.proofs.Lists.{cases_le, le-greatest, filter-among}
use Rattle.s66_model.specs.{Problem, row_at, points_of, is_remaining, remaining, tail, link, is_linked, head, walk, chain_value, IsWalk, IsChain, links_from, longest, chain, longest_walk}
use Rattle.s66_model.specs.{longest_chain, InDictionaryOrder}
use Rattle.s66_model.proofs.Remaining.{remaining-parts, among-filter, among-remaining, remaining-among}

-- WHAT PASSES, THE GREATEST, THE FIRST

-- one of the list has the greatest f, if that is above some number
greatest-over : {X : Type 0} (f : X → ℕ) (low : ℕ) (xs : List X) → low < greatest f xs → (x : X) × Among x xs × (f x ≡ greatest f xs)
greatest-over f low [] h = absurd (omega arith)
greatest-over f low (x ∷ xs) h =
    elim (cases_le (greatest f xs) (f x)) [
      | inl le ↦ (x, inl refl, omega arith)
      | inr lt ↦ (let (y, among, is) = greatest-over f (f x) xs lt in (y, inr among, omega (arith, is)))
    ]

-- or if there is any
pub greatest-reached : {X : Type 0} (f : X → ℕ) (x : X) (xs : List X) → Among x xs → (y : X) × Among y xs × (f y ≡ greatest f xs)
greatest-reached f x xs h =
    elim (cases_lt 0 (greatest f xs)) [
      | inl lt ↦ greatest-over f 0 xs lt
      | inr le ↦ (x, h, omega (arith, le-greatest f x xs h))
    ]

-- the first that passes is one of the list and passes, if one does
first-passes : (test : ℕ → Bool) (n : ℕ) (ns : List ℕ) → Among n ns → test n ≡ true → Among (first_that test ns) ns × (test (first_that test ns) ≡ true)
first-passes test n [] h is = absurd h
first-passes test n (m ∷ ms) h is =
    cond_both (test m) m (first_that test ms) (λ x. Among x (m ∷ ms) × (test x ≡ true))
    (λ passes. (inl refl, passes))
    (λ fails. elim h [
      | inl here ↦ absurd (true≢false (sym is ∙ (ap test here ∙ fails)))
      | inr past ↦ (let both = first-passes test n ms past is in (inr both.0, both.1))
    ])

-- each number is above the one before it, and the first at least low
abbrev pub Rises : ℕ → List ℕ → Type 0
Rises low [] = Unit {0}
Rises low (n ∷ ns) = (low ≤ n) × Rises (suc n) ns

Rises-lower : (low high : ℕ) (ns : List ℕ) → low ≤ high → Rises high ns → Rises low ns
Rises-lower low high [] le h = tt
Rises-lower low high (n ∷ ns) le h = (omega (arith, h.0), h.1)

Rises-rising : (count low : ℕ) → Rises low (rising count low)
Rises-rising zero low = tt
Rises-rising (suc count) low = (omega arith, Rises-rising count (suc low))

Rises-filter : (test : ℕ → Bool) (low : ℕ) (ns : List ℕ) → Rises low ns → Rises low (filter test ns)
Rises-filter test low [] h = tt
Rises-filter test low (n ∷ ns) h =
    cond_both (test n) (n ∷ filter test ns) (filter test ns) (λ ms. Rises low ms)
    (λ passes. (h.0, Rises-filter test (suc n) ns h.1))
    (λ fails. Rises-lower low (suc n) (filter test ns) (omega (arith, h.0)) (Rises-filter test (suc n) ns h.1))

pub Rises-among : (low n : ℕ) (ns : List ℕ) → Rises low ns → Among n ns → low ≤ n
Rises-among low n [] h among = absurd among
Rises-among low n (m ∷ ms) h among =
    elim among [
      | inl here ↦ omega (arith, h.0, here)
      | inr past ↦ omega (arith, h.0, Rises-among (suc m) n ms h.1 past)
    ]

-- of a rising list the first that passes is the lowest that does
first-lowest : (test : ℕ → Bool) (low n : ℕ) (ns : List ℕ) → Rises low ns → Among n ns → test n ≡ true → first_that test ns ≤ n
first-lowest test low n [] h among is = absurd among
first-lowest test low n (m ∷ ms) h among is =
    cond_both (test m) m (first_that test ms) (λ x. x ≤ n)
    (λ passes. elim among [
      | inl here ↦ omega (arith, here)
      | inr past ↦ omega (arith, Rises-among (suc m) n ms h.1 past)
    ])
    (λ fails. elim among [
      | inl here ↦ absurd (true≢false (sym is ∙ (ap test here ∙ fails)))
      | inr past ↦ first-lowest test (suc m) n ms h.1 past is
    ])

-- WHAT REMAINS

pub remaining-rises : (block : List Instr) (prefix : List ℕ) → Rises 1 (remaining block prefix)
remaining-rises block prefix = Rises-filter (is_remaining block prefix) 1 (numbers block) (Rises-rising (length block) 1)

-- THE WALK AFTER A NUMBER

-- the value keeps so long a walk, from n on to m
abbrev pub keeps : Problem → List ℕ → ℕ → ℕ → ℕ → ℕ → Bool
keeps b prefix links n time m = eqb (link (row_at b n) (row_at b m) + longest b prefix links m) time

abbrev pub onward : Problem → List ℕ → ℕ → ℕ → ℕ → ℕ
onward b prefix links n time = first_that (keeps b prefix links n time) (links_from b prefix n)

pub walk-ends : (b : Problem) (prefix : List ℕ) (links n time : ℕ) → tail (row_at b n) ≡ time → longest_walk b prefix (suc links) n time ≡ []
walk-ends b prefix links n time is = rw (longest_walk, eq-eqb (tail (row_at b n)) time is) refl

pub walk-goes : (b : Problem) (prefix : List ℕ) (links n time : ℕ) → tail (row_at b n) ≢ time →
    longest_walk b prefix (suc links) n time ≡ onward b prefix links n time ∷ longest_walk b prefix links (onward b prefix links n time) (time - link (row_at b n) (row_at b (onward b prefix links n time)))
walk-goes b prefix links n time past = rw (longest_walk, ne_eqb (tail (row_at b n)) time past) refl

-- the walk goes on to a number with a link, from which on it takes what is left of the time
pub onward-keeps : (b : Problem) (prefix : List ℕ) (links n time : ℕ) → time ≡ longest b prefix (suc links) n → tail (row_at b n) ≢ time →
    Among (onward b prefix links n time) (links_from b prefix n) × (link (row_at b n) (row_at b (onward b prefix links n time)) + longest b prefix links (onward b prefix links n time) ≡ time)
onward-keeps b prefix links n time is past =
    let f : ℕ → ℕ = λ m. link (row_at b n) (row_at b m) + longest b prefix links m in
    let (m, among, reached) = greatest-over f (tail (row_at b n)) (links_from b prefix n) (omega (arith, is)) in
    let first = first-passes (keeps b prefix links n time) m (links_from b prefix n) among (eq-eqb (f m) time (omega (arith, is, reached))) in
    (first.0, eqb-true (f (onward b prefix links n time)) time first.1)

longest-walk : (b : Problem) (prefix : List ℕ) (links n time : ℕ) → is_remaining b.block prefix n ≡ true → time ≡ longest b prefix links n →
    IsWalk b prefix n (longest_walk b prefix links n time) × (walk b n (longest_walk b prefix links n time) ≡ time)
longest-walk b prefix zero n time stays is = (stays, sym is)
longest-walk b prefix (suc links) n time stays is =
    elim (cases_eq (tail (row_at b n)) time) [
      | inl here ↦ subst (λ ns. IsWalk b prefix n ns × (walk b n ns ≡ time)) (sym (walk-ends b prefix links n time here)) (stays, here)
      | inr past ↦
          let m = onward b prefix links n time in
          let (among, keeps_it) = onward-keeps b prefix links n time is past in
          let both = filter-among (is_linked b n) m (remaining b.block prefix) among in
          let rest = longest-walk b prefix links m (time - link (row_at b n) (row_at b m)) (remaining-among b.block prefix m both.0) (omega (arith, keeps_it)) in
          subst (λ ns. IsWalk b prefix n ns × (walk b n ns ≡ time)) (sym (walk-goes b prefix links n time past))
          ((stays, both.1, rest.0), omega (arith, keeps_it, rest.1))
    ]

-- THE CHAIN

abbrev pub heads : Problem → List ℕ → ℕ → Bool
heads b prefix n = eqb (head (points_of b prefix) (row_at b n) + longest b prefix (length b.block) n) (chain b prefix)

abbrev pub front : Problem → List ℕ → ℕ
front b prefix = first_that (heads b prefix) (remaining b.block prefix)

pub front-heads : (b : Problem) (prefix : List ℕ) (n : ℕ) → is_remaining b.block prefix n ≡ true →
    (is_remaining b.block prefix (front b prefix) ≡ true) × (head (points_of b prefix) (row_at b (front b prefix)) + longest b prefix (length b.block) (front b prefix) ≡ chain b prefix)
front-heads b prefix n stays =
    let f : ℕ → ℕ = λ m. head (points_of b prefix) (row_at b m) + longest b prefix (length b.block) m in
    let (m, among, reached) = greatest-reached f n (remaining b.block prefix) (among-remaining b.block prefix n stays) in
    let first = first-passes (heads b prefix) m (remaining b.block prefix) among (eq-eqb (f m) (chain b prefix) reached) in
    (remaining-among b.block prefix (front b prefix) first.0, eqb-true (f (front b prefix)) (chain b prefix) first.1)

-- if a number remains, it is a chain of the greatest value
pub longest-is_chain : (b : Problem) (prefix : List ℕ) (n : ℕ) → is_remaining b.block prefix n ≡ true →
    IsChain b prefix (longest_chain b prefix) × (chain_value b prefix (longest_chain b prefix) ≡ chain b prefix)
longest-is_chain b prefix n stays =
    let m = front b prefix in
    let (remains, is) = front-heads b prefix n stays in
    let rest = longest-walk b prefix (length b.block) m (chain b prefix - head (points_of b prefix) (row_at b m)) remains (omega (arith, is)) in
    (rest.0, omega (arith, is, rest.1))

-- NO CHAIN IS GREATER

walk-remains : (b : Problem) (prefix : List ℕ) (n : ℕ) (ns : List ℕ) → IsWalk b prefix n ns → is_remaining b.block prefix n ≡ true
walk-remains b prefix n [] goes = goes
walk-remains b prefix n (m ∷ ms) goes = goes.0

-- the numbers of a walk rise, so it has no more links than the block has instructions
walk-short : (b : Problem) (prefix : List ℕ) (n : ℕ) (ns : List ℕ) → IsWalk b prefix n ns → n + length ns ≤ length b.block
walk-short b prefix n [] goes = (let (low, high, new) = remaining-parts b.block prefix n goes in omega (arith, high))
walk-short b prefix n (m ∷ ms) goes =
    let (stays, is, rest) = goes in
    let rises : n < m = ltb-true n m (and_parts (ltb n m) (ltb 0 (link (row_at b n) (row_at b m))) is).0 in
    omega (arith, rises, walk-short b prefix m ms rest)

walk-links_from : (b : Problem) (prefix : List ℕ) (n m : ℕ) (ms : List ℕ) → is_linked b n m ≡ true → IsWalk b prefix m ms → Among m (links_from b prefix n)
walk-links_from b prefix n m ms is rest = among-filter (is_linked b n) m (remaining b.block prefix) (among-remaining b.block prefix m (walk-remains b prefix m ms rest)) is

link-le : (b : Problem) (prefix : List ℕ) (links n m : ℕ) → Among m (links_from b prefix n) → link (row_at b n) (row_at b m) + longest b prefix links m ≤ longest b prefix (suc links) n
link-le b prefix links n m among = omega (arith, le-greatest (λ k. link (row_at b n) (row_at b k) + longest b prefix links k) m (links_from b prefix n) among)

walk-le : (b : Problem) (prefix : List ℕ) (links n : ℕ) (ns : List ℕ) → length ns ≤ links → IsWalk b prefix n ns → walk b n ns ≤ longest b prefix links n
walk-le b prefix zero n [] short goes = omega arith
walk-le b prefix zero n (m ∷ ms) short goes = absurd (omega (arith, short))
walk-le b prefix (suc links) n [] short goes = omega arith
walk-le b prefix (suc links) n (m ∷ ms) short goes =
    let (stays, is, rest) = goes in
    omega (arith, walk-le b prefix links m ms (omega (arith, short)) rest, link-le b prefix links n m (walk-links_from b prefix n m ms is rest))

chain-short : (b : Problem) (prefix : List ℕ) (n : ℕ) (ns : List ℕ) → IsWalk b prefix n ns → length ns ≤ length b.block
chain-short b prefix n ns goes = omega (arith, walk-short b prefix n ns goes)

head-le : (b : Problem) (prefix : List ℕ) (n : ℕ) (ns : List ℕ) → IsWalk b prefix n ns → head (points_of b prefix) (row_at b n) + longest b prefix (length b.block) n ≤ chain b prefix
head-le b prefix n ns goes =
    le-greatest (λ m. head (points_of b prefix) (row_at b m) + longest b prefix (length b.block) m) n (remaining b.block prefix) (among-remaining b.block prefix n (walk-remains b prefix n ns goes))

pub chain-le : (b : Problem) (prefix ns : List ℕ) → IsChain b prefix ns → chain_value b prefix ns ≤ chain b prefix
chain-le b prefix [] goes = absurd goes
chain-le b prefix (n ∷ ns) goes =
    omega (arith, head-le b prefix n ns goes, walk-le b prefix (length b.block) n ns (chain-short b prefix n ns goes) goes)

-- OF EQUAL CHAINS IT GOES FIRST

links_from-rises : (b : Problem) (prefix : List ℕ) (n : ℕ) → Rises 1 (links_from b prefix n)
links_from-rises b prefix n = Rises-filter (is_linked b n) 1 (remaining b.block prefix) (remaining-rises b.block prefix)

walk-first : (b : Problem) (prefix : List ℕ) (links n time : ℕ) (ns : List ℕ) → time ≡ longest b prefix links n → length ns ≤ links → IsWalk b prefix n ns → walk b n ns ≡ time → InDictionaryOrder (longest_walk b prefix links n time) ns
walk-first b prefix zero n time ns is short goes takes = tt
walk-first b prefix (suc links) n time [] is short goes takes = subst (λ ms. InDictionaryOrder ms []) (sym (walk-ends b prefix links n time takes)) tt
walk-first b prefix (suc links) n time (m ∷ ms) is short goes takes =
    elim (cases_eq (tail (row_at b n)) time) [
      | inl here ↦ subst (λ ks. InDictionaryOrder ks (m ∷ ms)) (sym (walk-ends b prefix links n time here)) tt
      | inr past ↦
          let (stays, is_link, rest) = goes in
          let among = walk-links_from b prefix n m ms is_link rest in
          let le : walk b m ms ≤ longest b prefix links m = walk-le b prefix links m ms (omega (arith, short)) rest in
          let at_most : link (row_at b n) (row_at b m) + longest b prefix links m ≤ longest b prefix (suc links) n = link-le b prefix links n m among in
          let takes_it : link (row_at b n) (row_at b m) + longest b prefix links m ≡ time = omega (arith, le, at_most, is, takes) in
          let lowest : onward b prefix links n time ≤ m = first-lowest (keeps b prefix links n time) 1 m (links_from b prefix n) (links_from-rises b prefix n) among (eq-eqb (link (row_at b n) (row_at b m) + longest b prefix links m) time takes_it) in
          subst (λ ks. InDictionaryOrder ks (m ∷ ms)) (sym (walk-goes b prefix links n time past))
          (elim (cases_eq (onward b prefix links n time) m) [
            | inl same ↦
                let after : InDictionaryOrder (longest_walk b prefix links m (time - link (row_at b n) (row_at b m))) ms =
                walk-first b prefix links m (time - link (row_at b n) (row_at b m)) ms (omega (arith, takes_it)) (omega (arith, short)) rest (omega (arith, takes)) in
                inr (same, subst (λ k. InDictionaryOrder (longest_walk b prefix links k (time - link (row_at b n) (row_at b k))) ms) (sym same) after)
            | inr other ↦ inl (omega (arith, lowest, other))
          ])
    ]

pub longest-first : (b : Problem) (prefix ns : List ℕ) → IsChain b prefix ns → chain_value b prefix ns ≡ chain b prefix → InDictionaryOrder (longest_chain b prefix) ns
longest-first b prefix [] goes takes = absurd goes
longest-first b prefix (n ∷ ns) goes takes =
    let short = chain-short b prefix n ns goes in
    let le : walk b n ns ≤ longest b prefix (length b.block) n = walk-le b prefix (length b.block) n ns short goes in
    let at_most : head (points_of b prefix) (row_at b n) + longest b prefix (length b.block) n ≤ chain b prefix = head-le b prefix n ns goes in
    let takes_it : head (points_of b prefix) (row_at b n) + longest b prefix (length b.block) n ≡ chain b prefix = omega (arith, le, at_most, takes) in
    let among = among-remaining b.block prefix n (walk-remains b prefix n ns goes) in
    let lowest : front b prefix ≤ n = first-lowest (heads b prefix) 1 n (remaining b.block prefix) (remaining-rises b.block prefix) among (eq-eqb (head (points_of b prefix) (row_at b n) + longest b prefix (length b.block) n) (chain b prefix) takes_it) in
    elim (cases_eq (front b prefix) n) [
      | inl same ↦
          let after : InDictionaryOrder (longest_walk b prefix (length b.block) n (chain b prefix - head (points_of b prefix) (row_at b n))) ns =
          walk-first b prefix (length b.block) n (chain b prefix - head (points_of b prefix) (row_at b n)) ns (omega (arith, takes_it)) short goes (omega (arith, takes)) in
          inr (same, subst (λ k. InDictionaryOrder (longest_walk b prefix (length b.block) k (chain b prefix - head (points_of b prefix) (row_at b k))) ns) (sym same) after)
      | inr other ↦ inl (omega (arith, lowest, other))
    ]
