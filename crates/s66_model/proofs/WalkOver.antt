-- The longest walk from a number that remains: links lead to later numbers, so one pass over what remains, in rising order, meets each number of it.
use Rattle.std.proofs.Common.{ℕ, zero, suc, ◌+◌, ◌-◌, ◌≤◌, ◌<◌, ◌≡◌, ◌≢◌, Bool, true, false, true≢false, not, ◌&&◌, List, [], ◌∷◌, ◌++◌, length, refl, sym, subst, ap, arith, inl, inr, ltb, eqb}
use Rattle.std.proofs.Common.{append_assoc, ◌∙◌, ◌⊎◌, cond, ltb-true, eqb-true, eq-eqb, ne_eqb, append-nil, filter}
use Rattle.std.proofs.lemmas.Bool.{and_parts, and_from, cases_Bool, cases_eq, cond-true, cond-false}
use Rattle.s66_isa.specs.{first_that, Among}
use Rattle.s66_isa.proofs.Lists.{among-rest, first_that-same, filter-among}
use Rattle.s66_model.specs.{Problem, row_at, is_remaining, remaining, IsBeginning, tail, link, is_linked, longest, longest_walk, longest_tail, walk_after, chain_front}
use Rattle.s66_model.proofs.Remaining.{remaining-parts, remaining-among}
use Rattle.s66_model.proofs.PrintedChain.{longest-enough, walk-static, front-static}
use Rattle.s66_model.proofs.LongestChain.{keeps, onward, onward-keeps, walk-ends, walk-goes, front-heads, Rises, Rises-among, remaining-rises}

-- THE FIRST THAT PASSES

first-filter : (test other : ℕ → Bool) (ns : List ℕ) → first_that test (filter other ns) ≡ first_that (λ n. other n && test n) ns
first-filter test other [] = refl
first-filter test other (n ∷ ns) =
    elim (cases_Bool (other n)) [
      | inl is ↦ rw (is, first-filter test other ns) refl
      | inr off ↦ rw (off, first-filter test other ns) refl
    ]

pub first-passed : (test : ℕ → Bool) (n : ℕ) (ns : List ℕ) → test n ≡ true → first_that test (n ∷ ns) ≡ n
first-passed test n ns is = cond-true {A = ℕ} (test n) n (first_that test ns) is

pub first-failed : (test : ℕ → Bool) (n : ℕ) (ns : List ℕ) → test n ≡ false → first_that test (n ∷ ns) ≡ first_that test ns
first-failed test n ns off = cond-false {A = ℕ} (test n) n (first_that test ns) off

-- it is n if none passes before n
first-at : (test : ℕ → Bool) (before : List ℕ) (n : ℕ) (after : List ℕ) → ((m : ℕ) → Among m before → test m ≡ false) → test n ≡ true → first_that test (before ++ n ∷ after) ≡ n
first-at test [] n after none is = rw is refl
first-at test (m ∷ before) n after none is = rw (none m (inl refl)) (first-at test before n after (λ k among. none k (inr among)) is)

-- ONE PASS OVER WHAT REMAINS

-- the longest walk from n goes on with m: its tail alone doesn't take the time, and m, to which it has a link, keeps it
abbrev pub goes_on : Problem → ℕ → ℕ → Bool
goes_on b n m = not (eqb (tail (row_at b n)) (longest_tail b n)) && (is_linked b n m && eqb (link (row_at b n) (row_at b m) + longest_tail b m) (longest_tail b n))

-- the numbers of the list that it meets, each the first with which it goes on
abbrev pub walk_over : Problem → ℕ → List ℕ → List ℕ
walk_over b n [] = []
walk_over b n (m ∷ ms) = cond (goes_on b n m) (m ∷ walk_over b m ms) (walk_over b n ms)

pub over-on : (b : Problem) (n m : ℕ) (ms : List ℕ) → goes_on b n m ≡ true → walk_over b n (m ∷ ms) ≡ m ∷ walk_over b m ms
over-on b n m ms is = rw is refl

pub over-past : (b : Problem) (n m : ℕ) (ms : List ℕ) → goes_on b n m ≡ false → walk_over b n (m ∷ ms) ≡ walk_over b n ms
over-past b n m ms off = rw off refl

-- it goes on with a later number alone, which keeps the time
pub goes-parts : (b : Problem) (n m : ℕ) → goes_on b n m ≡ true →
    (tail (row_at b n) ≢ longest_tail b n) × (link (row_at b n) (row_at b m) + longest_tail b m ≡ longest_tail b n) × (n < m)
goes-parts b n m is =
    let (goes, both) = and_parts (not (eqb (tail (row_at b n)) (longest_tail b n))) (is_linked b n m && eqb (link (row_at b n) (row_at b m) + longest_tail b m) (longest_tail b n)) is in
    let (linked, keeps_it) = and_parts (is_linked b n m) (eqb (link (row_at b n) (row_at b m) + longest_tail b m) (longest_tail b n)) both in
    (λ same. true≢false (sym goes ∙ ap not (eq-eqb (tail (row_at b n)) (longest_tail b n) same)), eqb-true (link (row_at b n) (row_at b m) + longest_tail b m) (longest_tail b n) keeps_it, ltb-true n m (and_parts (ltb n m) (ltb 0 (link (row_at b n) (row_at b m))) linked).0)

goes-later : (b : Problem) (n m : ℕ) → m ≤ n → goes_on b n m ≡ false
goes-later b n m le =
    elim (cases_Bool (goes_on b n m)) [
      | inl is ↦ (let (past, keeps_it, lt) = goes-parts b n m is in absurd (omega (arith, lt)))
      | inr off ↦ off
    ]

-- what comes before m in a rising list is lower
Rises-front : (low : ℕ) (before : List ℕ) (m : ℕ) (after : List ℕ) → Rises low (before ++ m ∷ after) → (n : ℕ) → Among n before → n < m
Rises-front low [] m after h n among = absurd among
Rises-front low (k ∷ before) m after h n among =
    elim among [
      | inl here ↦ omega (arith, here, Rises-among (suc k) m (before ++ m ∷ after) h.1 (among-rest m before (m ∷ after) (inl refl)))
      | inr past ↦ Rises-front (suc k) before m after h.1 n past
    ]

among-push : (n m : ℕ) (ns : List ℕ) → Among n (ns ++ m ∷ []) → Among n ns ⊎ (n ≡ m)
among-push n m [] h =
    elim h [
      | inl here ↦ inr here
      | inr past ↦ absurd past
    ]
among-push n m (k ∷ ns) h =
    elim h [
      | inl here ↦ inl (inl here)
      | inr past ↦ elim (among-push n m ns past) [
        | inl front ↦ inl (inr front)
        | inr here ↦ inr here
      ]
    ]

module _ (b : Problem) (prefix : List ℕ) (begins : IsBeginning b.block prefix) where
  abbrev all : List ℕ
  all = remaining b.block prefix

  -- what the walk asks of each number that remains
  asks : (links n : ℕ) → length b.block ≤ n + suc links → tail (row_at b n) ≢ longest_tail b n → (m : ℕ) → Among m all →
      (is_linked b n m && keeps b prefix links n (longest_tail b n) m) ≡ goes_on b n m
  asks links n few past m among =
      let goes : not (eqb (tail (row_at b n)) (longest_tail b n)) ≡ true = ap not (ne_eqb (tail (row_at b n)) (longest_tail b n) past) in
      elim (cases_Bool (is_linked b n m)) [
        | inl is ↦
            let lt : n < m = ltb-true n m (and_parts (ltb n m) (ltb 0 (link (row_at b n) (row_at b m))) is).0 in
            let same : longest b prefix links m ≡ longest_tail b m = longest-enough b prefix links m begins (remaining-among b.block prefix m among) (omega (arith, few, lt)) in
            rw (goes, is, same) refl
        | inr off ↦ rw (goes, off) refl
      ]

  onward-is : (links n : ℕ) → length b.block ≤ n + suc links → tail (row_at b n) ≢ longest_tail b n → onward b prefix links n (longest_tail b n) ≡ first_that (goes_on b n) all
  onward-is links n few past =
      first-filter (keeps b prefix links n (longest_tail b n)) (is_linked b n) all
      ∙ first_that-same (λ m. is_linked b n m && keeps b prefix links n (longest_tail b n) m) (goes_on b n) all (asks links n few past)

  -- if it goes on with no number that remains, it ends
  walk-done : (links n : ℕ) → is_remaining b.block prefix n ≡ true → length b.block ≤ n + links → ((m : ℕ) → Among m all → goes_on b n m ≡ false) → longest_walk b prefix links n (longest_tail b n) ≡ []
  walk-done zero n stays few none = refl
  walk-done (suc links) n stays few none =
      elim (cases_eq (tail (row_at b n)) (longest_tail b n)) [
        | inl here ↦ walk-ends b prefix links n (longest_tail b n) here
        | inr past ↦
            let (among, keeps_it) = onward-keeps b prefix links n (longest_tail b n) (sym (longest-enough b prefix (suc links) n begins stays few)) past in
            let m : ℕ = onward b prefix links n (longest_tail b n) in
            let both = filter-among (is_linked b n) m all among in
            let on : goes_on b n m ≡ true =
            sym (asks links n few past m both.0) ∙ and_from (is_linked b n m) (keeps b prefix links n (longest_tail b n) m) both.1 (eq-eqb (link (row_at b n) (row_at b m) + longest b prefix links m) (longest_tail b n) keeps_it)
            in
            absurd (true≢false (sym on ∙ none m both.0))
      ]

  -- it goes on with m if it goes on with none before m
  walk-on : (links n : ℕ) (before : List ℕ) (m : ℕ) (after : List ℕ) → all ≡ before ++ m ∷ after → ((k : ℕ) → Among k before → goes_on b n k ≡ false) → length b.block ≤ n + suc links → goes_on b n m ≡ true →
      longest_walk b prefix links m (longest_tail b m) ≡ walk_over b m after → longest_walk b prefix (suc links) n (longest_tail b n) ≡ walk_over b n (m ∷ after)
  walk-on links n before m after split none few on rest =
      let (past, keeps_it, lt) = goes-parts b n m on in
      let first : onward b prefix links n (longest_tail b n) ≡ m = onward-is links n few past ∙ (ap (first_that (goes_on b n)) split ∙ first-at (goes_on b n) before m after none on) in
      let left : longest_tail b n - link (row_at b n) (row_at b m) ≡ longest_tail b m = omega (arith, keeps_it) in
      walk-goes b prefix links n (longest_tail b n) past
      ∙ (ap (λ k. k ∷ longest_walk b prefix links k (longest_tail b n - link (row_at b n) (row_at b k))) first
      ∙ (ap (λ t. m ∷ longest_walk b prefix links m t) left
      ∙ (ap (λ ns. m ∷ ns) rest ∙ sym (over-on b n m after on))))

  -- from m on it goes on with none up to m
  none-behind : (before : List ℕ) (m : ℕ) (after : List ℕ) → all ≡ before ++ m ∷ after → (k : ℕ) → Among k (before ++ m ∷ []) → goes_on b m k ≡ false
  none-behind before m after split k among =
      elim (among-push k m before among) [
        | inl front ↦ goes-later b m k (omega (arith, Rises-front 1 before m after (subst (λ ns. Rises 1 ns) split (remaining-rises b.block prefix)) k front))
        | inr same ↦ goes-later b m k (omega (arith, same))
      ]

  none-push : (n : ℕ) (before : List ℕ) (m : ℕ) → ((k : ℕ) → Among k before → goes_on b n k ≡ false) → goes_on b n m ≡ false → (k : ℕ) → Among k (before ++ m ∷ []) → goes_on b n k ≡ false
  none-push n before m none off k among =
      elim (among-push k m before among) [
        | inl front ↦ none k front
        | inr same ↦ ap (goes_on b n) same ∙ off
      ]

  split-stays : (before : List ℕ) (m : ℕ) (after : List ℕ) → all ≡ before ++ m ∷ after → is_remaining b.block prefix m ≡ true
  split-stays before m after split = remaining-among b.block prefix m (subst (λ ns. Among m ns) (sym split) (among-rest m before (m ∷ after) (inl refl)))

  -- past the numbers with which it doesn't go on
  walk-over : (links n : ℕ) (before after : List ℕ) → all ≡ before ++ after → ((m : ℕ) → Among m before → goes_on b n m ≡ false) → is_remaining b.block prefix n ≡ true → length b.block ≤ n + links →
      longest_walk b prefix links n (longest_tail b n) ≡ walk_over b n after
  walk-over links n before [] split none stays few = walk-done links n stays few (λ m among. none m (subst (λ ns. Among m ns) (split ∙ append-nil before) among))
  walk-over zero n before (m ∷ after) split none stays few =
      elim (cases_Bool (goes_on b n m)) [
        | inl on ↦
            let (past, keeps_it, lt) = goes-parts b n m on in
            let (low, high, new) = remaining-parts b.block prefix m (split-stays before m after split) in
            absurd (omega (arith, few, lt, high))
        | inr off ↦
            walk-over zero n (before ++ m ∷ []) after (split ∙ sym (append_assoc before (m ∷ []) after)) (none-push n before m none off) stays few
            ∙ sym (over-past b n m after off)
      ]
  walk-over (suc links) n before (m ∷ after) split none stays few =
      elim (cases_Bool (goes_on b n m)) [
        | inl on ↦
            let (past, keeps_it, lt) = goes-parts b n m on in
            walk-on links n before m after split none few on
            (walk-over links m (before ++ m ∷ []) after (split ∙ sym (append_assoc before (m ∷ []) after)) (none-behind before m after split) (split-stays before m after split) (omega (arith, few, lt)))
        | inr off ↦
            walk-over (suc links) n (before ++ m ∷ []) after (split ∙ sym (append_assoc before (m ∷ []) after)) (none-push n before m none off) stays few
            ∙ sym (over-past b n m after off)
      ]

  -- the longest walk from a number that remains, by one pass over all that does
  pub pass-walks : (n : ℕ) → is_remaining b.block prefix n ≡ true → walk_over b n all ≡ walk_after b (length b.block) n
  pass-walks n stays =
      sym (walk-over (length b.block) n [] all refl (λ m among. absurd among) stays (omega arith)) ∙ walk-static b prefix begins (length b.block) n stays (omega arith)

  -- if some number remains, the front of the chain does
  pub chain_front-remains : (n : ℕ) → is_remaining b.block prefix n ≡ true → is_remaining b.block prefix (chain_front b prefix) ≡ true
  chain_front-remains n stays = subst (λ m. is_remaining b.block prefix m ≡ true) (front-static b prefix begins) (front-heads b prefix n stays).0
