-- What a number makes ready when it is placed: of those that depend on it, only such as do so directly.
use Rattle.std.specs.Cmp.{both_ways}
use Rattle.std.proofs.Common.{ℕ, ◌+◌, ◌-◌, ◌≤◌, ◌<◌, ◌≡◌, ◌≢◌, ◌⊎◌, Bool, true, false, true≢false, not, ◌&&◌, ◌||◌, ◌==◌, List, [], ◌∷◌, ◌++◌, length, get_or, map, filter, refl, sym, ap, subst, arith}
use Rattle.std.proofs.Common.{inl, inr, eqb, eqb-true, eq-eqb, append_assoc, ◌∙◌, append-nil}
use Rattle.std.proofs.lemmas.Bool.{and_parts, and_from, or_cases, or_parts, or_from, or_left, or_right, cases_eq, cases_Bool, not_from_false, not-true}
use Rattle.std.proofs.lemmas.List.{length-map}
use Rattle.s66_isa.specs.{BLOCK_LIMIT, Instr, has, Among, every, some_of, rising, numbers, Set, numbers_in, no_set}
use Rattle.s66_isa.proofs.Lists.{every-each, each-every, has-among, among-has}
use Rattle.s66_isa.proofs.Sets.{within-parts, within-from, filter-within, filter-same, numbers_in-filter}
use Rattle.s66_model.specs.{depends, needs, all_needs, is_ready, ready, GoesOn, IsBeginning}
use Rattle.s66_model.proofs.Beginnings.{length-rising}
use Rattle.s66_model.proofs.LegalOrders.{has-push, has_push-other, ready-parts, ready-from, needs-each, each-needs, depends-lt, depends-from}
use Rattle.s66_time.specs.{needs_of, is_direct, opens, all_opens}
use Rattle.s66_time.proofs.Readiness.{needs-depends, depends-needs, get_or-needs, needs-at, has-ready}

-- WHAT A NUMBER OPENS

-- what its next dependence needs isn't direct
pub direct-next : (direct later here : Bool) → ((direct && not here) && not later) ≡ (direct && not (here || later))
direct-next false later here = refl
direct-next true later false = refl
direct-next true later true = refl

none-some : (test : ℕ → Bool) (ns : List ℕ) → ((k : ℕ) → Among k ns → test k ≡ false) → some_of test ns ≡ false
none-some test [] h = refl
none-some test (n ∷ ns) h = or_from (test n) (some_of test ns) (h n (inl refl)) (none-some test ns (λ k among. h k (inr among)))

pub opens-at : (all : List (List ℕ)) (n : ℕ) → 1 ≤ n → n ≤ length all → get_or (all_opens all) (n - 1) [] ≡ opens all n
opens-at all n first last = get_or-needs (opens all) (length all) 1 (n - 1) (omega (arith, last, first)) ∙ ap (opens all) (omega (arith, first))

-- of sets that have them, there is one for each number
pub count-opens : (sets : List Set) (all : List (List ℕ)) → map numbers_in sets ≡ all_opens all → length sets ≡ length all
count-opens sets all are =
    sym (length-map sets numbers_in) ∙ (ap (λ (ns : List (List ℕ)). length ns) are ∙ (length-map (rising (length all) 1) (opens all) ∙ length-rising (length all) 1))

-- what n opens is among them
pub opens-range : (all : List (List ℕ)) (n m : ℕ) → has m (opens all n) ≡ true → (1 ≤ m) × (m ≤ length all)
opens-range all n m h =
    let (first, last, passes) = within-parts (is_direct all n) (length all + 1) m (sym (filter-within (is_direct all n) (length all) m) ∙ h) in
    (first, omega (arith, last))

-- by what each number needs directly
pub opens-from : (all : List (List ℕ)) (direct : List Set) (n : ℕ) → length direct ≡ length all → ((i : ℕ) → i < length direct → (m : ℕ) → has m (numbers_in (get_or direct i no_set)) ≡ is_direct all m (i + 1)) →
    filter (λ m. has n (numbers_in (get_or direct (m - 1) no_set))) (rising (length direct) 1) ≡ opens all n
opens-from all direct n count are =
    filter-same (λ m. has n (numbers_in (get_or direct (m - 1) no_set))) (is_direct all n) (length direct) 1
    (λ m first last. are (m - 1) (omega (arith, first, last)) n ∙ ap (is_direct all n) (omega (arith, first)))
    ∙ ap (λ k. filter (is_direct all n) (rising k 1)) count

-- IN A BLOCK

pub count-needs : (block : List Instr) → length (all_needs block) ≡ length block
count-needs block = length-map (numbers block) (needs block) ∙ length-rising (length block) 1

-- what n needs is of the block
pub needs-range : (block : List Instr) (n : ℕ) → 1 ≤ n → n ≤ length block → (k : ℕ) → has k (needs_of (all_needs block) n) ≡ true → (1 ≤ k) × (k ≤ length (all_needs block))
needs-range block n first last k is =
    let dep = needs-depends block k n (sym (ap (has k) (needs-at block n first last)) ∙ is) in
    (depends-from block k n dep, omega (arith, depends-lt block k n dep, last, count-needs block))

-- what n opens depends on it
pub opens-depends : (block : List Instr) (n m : ℕ) → has m (opens (all_needs block) n) ≡ true → (m ≤ length block) × (depends block n m ≡ true)
opens-depends block n m h =
    let all = all_needs block in
    let (first, last, passes) = within-parts (is_direct all n) (length all + 1) m (sym (filter-within (is_direct all n) (length all) m) ∙ h) in
    let inside : m ≤ length block = omega (arith, last, count-needs block) in
    let (needed, lone) = and_parts (has n (needs_of all m)) (not (some_of (λ k. has n (needs_of all k)) (needs_of all m))) passes in
    (inside, needs-depends block n m (sym (ap (has n) (needs-at block m first inside)) ∙ needed))

-- what depends on n, but on nothing else that does, n opens
pub depends-opens : (block : List Instr) (n m : ℕ) → m ≤ length block → depends block n m ≡ true → ((k : ℕ) → depends block k m ≡ true → depends block n k ≡ false) → has m (opens (all_needs block) n) ≡ true
depends-opens block n m last dep lone =
    let all = all_needs block in
    let first : 1 ≤ m = omega (arith, depends-lt block n m dep) in
    let needed : needs_of all m ≡ needs block m = needs-at block m first last in
    filter-within (is_direct all n) (length all) m
    ∙ within-from (is_direct all n) (length all + 1) m first (omega (arith, last, count-needs block))
    (and_from (has n (needs_of all m)) (not (some_of (λ k. has n (needs_of all k)) (needs_of all m)))
    (ap (has n) needed ∙ depends-needs block n m last dep)
    (not_from_false (some_of (λ k. has n (needs_of all k)) (needs_of all m)) (none-some (λ k. has n (needs_of all k)) (needs_of all m) none)))
  where
    none : (k : ℕ) → Among k (needs_of (all_needs block) m) → has n (needs_of (all_needs block) k) ≡ false
    none k among =
        let first : 1 ≤ m = omega (arith, depends-lt block n m dep) in
        let on = needs-depends block k m (sym (ap (has k) (needs-at block m first last)) ∙ among-has k (needs_of (all_needs block) m) among) in
        let below : k ≤ length block = omega (arith, depends-lt block k m on, last) in
        elim (cases_Bool (has n (needs_of (all_needs block) k))) [
          | inl is ↦ absurd (true≢false (sym (needs-depends block n k (sym (ap (has n) (needs-at block k (depends-from block k m on) below)) ∙ is)) ∙ lone k on))
          | inr isnt ↦ isnt
        ]

-- BEFORE AND AFTER A NUMBER

pub push-cases : (m n : ℕ) (ns : List ℕ) → has m (ns ++ n ∷ []) ≡ true → (m ≡ n) ⊎ (has m ns ≡ true)
push-cases m n ns h =
    elim (or_cases (eqb m n) (has m ns) (sym (has-push m n ns) ∙ h)) [ inl here ↦ inl (eqb-true m n here) | inr before ↦ inr before ]

push-parts : (m n : ℕ) (ns : List ℕ) → has m (ns ++ n ∷ []) ≡ false → (m ≢ n) × (has m ns ≡ false)
push-parts m n ns h =
    let (past, new) = or_parts (eqb m n) (has m ns) (sym (has-push m n ns) ∙ h) in
    (λ here. true≢false (sym (eq-eqb m n here) ∙ past), new)

pub push-more : (m n : ℕ) (ns : List ℕ) → has m ns ≡ true → has m (ns ++ n ∷ []) ≡ true
push-more m n ns h = has-push m n ns ∙ or_right (eqb m n) (has m ns) h

-- all that a ready number depends on is placed
ready-needs : (block : List Instr) (prefix : List ℕ) (n : ℕ) → is_ready block prefix n ≡ true → (a : ℕ) → depends block a n ≡ true → has a prefix ≡ true
ready-needs block prefix n is a dep =
    let (low, high, new, met) = ready-parts block prefix n is in
    needs-each block prefix n n met a (depends-from block a n dep) (omega (arith, depends-lt block a n dep)) dep

-- and so is all that a placed one does
placed-needs : (block : List Instr) (front ns : List ℕ) → ((k a : ℕ) → has k front ≡ true → depends block a k ≡ true → has a front ≡ true) → GoesOn block front ns →
    (k a : ℕ) → has k (front ++ ns) ≡ true → depends block a k ≡ true → has a (front ++ ns) ≡ true
placed-needs block front [] keeps goes k a there dep =
    subst (λ xs. has a xs ≡ true) (sym (append-nil front)) (keeps k a (subst (λ xs. has k xs ≡ true) (append-nil front) there) dep)
placed-needs block front (n ∷ ns) keeps goes k a there dep =
    let e : (front ++ n ∷ []) ++ ns ≡ front ++ n ∷ ns = append_assoc front (n ∷ []) ns in
    subst (λ xs. has a xs ≡ true) e (placed-needs block (front ++ n ∷ []) ns more goes.1 k a (subst (λ xs. has k xs ≡ true) (sym e) there) dep)
  where
    more : (k a : ℕ) → has k (front ++ n ∷ []) ≡ true → depends block a k ≡ true → has a (front ++ n ∷ []) ≡ true
    more k a there dep =
        elim (push-cases k n front there) [
          | inl here ↦ push-more a n front (ready-needs block front n goes.0 a (subst (λ x. depends block a x ≡ true) here dep))
          | inr before ↦ push-more a n front (keeps k a before dep)
        ]

module _ (block : List Instr) (prefix : List ℕ) (n : ℕ) (begins : IsBeginning block prefix) (now : is_ready block prefix n ≡ true) where
  abbrev after : List ℕ
  after = prefix ++ n ∷ []

  abbrev all : List (List ℕ)
  all = all_needs block

  new : has n prefix ≡ false
  new = (ready-parts block prefix n now).2

  -- what depends on n isn't placed before it
  unplaced : (m : ℕ) → depends block n m ≡ true → has m prefix ≡ false
  unplaced m dep =
      elim (cases_Bool (has m prefix)) [
        | inl is ↦ absurd (true≢false (sym (placed-needs block [] prefix (λ k a is dep. absurd (true≢false (sym is))) begins m n is dep) ∙ new))
        | inr isnt ↦ isnt
      ]

  -- nor ready
  not_yet : (m : ℕ) → depends block n m ≡ true → is_ready block prefix m ≡ false
  not_yet m dep =
      elim (cases_Bool (is_ready block prefix m)) [
        | inl is ↦ absurd (true≢false (sym (ready-needs block prefix m is n dep) ∙ new))
        | inr isnt ↦ isnt
      ]

  -- what else was ready stays so
  still : (m : ℕ) → is_ready block prefix m ≡ true → m ≢ n → is_ready block after m ≡ true
  still m is past =
      let (low, high, fresh, met) = ready-parts block prefix m is in
      ready-from block after m low high (has_push-other m n prefix past ∙ fresh) (each-needs block after m (λ a dep. push-more a n prefix (ready-needs block prefix m is a dep)) m)

  -- what depends on n is ready once all is placed on which it does
  opened : (m : ℕ) → m ≤ length block → depends block n m ≡ true → ((a : ℕ) → depends block a m ≡ true → has a after ≡ true) → is_ready block after m ≡ true
  opened m last dep met =
      ready-from block after m (omega (arith, depends-lt block n m dep)) last
      (has_push-other m n prefix (λ here. omega (arith, here, depends-lt block n m dep)) ∙ unplaced m dep) (each-needs block after m met m)

  -- what is ready after n was so before, or n opens it
  before-or : (m : ℕ) → is_ready block after m ≡ true → (is_ready block prefix m ≡ true) ⊎ (has m (opens all n) ≡ true)
  before-or m is =
      let (low, high, fresh, met) = ready-parts block after m is in
      elim (cases_Bool (depends block n m)) [
        | inl dep ↦ inr (depends-opens block n m high dep lone)
        | inr apart ↦ inl (ready-from block prefix m low high (push-parts m n prefix fresh).1 (each-needs block prefix m (placed apart) m))
      ]
    where
      lone : (k : ℕ) → depends block k m ≡ true → depends block n k ≡ false
      lone k dep =
          elim (push-cases k n prefix (ready-needs block after m is k dep)) [
            | inl here ↦ elim (cases_Bool (depends block n k)) [
              | inl on ↦ absurd (omega (arith, here, depends-lt block n k on))
              | inr off ↦ off
            ]
            | inr before ↦ elim (cases_Bool (depends block n k)) [
              | inl on ↦ absurd (true≢false (sym before ∙ unplaced k on))
              | inr off ↦ off
            ]
          ]

      placed : depends block n m ≡ false → (a : ℕ) → depends block a m ≡ true → has a prefix ≡ true
      placed apart a dep =
          elim (push-cases a n prefix (ready-needs block after m is a dep)) [
            | inl here ↦ absurd (true≢false (sym (subst (λ x. depends block x m ≡ true) here dep) ∙ apart))
            | inr before ↦ before
          ]

  -- what is ready after n: what else was ready, and what n opens if all that it needs is placed
  pub after-is : (was placed : List ℕ) → was ≡ ready block prefix → ((m : ℕ) → has m placed ≡ has m after) →
      (m : ℕ) → ((has m was && not (has m placed)) || (has m (opens all n) && every (λ a. has a placed) (needs_of all m))) ≡ is_ready block after m
  after-is was placed is same m =
      let met = every (λ a. has a placed) (needs_of all m) in
      both_ways ((has m was && not (has m placed)) || (has m (opens all n) && met)) (is_ready block after m)
      (λ h. elim (or_cases (has m was && not (has m placed)) (has m (opens all n) && met) h) [
        | inl kept ↦
            let (there, fresh) = and_parts (has m was) (not (has m placed)) kept in
            still m (sym (was-ready) ∙ there) (push-parts m n prefix (sym (same m) ∙ not-true (has m placed) fresh)).0
        | inr more ↦
            let (found, each) = and_parts (has m (opens all n)) met more in
            let (last, dep) = opens-depends block n m found in
            opened m last dep (λ a on. sym (same a) ∙ every-each (λ a. has a placed) a (needs_of all m) each (has-among a (needs_of all m) (needed last a on)))
      ])
      (λ h. elim (before-or m h) [
        | inl before ↦
            or_left (has m was && not (has m placed)) (has m (opens all n) && met)
            (and_from (has m was) (not (has m placed)) (was-ready ∙ before) (not_from_false (has m placed) (same m ∙ (ready-parts block after m h).2)))
        | inr found ↦
            or_right (has m was && not (has m placed)) (has m (opens all n) && met)
            (and_from (has m (opens all n)) met found
            (each-every (λ a. has a placed) (needs_of all m) (λ a among. same a ∙ ready-needs block after m h a (on h a among))))
      ])
    where
      was-ready : has m was ≡ is_ready block prefix m
      was-ready = ap (has m) is ∙ has-ready block prefix m

      needed : m ≤ length block → (a : ℕ) → depends block a m ≡ true → has a (needs_of all m) ≡ true
      needed last a on = ap (has a) (needs-at block m (omega (arith, depends-lt block a m on)) last) ∙ depends-needs block a m last on

      on : is_ready block after m ≡ true → (a : ℕ) → Among a (needs_of all m) → depends block a m ≡ true
      on h a among =
          let (low, high, fresh, all_met) = ready-parts block after m h in
          needs-depends block a m (sym (ap (has a) (needs-at block m low high)) ∙ among-has a (needs_of all m) among)

  -- what was ready before n: n, and what is ready after it but isn't opened by it
  pub before-is : (will : List ℕ) → will ≡ ready block after → (m : ℕ) → (m == n || (has m will && not (has m (opens all n)))) ≡ is_ready block prefix m
  before-is will is m =
      both_ways (m == n || (has m will && not (has m (opens all n)))) (is_ready block prefix m)
      (λ h. elim (or_cases (m == n) (has m will && not (has m (opens all n))) h) [
        | inl here ↦ subst (λ x. is_ready block prefix x ≡ true) (sym (eqb-true m n here)) now
        | inr kept ↦
            let (there, closed) = and_parts (has m will) (not (has m (opens all n))) kept in
            elim (before-or m (sym will-ready ∙ there)) [
              | inl before ↦ before
              | inr found ↦ absurd (true≢false (sym found ∙ not-true (has m (opens all n)) closed))
            ]
      ])
      (λ h. elim (cases_eq m n) [
        | inl here ↦ or_left (m == n) (has m will && not (has m (opens all n))) (eq-eqb m n here)
        | inr past ↦
            or_right (m == n) (has m will && not (has m (opens all n)))
            (and_from (has m will) (not (has m (opens all n))) (will-ready ∙ still m h past) (not_from_false (has m (opens all n)) (closed h)))
      ])
    where
      will-ready : has m will ≡ is_ready block after m
      will-ready = ap (has m) is ∙ has-ready block after m

      closed : is_ready block prefix m ≡ true → has m (opens all n) ≡ false
      closed h =
          elim (cases_Bool (has m (opens all n))) [
            | inl found ↦ absurd (true≢false (sym h ∙ not_yet m (opens-depends block n m found).1))
            | inr isnt ↦ isnt
          ]

-- a set has exactly what is ready
pub ready-set : (s : Set) (block : List Instr) (prefix : List ℕ) → length block ≤ BLOCK_LIMIT → ((m : ℕ) → has m (numbers_in s) ≡ is_ready block prefix m) → numbers_in s ≡ ready block prefix
ready-set s block prefix few h =
    numbers_in-filter s (is_ready block prefix) (length block) few (λ m. h m ∙ (sym (has-ready block prefix m) ∙ filter-within (is_ready block prefix) (length block) m))
