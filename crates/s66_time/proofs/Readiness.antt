-- Readiness by what is placed and by what each number needs.
use Rattle.std.specs.Cmp.{both_ways}
use Rattle.std.proofs.Common.{ℕ, zero, suc, ◌+◌, ◌-◌, ◌≤◌, ◌<◌, ◌≡◌, Bool, true, false, not, ◌&&◌, ◌||◌, ◌==◌, IsTrue, ◌↔◌, List, [], ◌∷◌, length, get_or, map, refl, sym, ap, arith, leb, ltb}
use Rattle.std.proofs.Common.{eqb-true, ◌∙◌, le-ltb, lt-ltb}
use Rattle.std.proofs.lemmas.Bool.{and_parts, and_from, and_left, not_from_false, not-true}
use Rattle.s66_isa.specs.{Instr, has, rising, every, instr_at}
use Rattle.s66_isa.proofs.Lists.{every-each, each-every, has-among, among-has}
use Rattle.s66_isa.proofs.Sets.{within, within-parts, within-from, filter-every, filter-within}
use Rattle.s66_model.specs.{conflict, depends, needs, all_needs, needs_met, is_ready, ready}
use Rattle.s66_model.proofs.LegalOrders.{ready-parts, ready-from, needs-each, each-needs, depends-lt, depends-from}

-- WHAT A NUMBER NEEDS

-- nothing depends on itself or on a later number
pub depends-later : (block : List Instr) (n m : ℕ) → n ≤ m → depends block m n ≡ false
depends-later block n m le = and_left (ltb m n) (conflict (instr_at block m) (instr_at block n)) (le-ltb m n le)

-- it depends on an earlier one if the two conflict
pub depends-conflict : (block : List Instr) (m n : ℕ) → m < n → depends block m n ≡ conflict (instr_at block m) (instr_at block n)
depends-conflict block m n lt = rw (lt-ltb m n lt) refl

pub needs-depends : (block : List Instr) (m n : ℕ) → has m (needs block n) ≡ true → depends block m n ≡ true
needs-depends block m n h = (within-parts (λ a. depends block a n) (length block + 1) m (sym (filter-within (λ a. depends block a n) (length block) m) ∙ h)).2

pub depends-needs : (block : List Instr) (m n : ℕ) → n ≤ length block → depends block m n ≡ true → has m (needs block n) ≡ true
depends-needs block m n last h =
    filter-within (λ a. depends block a n) (length block) m
    ∙ within-from (λ a. depends block a n) (length block + 1) m (depends-from block m n h) (omega (arith, depends-lt block m n h)) h

-- WHAT IS READY

-- readiness looks at the numbers placed by whether they are
needs_met-same : (block : List Instr) (xs ys : List ℕ) (n k : ℕ) → ((m : ℕ) → has m xs ≡ has m ys) → needs_met block xs n k ≡ needs_met block ys n k
needs_met-same block xs ys n zero same = refl
needs_met-same block xs ys n (suc k) same = rw (same (suc k), needs_met-same block xs ys n k same) refl

pub is_ready-same : (block : List Instr) (xs ys : List ℕ) (n : ℕ) → ((m : ℕ) → has m xs ≡ has m ys) → is_ready block xs n ≡ is_ready block ys n
is_ready-same block xs ys n same = rw (same n, needs_met-same block xs ys n n same) refl

pub has-ready : (block : List Instr) (prefix : List ℕ) (n : ℕ) → has n (ready block prefix) ≡ is_ready block prefix n
has-ready block prefix n =
    both_ways (has n (ready block prefix)) (is_ready block prefix n)
    (λ h. (within-parts (is_ready block prefix) (length block + 1) n (sym (filter-within (is_ready block prefix) (length block) n) ∙ h)).2)
    (λ h.
    let (first, last, new, met) = ready-parts block prefix n h in
    filter-within (is_ready block prefix) (length block) n ∙ within-from (is_ready block prefix) (length block + 1) n first (omega (arith, last)) h)

-- of numbers that are there in another list as well
pub has-ready_same : (block : List Instr) (prefix taken found : List ℕ) (n : ℕ) → found ≡ ready block prefix → ((m : ℕ) → has m prefix ≡ has m taken) → has n found ≡ is_ready block taken n
has-ready_same block prefix taken found n is same = ap (has n) is ∙ (has-ready block prefix n ∙ is_ready-same block prefix taken n same)

-- BY THE LISTS OF WHAT EACH NUMBER NEEDS

-- n isn't placed, and all that it needs is
abbrev pub is_free : List (List ℕ) → List ℕ → ℕ → Bool
is_free all prefix n = not (has n prefix) && every (λ m. has m prefix) (get_or all (n - 1) [])

-- if a test says whether all of them are placed
pub every-tested : (prefix needed : List ℕ) (met : Bool) → (IsTrue met ↔ ((m : ℕ) → has m needed ≡ true → has m prefix ≡ true)) → every (λ m. has m prefix) needed ≡ met
every-tested prefix needed met tells =
    both_ways (every (λ m. has m prefix) needed) met
    (λ each. tells.1 (λ m is. every-each (λ m. has m prefix) m needed each (has-among m needed is)))
    (λ is. each-every (λ m. has m prefix) needed (λ m among. tells.0 is m (among-has m needed among)))

-- of number n that isn't placed, if a test says whether all that it needs is
free-tested : (all : List (List ℕ)) (prefix : List ℕ) (n : ℕ) (met : Bool) → has n prefix ≡ false → (IsTrue met ↔ ((m : ℕ) → has m (get_or all (n - 1) []) ≡ true → has m prefix ≡ true)) → is_free all prefix n ≡ met
free-tested all prefix n met new tells = rw new (every-tested prefix (get_or all (n - 1) []) met tells)

pub get_or-needs : (f : ℕ → List ℕ) (k low i : ℕ) → i < k → get_or (map f (rising k low)) i [] ≡ f (low + i)
get_or-needs f zero low i lt = absurd (omega arith)
get_or-needs f (suc k) low zero lt = ap f (omega arith)
get_or-needs f (suc k) low (suc i) lt = get_or-needs f k (suc low) i (omega arith) ∙ ap f (omega arith)

pub needs-at : (block : List Instr) (n : ℕ) → 1 ≤ n → n ≤ length block → get_or (all_needs block) (n - 1) [] ≡ needs block n
needs-at block n first last = get_or-needs (needs block) (length block) 1 (n - 1) (omega (arith, last)) ∙ ap (needs block) (omega arith)

pub is_free-ready : (block : List Instr) (prefix : List ℕ) (n : ℕ) → 1 ≤ n → n ≤ length block → is_free (all_needs block) prefix n ≡ is_ready block prefix n
is_free-ready block prefix n first last =
    ap (λ ns. not (has n prefix) && every (λ m. has m prefix) ns) (needs-at block n first last)
    ∙ both_ways (not (has n prefix) && every (λ m. has m prefix) (needs block n)) (is_ready block prefix n)
    (λ h.
    let (new, met) = and_parts (not (has n prefix)) (every (λ m. has m prefix) (needs block n)) h in
    ready-from block prefix n first last (not-true (has n prefix) new)
    (each-needs block prefix n (λ a dep. every-each (λ m. has m prefix) a (needs block n) met (has-among a (needs block n) (depends-needs block a n last dep))) n))
    (λ h.
    let (low, high, new, met) = ready-parts block prefix n h in
    and_from (not (has n prefix)) (every (λ m. has m prefix) (needs block n)) (not_from_false (has n prefix) new)
    (each-every (λ m. has m prefix) (needs block n) (λ m among.
    let dep = needs-depends block m n (among-has m (needs block n) among) in
    needs-each block prefix n n met m (depends-from block m n dep) (omega (arith, depends-lt block m n dep)) dep)))

-- BY WHAT IS STILL TO BE LOOKED AT

open-free : (low high placed met : Bool) → ((low && (high && true)) && not placed) && (not placed && met) ≡ low && (high && (not placed && met))
open-free false high placed met = refl
open-free true false placed met = refl
open-free true true true met = refl
open-free true true false met = refl

-- of all numbers that aren't placed, the free ones
pub free-rest : (all : List (List ℕ)) (prefix rest : List ℕ) (k m : ℕ) → has m rest ≡ (has m (rising k 1) && not (has m prefix)) → (has m rest && is_free all prefix m) ≡ within (is_free all prefix) (k + 1) m
free-rest all prefix rest k m is =
    rw (is, ap (has m) (sym (filter-every k 1)), filter-within (λ n. true) k m) (open-free (leb 1 m) (ltb m (k + 1)) (has m prefix) (every (λ n. has n prefix) (get_or all (m - 1) [])))

next-free : (found later free : Bool) → ((free || found) || (later && free)) ≡ (found || free)
next-free true later true = refl
next-free true later false = refl
next-free false later true = refl
next-free false true false = refl
next-free false false false = refl

next-found : (here found later free met : Bool) → (here ≡ true → free ≡ met) → (((here && met) || found) || (later && free)) ≡ (found || ((here || later) && free))
next-found false found later free met h = refl
next-found true found later free met h = rw (sym (h refl)) (next-free found later free)

-- a number that passes is found, and one that fails is not
pub and_with : (b met : Bool) → met ≡ true → b ≡ (b && met)
and_with false met is = refl
and_with true met is = sym is

pub or_with : (b met x : Bool) → met ≡ false → x ≡ ((b && met) || x)
or_with false met x is = refl
or_with true met x is = sym (ap (λ y. y || x) is)

-- the next number is found if it passes
pub found-next : (test : ℕ → Bool) (found more rest later : List ℕ) (n : ℕ) (passes : Bool) → rest ≡ n ∷ later → test n ≡ passes → ((m : ℕ) → has m more ≡ ((m == n && passes) || has m found)) →
    (m : ℕ) → (has m more || (has m later && test m)) ≡ (has m found || (has m rest && test m))
found-next test found more rest later n passes is tells adds m =
    ap (λ b. b || (has m later && test m)) (adds m)
    ∙ (next-found (m == n) (has m found) (has m later) (test m) passes (λ here. ap test (eqb-true m n here) ∙ tells)
    ∙ ap (λ ns. has m found || (has m ns && test m)) (sym is))

-- if all that it needs is placed
pub found-free : (all : List (List ℕ)) (prefix found more rest later : List ℕ) (n k : ℕ) (met : Bool) → rest ≡ n ∷ later → has n prefix ≡ false →
    (IsTrue met ↔ ((m : ℕ) → has m (get_or all (n - 1) []) ≡ true → has m prefix ≡ true)) →
    ((m : ℕ) → has m more ≡ ((m == n && met) || has m found)) →
    ((m : ℕ) → (has m found || (has m rest && is_free all prefix m)) ≡ within (is_free all prefix) (k + 1) m) →
    (m : ℕ) → (has m more || (has m later && is_free all prefix m)) ≡ within (is_free all prefix) (k + 1) m
found-free all prefix found more rest later n k met is new tells adds before m =
    found-next (is_free all prefix) found more rest later n met is (free-tested all prefix n met new tells) adds m ∙ before m
