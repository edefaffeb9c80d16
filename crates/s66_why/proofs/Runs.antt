-- A run of equal letters is written over the front of others, as `draw` fills a row of a chart.
use Rattle.std.specs.List.{range_with_len}
use Rattle.std.proofs.Common.{ℕ, zero, suc, ◌+◌, ◌-◌, ◌<◌, ◌≤◌, ◌≡◌, List, [], ◌++◌, ◌∷◌, min, replicate, drop, map, refl, ap, arith, inl, inr, lt-ltb, le-ltb, le-leb, eq-eqb, ne_eqb}
use Rattle.std.proofs.lemmas.Bool.{cases_lt, cases_eq, lt-leb}
use Rattle.s66_why.specs.{Activity, letter, until, runs, IsInOrder}

-- past the end of a run the others stay
until-past : (others : ℕ → ℕ) (letter end from n : ℕ) → end ≤ from → map others (range_with_len from n) ≡ map (until end letter others) (range_with_len from n)
until-past others letter end from zero le = refl
until-past others letter end from (suc n) le =
    rw (le-ltb from end le) (ap (λ letters. others from ∷ letters) (until-past others letter end (from + 1) n (omega arith)))

pub until-filled : (others : ℕ → ℕ) (letter end from n m : ℕ) → m ≡ min (end - from) n →
    replicate m letter ++ drop m (map others (range_with_len from n)) ≡ map (until end letter others) (range_with_len from n)
until-filled others letter end from zero m is = let none : m ≡ 0 = omega arith in rw none refl
until-filled others letter end from (suc n) zero is = until-past others letter end from (suc n) (omega arith)
until-filled others letter end from (suc n) (suc m) is =
    rw (lt-ltb from end (omega arith)) (ap (λ letters. letter ∷ letters) (until-filled others letter end (from + 1) n m (omega arith)))

pub one-letter : (letter from n : ℕ) → replicate n letter ≡ map (λ cycle. letter) (range_with_len from n)
one-letter letter from zero = refl
one-letter letter from (suc n) = ap (λ letters. letter ∷ letters) (one-letter letter (from + 1) n)

-- THE RUNS SHOW THE LETTERS

before-issue : (a : Activity) (cycle : ℕ) → IsInOrder a → cycle < a.issue → runs a cycle ≡ letter a cycle
before-issue a cycle order lt =
    rw (lt-ltb cycle a.issue lt, ne_eqb cycle a.issue (λ e. omega arith), le-ltb a.issue cycle (omega arith), lt-leb a.start cycle (omega arith), lt-leb a.finish cycle (omega arith)) refl

at-issue : (a : Activity) (cycle : ℕ) → cycle ≡ a.issue → runs a cycle ≡ letter a cycle
at-issue a cycle is =
    rw (le-ltb cycle a.issue (omega arith), lt-ltb cycle (a.issue + 1) (omega arith), eq-eqb cycle a.issue is) refl

after-issue : (a : Activity) (cycle : ℕ) → a.issue < cycle → runs a cycle ≡ letter a cycle
after-issue a cycle past =
    rw (le-ltb cycle a.issue (omega arith), le-ltb cycle (a.issue + 1) (omega arith), ne_eqb cycle a.issue (λ e. omega arith), lt-ltb a.issue cycle past)
    (elim (cases_lt cycle a.start) [
      | inl waits ↦ rw (lt-ltb cycle a.start waits) refl
      | inr started ↦
          rw (le-ltb cycle a.start started, le-leb a.start cycle started)
          (elim (cases_lt cycle a.finish) [
            | inl works ↦ rw (lt-ltb cycle a.finish works) refl
            | inr finished ↦ rw (le-ltb cycle a.finish finished, le-leb a.finish cycle finished) refl
          ])
    ])

runs-letter : (a : Activity) (cycle : ℕ) → IsInOrder a → runs a cycle ≡ letter a cycle
runs-letter a cycle order =
    elim (cases_lt cycle a.issue) [
      | inl before ↦ before-issue a cycle order before
      | inr late ↦
          elim (cases_eq cycle a.issue) [
            | inl is ↦ at-issue a cycle is
            | inr apart ↦ after-issue a cycle (grind (arith, late, apart))
          ]
    ]

pub runs-letters : (a : Activity) (cycles : List ℕ) → IsInOrder a → map (runs a) cycles ≡ map (letter a) cycles
runs-letters a [] order = refl
runs-letters a (cycle ∷ cycles) order = rw (runs-letter a cycle order, runs-letters a cycles order) refl
