-- A list of times of which one is changed, and the order in which `settle_each` looks at numbers.
use Rattle.std.proofs.Common.{ℕ, zero, suc, ◌+◌, ◌-◌, ◌≤◌, ◌<◌, ◌≡◌, ◌≢◌, ◌⊎◌, true, List, length, get_or, set, ap, arith, inl, inr, ◌∙◌, get_or-set_same, get_or-set_other}
use Rattle.s66_isa.proofs.Lists.{cases_le}
use Rattle.s66_moments.specs.{IsNumber, place_by}
use Rattle.s66_moments.proofs.Rings.{places}
use Rattle.s66_facts.specs.{Direction, Forward, Backward, Times, before_in, Ground, IsAcyclic, sooner, rank, nth_number, no_times, times_at}

pub set-same : (times : List Times) (n : ℕ) (t : Times) → 1 ≤ n → n ≤ length times → times_at (set times (n - 1) t) n ≡ t
set-same times zero t low high = absurd (omega (arith, low))
set-same times (suc j) t low high =
    let e : suc j - 1 ≡ j = omega arith in
    ap (λ i. get_or (set times i t) j no_times) e ∙ get_or-set_same times j t no_times (omega (arith, high))

pub set-other : (times : List Times) (n k : ℕ) (t : Times) → 1 ≤ n → 1 ≤ k → k ≢ n → times_at (set times (n - 1) t) k ≡ times_at times k
set-other times n zero t low one differ = absurd (omega (arith, one))
set-other times n (suc i) t low one differ = get_or-set_other times (n - 1) i t no_times (λ e. differ (omega (arith, e, low)))

-- BY RANKS

module _ (g : Ground) (ordered : IsAcyclic g) where
  abbrev place : ℕ → ℕ
  place = place_by g.problem (before_in g.marks)

  place-less : (m n : ℕ) → IsNumber g.problem m → IsNumber g.problem n → before_in g.marks m n ≡ true → place m < place n
  place-less m n is_m is_n first = (places g.problem (before_in g.marks) ordered.transitive ordered.no_ring).1 m n is_m is_n first

  place-range : (n : ℕ) → IsNumber g.problem n → IsNumber g.problem (place n)
  place-range n is = (places g.problem (before_in g.marks) ordered.transitive ordered.no_ring).0 n is

  pub rank-less : (d : Direction) (m n : ℕ) → IsNumber g.problem m → IsNumber g.problem n → sooner d (before_in g.marks) m n ≡ true → rank d g m < rank d g n
  rank-less Forward m n is_m is_n first = place-less m n is_m is_n first
  rank-less Backward m n is_m is_n last = omega (arith, place-less n m is_n is_m last, (place-range m is_m).1)

  pub rank-range : (d : Direction) (n : ℕ) → IsNumber g.problem n → IsNumber g.problem (rank d g n)
  rank-range Forward n is = place-range n is
  rank-range Backward n is = (let (low, high) = place-range n is in (omega (arith, high), omega (arith, low)))

-- IN TURN: whether a number is among the first so many that are looked at

abbrev pub IsSeen : Direction → (count n position : ℕ) → Type 0
IsSeen Forward count n position = n ≤ position
IsSeen Backward count n position = count < n + position

pub nth-range : (d : Direction) (count position : ℕ) → position < count → (1 ≤ nth_number d count position) × (nth_number d count position ≤ count)
nth-range Forward count position less = (omega arith, omega (arith, less))
nth-range Backward count position less = (omega (arith, less), omega arith)

pub seen-none : (d : Direction) (count n : ℕ) → 1 ≤ n → n ≤ count → IsSeen d count n 0 → ⊥
seen-none Forward count n low high seen = omega (arith, low, seen)
seen-none Backward count n low high seen = omega (arith, high, seen)

pub seen-cases : (d : Direction) (count n position : ℕ) → position < count → IsSeen d count n (position + 1) → IsSeen d count n position ⊎ (nth_number d count position ≡ n)
seen-cases Forward count n position less seen =
    elim (cases_le n position) [
      | inl past ↦ inl past
      | inr here ↦ inr (omega (arith, seen, here))
    ]
seen-cases Backward count n position less seen =
    elim (cases_le (n + position) count) [
      | inl here ↦ inr (omega (arith, seen, here, less))
      | inr past ↦ inl past
    ]

pub seen-all : (d : Direction) (count n position : ℕ) → 1 ≤ n → n ≤ count → count ≤ position → IsSeen d count n position
seen-all Forward count n position low high end = omega (arith, high, end)
seen-all Backward count n position low high end = omega (arith, low, end)
