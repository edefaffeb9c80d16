-- Every order takes at least a time if each either does or has an earlier one that takes less than it.
use Rattle.std.proofs.Common.{ℕ, zero, suc, ◌+◌, ◌*◌, ◌-◌, ◌≤◌, ◌<◌, ◌≡◌, ◌⊎◌, List, [], ◌∷◌, ◌++◌, length, sym, ap, arith, inl, inr, ◌∙◌}
use Rattle.s66_isa.specs.{Instr}
use Rattle.s66_model.specs.{Problem, total_of, GoesOn, IsOrder, IsEarlier}
use Rattle.s66_model.proofs.LegalOrders.{ready-parts}

-- AN ORDER AS A NUMBER, by digits below a base

power : ℕ → ℕ → ℕ
power base zero = 1
power base (suc k) = base * power base k

rank : ℕ → List ℕ → ℕ
rank base [] = 0
rank base (n ∷ ns) = n * power base (length ns) + rank base ns

abbrev Digits : ℕ → List ℕ → Type 0
Digits base [] = Unit {0}
Digits base (n ∷ ns) = (n < base) × Digits base ns

digits_out : (n d p r : ℕ) → r < p → n * p + r < (n + 1 + d) * p
digits_out n d p r k = omega arith

digit_arith : (n base p r : ℕ) → n < base → r < p → n * p + r < base * p
digit_arith n base p r h k =
    let e : base ≡ n + 1 + (base - (n + 1)) = omega arith in
    rw e (digits_out n (base - (n + 1)) p r k)

rank-below : (base : ℕ) (ns : List ℕ) → Digits base ns → rank base ns < power base (length ns)
unfolding rank power
rank-below base [] h = omega arith
rank-below base (n ∷ ns) h = digit_arith n base (power base (length ns)) (rank base ns) h.0 (rank-below base ns h.1)

first_arith : (n m p r r' : ℕ) → n < m → r < p → n * p + r < m * p + r'
first_arith n m p r r' h k = omega (arith, digit_arith n m p r h k)

-- an earlier order has a smaller number
rank-earlier : (base : ℕ) (ns ms : List ℕ) → Digits base ns → length ns ≡ length ms → IsEarlier ns ms → rank base ns < rank base ms
unfolding rank power
rank-earlier base [] ms d e h = absurd h
rank-earlier base (n ∷ ns) [] d e h = absurd h
rank-earlier base (n ∷ ns) (m ∷ ms) d e h =
    let same : length ns ≡ length ms = omega arith in
    elim h [
      | inl lt ↦ (let p : power base (length ns) ≡ power base (length ms) = ap (power base) same in
          rw (← p) (first_arith n m (power base (length ns)) (rank base ns) (rank base ms) lt (rank-below base ns d.1)))
      | inr past ↦ rw (← same, past.0) (omega (arith, rank-earlier base ns ms d.1 same past.1))
    ]

goes-digits : (block : List Instr) (there ns : List ℕ) → GoesOn block there ns → Digits (suc (length block)) ns
goes-digits block there [] h = tt
goes-digits block there (n ∷ ns) h =
    (omega (arith, (ready-parts block there n h.0).1), goes-digits block (there ++ n ∷ []) ns h.1)

-- DESCENT among the orders that begin with a prefix

-- an earlier order that takes less than low
abbrev pub HasEarlier : Problem → ℕ → List ℕ → List ℕ → Type 0
HasEarlier b low prefix order =
    (rest : List ℕ) × IsOrder b.block (prefix ++ rest) × (total_of b (prefix ++ rest) < low) × IsEarlier (prefix ++ rest) order

module _ (b : Problem) (low : ℕ) (prefix : List ℕ) (step : (rest : List ℕ) → IsOrder b.block (prefix ++ rest) → (low ≤ total_of b (prefix ++ rest)) ⊎ HasEarlier b low prefix (prefix ++ rest)) where
  fall : (fuel : ℕ) (rest : List ℕ) → IsOrder b.block (prefix ++ rest) → rank (suc (length b.block)) (prefix ++ rest) < fuel → low ≤ total_of b (prefix ++ rest)
  fall zero rest legal h = absurd (omega arith)
  fall (suc fuel) rest legal h =
      elim (step rest legal) [
        | inl done ↦ done
        | inr earlier ↦
            (let base : ℕ = suc (length b.block) in
            let other : List ℕ = prefix ++ earlier.0 in
            let less : rank base other < rank base (prefix ++ rest) = rank-earlier base other (prefix ++ rest) (goes-digits b.block [] other earlier.1.0) (earlier.1.1 ∙ sym legal.1) earlier.3 in
            omega (arith, fall fuel earlier.0 earlier.1 (omega (arith, less, h)), earlier.2))
      ]

  -- no order has earlier ones without end
  pub descent : (rest : List ℕ) → IsOrder b.block (prefix ++ rest) → low ≤ total_of b (prefix ++ rest)
  descent rest legal = fall (suc (rank (suc (length b.block)) (prefix ++ rest))) rest legal (omega arith)

pub earlier-append : (ns ms rest : List ℕ) → IsEarlier ns ms → IsEarlier (ns ++ rest) (ms ++ rest)
earlier-append [] ms rest h = absurd h
earlier-append (n ∷ ns) [] rest h = absurd h
earlier-append (n ∷ ns) (m ∷ ms) rest h =
    elim h [
      | inl lt ↦ inl lt
      | inr past ↦ inr (past.0, earlier-append ns ms rest past.1)
    ]
