-- What precedes a number by dependence: what it depends on, and what precedes one of these.
use Rattle.std.proofs.Common.{ℕ, zero, suc, ◌+◌, ◌-◌, ◌≤◌, ◌<◌, ◌≡◌, Bool, true, ◌&&◌, List, [], ◌∷◌, ◌++◌, length, arith, inl, inr, ◌⊎◌}
use Rattle.std.proofs.lemmas.Bool.{cases_Bool, or_cases, or_left, or_right, and_parts, and_from}
use Rattle.s66_isa.specs.{Instr, some_of, Among, numbers}
use Rattle.s66_isa.proofs.Lists.{rising-among}
use Rattle.s66_model.specs.{Problem, depends}
use Rattle.s66_model.proofs.LegalOrders.{depends-lt, depends-from}
use Rattle.s66_moments.specs.{Fact, IsNumber, PrecedesBy, Precedes, IsPlaced, IsTransitive, HasNoRing, precedes_over, precedes}
use Rattle.s66_moments.proofs.TableArcs.{some-found, found-some}

module _ (block : List Instr) where
  abbrev through : ℕ → ℕ → ℕ → ℕ → Bool
  through more m n k = precedes_over block more m k && depends block k n

  near : (more m n : ℕ) → depends block m n ≡ true → precedes_over block more m n ≡ true
  near zero m n h = h
  near (suc more) m n h = or_left (depends block m n) (some_of (through more m n) (numbers block)) h

  far : (more m k n : ℕ) → Among k (numbers block) → precedes_over block more m k ≡ true → depends block k n ≡ true → precedes_over block (suc more) m n ≡ true
  far more m k n among first then =
      or_right (depends block m n) (some_of (through more m n) (numbers block)) (found-some (through more m n) k (numbers block) among (and_from (precedes_over block more m k) (depends block k n) first then))

  -- the last of the numbers between
  last-between : (more m n : ℕ) → precedes_over block (suc more) m n ≡ true → (depends block m n ≡ true) ⊎ ((k : ℕ) × Among k (numbers block) × (precedes_over block more m k ≡ true) × (depends block k n ≡ true))
  last-between more m n h =
      elim (or_cases (depends block m n) (some_of (through more m n) (numbers block)) h) [
        | inl here ↦ inl here
        | inr past ↦
            let (k, among, both) = some-found (through more m n) (numbers block) past in
            let (first, then) = and_parts (precedes_over block more m k) (depends block k n) both in
            inr (k, among, first, then)
      ]

  one-more : (more m n : ℕ) → precedes_over block more m n ≡ true → precedes_over block (suc more) m n ≡ true
  one-more zero m n h = near 1 m n h
  one-more (suc more) m n h =
      elim (last-between more m n h) [
        | inl here ↦ near (suc (suc more)) m n here
        | inr past ↦ (let (k, among, first, then) = past in far (suc more) m k n among (one-more more m k first) then)
      ]

  more-between : (d more m n : ℕ) → precedes_over block more m n ≡ true → precedes_over block (d + more) m n ≡ true
  more-between zero more m n h = let e : zero + more ≡ more = omega arith in rw e h
  more-between (suc d) more m n h = let e : suc d + more ≡ suc (d + more) = omega arith in rw e (one-more (d + more) m n (more-between d more m n h))

  up : (more most m n : ℕ) → more ≤ most → precedes_over block more m n ≡ true → precedes_over block most m n ≡ true
  up more most m n le h = let e : most ≡ (most - more) + more = omega (arith, le) in rw e (more-between (most - more) more m n h)

  -- no more are between than there are numbers below n
  few-between : (more m n : ℕ) → precedes_over block more m n ≡ true → precedes_over block n m n ≡ true
  few-between zero m n h = near n m n h
  few-between (suc more) m n h =
      elim (last-between more m n h) [
        | inl here ↦ near n m n here
        | inr past ↦ (let (k, among, first, then) = past in below k n among (few-between more m k first) then)
      ]
    where
      below : (k n : ℕ) → Among k (numbers block) → precedes_over block k m k ≡ true → depends block k n ≡ true → precedes_over block n m n ≡ true
      below k zero among first then = absurd (omega (arith, depends-lt block k zero then))
      below k (suc n) among first then = far n m k (suc n) among (up k n m k (omega (arith, depends-lt block k (suc n) then)) first) then

  of-block : (k n : ℕ) → n ≤ length block → depends block k n ≡ true → Among k (numbers block)
  of-block k n high then = rising-among (length block) 1 k (depends-from block k n then) (omega (arith, high, depends-lt block k n then))

  pub precedes-near : (m n : ℕ) → depends block m n ≡ true → precedes block m n ≡ true
  precedes-near m n h = near (length block) m n h

  pub precedes-far : (m k n : ℕ) → n ≤ length block → precedes block m k ≡ true → depends block k n ≡ true → precedes block m n ≡ true
  precedes-far m k n high first then =
      up n (length block) m n high (few-between (suc (length block)) m n (far (length block) m k n (of-block k n high then) first then))

  pub precedes-cases : (m n : ℕ) → 1 ≤ n → n ≤ length block → precedes block m n ≡ true → (depends block m n ≡ true) ⊎ ((k : ℕ) × (1 ≤ k) × (k < n) × (precedes block m k ≡ true) × (depends block k n ≡ true))
  precedes-cases m n low high h =
      elim (last-between (length block) m n (one-more (length block) m n h)) [
        | inl here ↦ inl here
        | inr past ↦ (let (k, among, first, then) = past in inr (k, depends-from block k n then, depends-lt block k n then, first, then))
      ]

  rises : (more m n : ℕ) → precedes_over block more m n ≡ true → m < n
  rises zero m n h = depends-lt block m n h
  rises (suc more) m n h =
      elim (last-between more m n h) [
        | inl here ↦ depends-lt block m n here
        | inr past ↦ (let (k, among, first, then) = past in omega (arith, rises more m k first, depends-lt block k n then))
      ]

  -- and over all between the two
  joined : (more m k n : ℕ) → n ≤ length block → precedes block m k ≡ true → precedes_over block more k n ≡ true → precedes block m n ≡ true
  joined zero m k n high first then = precedes-far m k n high first then
  joined (suc more) m k n high first then =
      elim (last-between more k n then) [
        | inl here ↦ precedes-far m k n high first here
        | inr past ↦
            let (i, among, middle, last) = past in
            precedes-far m i n high (joined more m k i (omega (arith, high, depends-lt block i n last)) first middle) last
      ]

pub precedes-transitive : (b : Problem) → IsTransitive b (precedes b.block)
precedes-transitive b m k n is_m is_k is_n first then = joined b.block (length b.block) m k n is_n.1 first then

pub precedes-no_ring : (b : Problem) → HasNoRing b (precedes b.block)
precedes-no_ring b n is =
    elim (cases_Bool (precedes b.block n n)) [
      | inl ring ↦ absurd (omega (arith, rises b.block (length b.block) n n ring))
      | inr none ↦ none
    ]

-- the numbers are places by which it rises
pub precedes-placed : (b : Problem) → IsPlaced b (precedes b.block) (λ n. n)
precedes-placed b = (λ n is. is, λ m n is_m is_n h. rises b.block (length b.block) m n h)

-- what precedes by dependence precedes by whatever is known
module _ (b : Problem) (known : List Fact) where
  by-joined : (m : ℕ) (between : List ℕ) (k n : ℕ) → PrecedesBy b known m between k → depends b.block k n ≡ true → IsNumber b n → PrecedesBy b known m (between ++ k ∷ []) n
  by-joined m [] k n by then is = (by.0, by.1, (inl then, is))
  by-joined m (j ∷ js) k n by then is = (by.0, by.1, by-joined j js k n by.2 then is)

  over-known : (more m n : ℕ) → IsNumber b n → precedes_over b.block more m n ≡ true → Precedes b known m n
  over-known zero m n is h = ([], (inl h, is))
  over-known (suc more) m n is h =
      elim (last-between b.block more m n h) [
        | inl here ↦ ([], (inl here, is))
        | inr past ↦
            let (k, among, first, then) = past in
            let is_k : IsNumber b k = (depends-from b.block k n then, omega (arith, is.1, depends-lt b.block k n then)) in
            let (between, by) = over-known more m k is_k first in
            (between ++ k ∷ [], by-joined m between k n by then is)
      ]

  pub precedes-known : (m n : ℕ) → IsNumber b m → IsNumber b n → precedes b.block m n ≡ true → Precedes b known m n
  precedes-known m n is_m is_n h = over-known (length b.block) m n is_n h
