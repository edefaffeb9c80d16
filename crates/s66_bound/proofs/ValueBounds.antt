-- Chains by late registers, the greatest of all leaves, and that each is a lower bound of all orders that go on from a beginning.
use Rattle.std.proofs.Common.{ℕ, ◌+◌, ◌-◌, ◌≤◌, ◌<◌, ◌≡◌, max, cond, ltb, List, [], ◌∷◌, ◌++◌, length, length-append, true, true≢false, refl, sym, arith, inl, inr, ◌∙◌, lt-ltb, eq-eqb}
use Rattle.std.proofs.lemmas.Bool.{cases_lt, cond_both}
use Rattle.s66_isa.specs.{greatest, Among, all_kinds, has_reg}
use Rattle.s66_isa.specs.Table.{Reg}
use Rattle.s66_isa.proofs.Lists.{le-greatest, greatest-le}
use Rattle.s66_isa.proofs.SameRegister.{has_reg-le}
use Rattle.s66_model.specs.{Problem, row_at, points_of, next, done_of, total_of, IsLegal, IsBeginning, IsIncomplete, IsComplete, is_remaining, remaining, Leaf, value, uses, chain, load, parcels}
use Rattle.s66_model.specs.{MayStand, floor, floor_value, longest_tail, tail_remaining, chain_by, HasWritten}
use Rattle.s66_model.proofs.Beginnings.{beginning-front}
use Rattle.s66_model.proofs.ChainParts.{by-le, chain-parts}
use Rattle.s66_model.proofs.Longest.{chain-static}
use Rattle.s66_model.proofs.LateRegisters.{has-late}
use Rattle.s66_model.proofs.FloorParts.{rest-some}
use Rattle.s66_model.proofs.FloorWalk.{floor-sorts}
use Rattle.s66_model.proofs.Floors.{some-remains, floor-stands}
use Rattle.s66_model.proofs.Remaining.{legal-parts, order-has, remaining-among, remaining-parts}
use Rattle.s66_model.proofs.Trees.{leaf-sound}
use Rattle.s66_bound.specs.{AreRegisters}

pub chain-covered : (b : Problem) (prefix : List ℕ) (xs : List Reg) → IsBeginning b.block prefix → IsIncomplete b.block prefix → HasWritten b xs →
    chain b prefix ≡ max (next (points_of b prefix) + tail_remaining b prefix) (greatest (chain_by b prefix) xs)
chain-covered b prefix xs begins short covers =
    let (n, stays) = some-remains b.block prefix begins short in
    chain-parts b prefix xs n begins stays (has-late b prefix xs covers begins)

-- a chain from a register is no longer than the time when it is done and the longest tail
by-tail : (b : Problem) (prefix : List ℕ) (x : Reg) → chain_by b prefix x ≤ done_of (points_of b prefix) x + tail_remaining b prefix
by-tail b prefix x =
    greatest-le (λ n. cond (uses (row_at b n) x) (done_of (points_of b prefix) x + longest_tail b n) 0) (done_of (points_of b prefix) x + tail_remaining b prefix) (remaining b.block prefix) (λ n among.
    let reached : longest_tail b n ≤ tail_remaining b prefix = le-greatest (longest_tail b) n (remaining b.block prefix) among in
    cond_both (uses (row_at b n) x) (done_of (points_of b prefix) x + longest_tail b n) 0 (λ k. k ≤ done_of (points_of b prefix) x + tail_remaining b prefix)
    (λ used. omega (arith, reached))
    (λ not_used. omega arith))

by-chain : (b : Problem) (prefix : List ℕ) (x : Reg) → IsBeginning b.block prefix → chain_by b prefix x ≤ chain b prefix
by-chain b prefix x begins =
    greatest-le (λ n. cond (uses (row_at b n) x) (done_of (points_of b prefix) x + longest_tail b n) 0) (chain b prefix) (remaining b.block prefix) (λ n among. omega (arith, by-le b prefix x n among, chain-static b prefix begins))

-- a register that isn't so late makes no chain that is greater than most
pub late-covers : (b : Problem) (prefix : List ℕ) (xs late : List Reg) (most least tail : ℕ) → IsBeginning b.block prefix → IsIncomplete b.block prefix → HasWritten b xs → AreRegisters xs →
    tail ≡ tail_remaining b prefix → most ≡ max least (next (points_of b prefix) + tail) → ((x : Reg) → x.digit ≤ 7 → has_reg x late ≡ ltb (most - tail) (done_of (points_of b prefix) x)) →
    max most (greatest (chain_by b prefix) late) ≡ max least (chain b prefix)
late-covers b prefix xs late most least tail begins short covers are is_tail is_most is_late =
    let each : greatest (chain_by b prefix) late ≤ chain b prefix = greatest-le (chain_by b prefix) (chain b prefix) late (λ x among. by-chain b prefix x begins) in
    let others : greatest (chain_by b prefix) xs ≤ max most (greatest (chain_by b prefix) late) =
    greatest-le (chain_by b prefix) (max most (greatest (chain_by b prefix) late)) xs (λ x among.
    elim (cases_lt (most - tail) (done_of (points_of b prefix) x)) [
      | inl lt ↦ omega (arith, has_reg-le (chain_by b prefix) x late (is_late x (are x among) ∙ lt-ltb (most - tail) (done_of (points_of b prefix) x) lt))
      | inr early ↦ omega (arith, early, by-tail b prefix x, is_tail, is_most)
    ])
    in
    omega (arith, each, others, is_tail, is_most, chain-covered b prefix xs begins short covers)

-- THE GREATEST

pub floor-greatest : (b : Problem) (prefix : List ℕ) (most loads last : ℕ) → IsBeginning b.block prefix → IsIncomplete b.block prefix → most ≡ chain b prefix → loads ≡ greatest (load b prefix) all_kinds → last ≡ parcels b prefix →
    max most (max loads last) ≡ floor_value b prefix
floor-greatest b prefix most loads last begins short e1 e2 e3 =
    rw (e1, e2, e3) (sym (floor-sorts b prefix begins short))

-- LOWER BOUNDS

pub leaf-bound : (b : Problem) (prefix rest : List ℕ) (leaf : Leaf) → MayStand b prefix leaf → IsLegal b.block (prefix ++ rest) → value b prefix leaf ≤ total_of b (prefix ++ rest)
leaf-bound b prefix rest leaf may legal = (let (begins, completes) = legal-parts b.block prefix rest legal in leaf-sound b prefix rest leaf begins completes may)

pub floor-bound : (b : Problem) (prefix rest : List ℕ) → IsLegal b.block (prefix ++ rest) → floor_value b prefix ≤ total_of b (prefix ++ rest)
floor-bound b prefix rest legal =
    let (begins, completes) = legal-parts b.block prefix rest legal in
    leaf-bound b prefix rest (floor b prefix) (floor-stands b prefix begins) legal

-- WHERE NOTHING REMAINS

pub whole-none : (b : Problem) (prefix : List ℕ) → IsBeginning b.block prefix → length (remaining b.block prefix) ≡ 0 → IsComplete b.block prefix
whole-none b prefix begins none =
    let (rest, legal) = beginning-front b.block prefix begins in
    elim (cases_lt (length prefix) (length b.block)) [
      | inl short ↦ absurd (omega (arith, none, rest-some b prefix begins short))
      | inr past ↦ omega (arith, past, legal.whole, length-append prefix rest)
    ]

pub some-short : (b : Problem) (prefix : List ℕ) → IsBeginning b.block prefix → 0 < length (remaining b.block prefix) → IsIncomplete b.block prefix
some-short b prefix begins some =
    let (rest, legal) = beginning-front b.block prefix begins in
    elim (cases_lt (length prefix) (length b.block)) [
      | inl short ↦ short
      | inr past ↦ absurd (none (remaining b.block prefix) some (λ n among. all-placed (omega (arith, past, legal.whole, length-append prefix rest)) n (remaining-among b.block prefix n among)))
    ]
  where
    all-placed : length prefix ≡ length b.block → (n : ℕ) → is_remaining b.block prefix n ≡ true → ⊥
    all-placed whole n stays =
        let (low, high, new) = remaining-parts b.block prefix n stays in
        true≢false (sym (order-has b.block prefix (begins, whole) n low high) ∙ new)

    none : (ns : List ℕ) → 0 < length ns → ((n : ℕ) → Among n ns → ⊥) → ⊥
    none [] lt h = absurd (omega (arith, lt))
    none (n ∷ ns) lt h = h n (inl refl)

pub floor-whole : (b : Problem) (prefix : List ℕ) → IsComplete b.block prefix → floor_value b prefix ≡ total_of b prefix
floor-whole b prefix whole = rw (floor, eq-eqb (length prefix) (length b.block) whole) refl
