-- The head of a number by the tables: when the registers are done that it reads or writes.
use Rattle.std.proofs.Common.{ℕ, ◌+◌, ◌≤◌, ◌<◌, ◌≡◌, Bool, true, false, cond, max, List, length, get_or, drop, arith, eqb}
use Rattle.std.proofs.lemmas.Bool.{cond-true, cond-false}
use Rattle.std.proofs.lemmas.List.{at_drop_more}
use Rattle.s66_isa.specs.{Reg, greatest}
use Rattle.s66_isa.proofs.Lists.{greatest-le-greatest}
use Rattle.s66_model.specs.{Problem, row_at, points_of, next, done_of, uses, head, chain, longest_tail, HasLate}
use Rattle.s66_model.proofs.HeadByRegisters.{done_for, head-by-registers}

pub greatest-drop : {X : Type 0} (f : X → ℕ) (xs : List X) (i : ℕ) (d : X) → i < length xs → greatest f (drop i xs) ≡ max (f (get_or xs i d)) (greatest f (drop (i + 1) xs))
greatest-drop f xs i d lt = at_drop_more (greatest f) xs i d lt

pub done-used : (b : Problem) (prefix : List ℕ) (n : ℕ) (x : Reg) → uses (row_at b n) x ≡ true → done_for b prefix n x ≡ done_of (points_of b prefix) x
done-used b prefix n x is = cond-true {A = ℕ} (uses (row_at b n) x) (done_of (points_of b prefix) x) 0 is

pub done-unused : (b : Problem) (prefix : List ℕ) (n : ℕ) (x : Reg) → uses (row_at b n) x ≡ false → done_for b prefix n x ≡ 0
done-unused b prefix n x off = cond-false {A = ℕ} (uses (row_at b n) x) (done_of (points_of b prefix) x) 0 off

-- no number waits for longer than the last of the registers
pub head-le : (b : Problem) (prefix : List ℕ) (n : ℕ) (xs : List Reg) → HasLate b prefix xs → head (points_of b prefix) (row_at b n) ≤ max (next (points_of b prefix)) (greatest (done_of (points_of b prefix)) xs)
head-le b prefix n xs late =
    omega (arith, head-by-registers b prefix n xs late, greatest-le-greatest (done_for b prefix n) (done_of (points_of b prefix)) (λ x. at-most (uses (row_at b n) x) (done_of (points_of b prefix) x)) xs)
  where
    at-most : (used : Bool) (done : ℕ) → cond used done 0 ≤ done
    at-most true done = omega arith
    at-most false done = omega arith

-- THE FRONT OF A CHAIN

-- a chain that n heads is as great as any
abbrev pub heads_chain : Problem → List ℕ → ℕ → Bool
heads_chain b prefix n = eqb (head (points_of b prefix) (row_at b n) + longest_tail b n) (chain b prefix)
