-- Used by contracts of what computes floors: what of a floor is known before anything is placed, and which registers keep a chain from starting at the next slot.
use Rattle.std.specs.Prelude.{ℕ, zero, suc, ◌+◌, ◌-◌, ◌≡◌, ◌≤◌, ◌<◌, ◌==◌, if◌then◌else◌, List, [], ◌∷◌, length, get_or, true, false, filter}
use Rattle.s66_isa.specs.{Reg, greatest, first_that, Among, Write, has_reg, numbers}
use Rattle.s66_model.specs.Timing.{Problem, row_at, points_of, next, done_of}
use Rattle.s66_model.specs.LegalOrder.{remaining}
use Rattle.s66_model.specs.Leaves.{tail, uses, link, is_linked, longest, head, chain}

-- C, A CHAIN

-- the time of the longest walk from n along the links to later numbers, none of them placed
abbrev pub longest_tail : Problem → ℕ → ℕ
longest_tail b n = longest b [] (length b.block) n

-- the longest walk from n that goes on with m, 0 if they have no link
abbrev pub walk_to : Problem → ℕ → ℕ → ℕ
walk_to b n m = if is_linked b n m then link (row_at b n) (row_at b m) + longest_tail b m else 0

-- the greatest longest tail of what remains
abbrev pub tail_remaining : Problem → List ℕ → ℕ
tail_remaining b prefix = greatest (longest_tail b) (remaining b.block prefix)

-- the greatest chain that starts when x is done, at a number that reads or writes it; 0 if no such number remains
abbrev pub chain_by : Problem → List ℕ → Reg → ℕ
chain_by b prefix x =
    greatest (λ n. if uses (row_at b n) x then done_of (points_of b prefix) x + longest_tail b n else 0) (remaining b.block prefix)

-- among the registers is each that is done after the next slot
abbrev pub HasLate : Problem → List ℕ → List Reg → Type 0
HasLate b prefix xs = (x : Reg) → next (points_of b prefix) < done_of (points_of b prefix) x → has_reg x xs ≡ true

-- among the registers is each that the block writes
abbrev pub HasWritten : Problem → List Reg → Type 0
HasWritten b xs = (n : ℕ) → 1 ≤ n → n ≤ length b.block → (w : Write) → Among w (row_at b n).writes → has_reg w.reg xs ≡ true

-- THE PRINTED CHAIN

-- the number after n on its longest walk, the lowest that keeps it; 0 if it ends with n
abbrev pub walk_next : Problem → ℕ → ℕ
walk_next b n =
    if tail (row_at b n) == longest_tail b n then 0
    else first_that (λ m. link (row_at b n) (row_at b m) + longest_tail b m == longest_tail b n) (filter (is_linked b n) (numbers b.block))

-- the numbers after n on its longest walk, at most this many
abbrev pub walk_after : Problem → ℕ → ℕ → List ℕ
walk_after b zero n = []
walk_after b (suc links) n =
    elim (walk_next b n == 0) [
      | true ↦ []
      | false ↦ walk_next b n ∷ walk_after b links (walk_next b n)
    ]

-- the lowest number that heads a greatest chain
abbrev pub chain_front : Problem → List ℕ → ℕ
chain_front b prefix =
    first_that (λ n. head (points_of b prefix) (row_at b n) + longest_tail b n == chain b prefix) (remaining b.block prefix)

-- P, THE PARCELS

-- how much longer the tail of n is than its parcels
abbrev pub spare : Problem → ℕ → ℕ
spare b n = tail (row_at b n) - (row_at b n).parcels

-- A TABLE

-- a word for each number of the block, at the place below it: f of the number
abbrev pub HasWords : Problem → (ℕ → ℕ) → List ℕ → Type 0
HasWords b f words = (n : ℕ) → 1 ≤ n → n ≤ length b.block → get_or words (n - 1) 0 ≡ f n
