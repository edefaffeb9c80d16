-- To be believed: what is said of an old block and a new one.
use Rattle.std.specs.Prelude.{ℕ, Bool, true, false, ◌&&◌, ◌==◌, ◌+◌, not, if◌then◌else◌, List, [], ◌∷◌, ◌++◌, bytes_eq, length, nat_lt}
use Rattle.s66_isa.specs.{first_that, has, numbers, Instr}
use Rattle.s66_model.specs.{depends}
use Rattle.s66_line.specs.{Block, instrs_of, line_of}
use Rattle.s66_compare.specs.Pairing.{first_left, paired}
use Rattle.s66_compare.specs.declared.verdict.BlockVerdict.{BlockVerdict}
use Rattle.s66_compare.specs.declared.verdict.BlockVerdict.TheVariants.{NotLegal, OtherNew, OtherOld, Reordered, Same}

-- what is said, and the numbers of the old block's instructions in the order of the new one
pub record Judged : Type 0 where
  pub verdict : BlockVerdict
  pub order : List ℕ

-- n depends on a, which isn't among these numbers
abbrev pub is_missing : List Instr → List ℕ → ℕ → ℕ → Bool
is_missing block before n a = depends block a n && not (has a before)

-- the first number that is so; 0 if none is
abbrev pub first_missing : List Instr → List ℕ → ℕ → ℕ
first_missing block before n = first_that (is_missing block before n) (numbers block)

-- numbers that come one after the other after these: the first that comes too early, and on what it depends; or they keep every dependence
abbrev pub by_order : List Instr → BlockVerdict → (before : List ℕ) → List ℕ → BlockVerdict
by_order block kept before [] = kept
by_order block kept before (n ∷ ns) =
    if first_missing block before n == 0 then by_order block kept (before ++ n ∷ []) ns else NotLegal n (first_missing block before n)

-- an order that keeps every dependence
abbrev pub kept_verdict : List Instr → List ℕ → BlockVerdict
kept_verdict block order = if bytes_eq order (numbers block) then Same else Reordered

-- the first instruction of the new block that the old one lacks, else the first of the old one that the new one lacks, else the order
abbrev pub verdict_of : (old new : Block) → List ℕ → BlockVerdict
verdict_of old new order =
    if nat_lt (length order) (length (instrs_of new)) then OtherNew (line_of new (length order + 1))
    else (if first_left old order == 0 then by_order (instrs_of old) (kept_verdict (instrs_of old) order) [] order else OtherOld (line_of old (first_left old order)))

abbrev pub judged : (old new : Block) → Judged
judged old new = record { verdict = verdict_of old new (paired old new); order = paired old new }

-- the new block is the old one in an order that keeps every dependence
abbrev pub is_kept : BlockVerdict → Bool
is_kept Same = true
is_kept Reordered = true
is_kept verdict = false
