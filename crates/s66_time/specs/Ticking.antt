-- To be believed: what contracts see of a clock: what is timed, the numbers that are pushed, and what the last step cost.
use Rattle.std.specs.Prelude.{ℕ, ◌≡◌, ◌≤◌, List, map, reverse, length}
use Rattle.s66_isa.specs.{Kind, Profile, Row, row, BLOCK_LIMIT}
use Rattle.s66_model.specs.{Problem, Point, points_of, HaveDigits, IsBeginning}
use Rattle.s66_line.specs.{Block, instrs_of}
use Rattle.s66_time.specs.ClockWords.{AreKept, AreCopies}
use Rattle.s66_time.specs.KeptUnits.{kept_of}
use Rattle.s66_time.specs.LatestWords.{kept_in}
use Rattle.s66_time.specs.declared.copies.Copies.{Copies}
use Rattle.s66_time.specs.declared.mark_shape.MarkShape.{MarkShape}
use Rattle.s66_time.specs.declared.words.Words.{Words}
use Rattle.s66_time.specs.declared.step.Step.{Step}

pub record Ticking : Type 0 where
  pub block : Block
  pub profile : Profile
  pub numbers : List ℕ
  -- the words that the last push or undo read or wrote
  pub looks : ℕ

abbrev pub problem_of : Ticking → Problem
problem_of t = record { block = instrs_of t.block; profile = t.profile }

abbrev pub points : Ticking → List Point
points t = points_of (problem_of t) t.numbers

-- USED WITHIN THE CRATE ALONE

abbrev pub numbers_of : List Step → List ℕ
numbers_of steps = map (λ (k : Step). k.number) steps

-- what is true of every clock
pub record IsClock (b : Problem) (w : Words) (steps : List Step) : Type 0 where
  pub few : length b.block ≤ BLOCK_LIMIT
  pub begins : IsBeginning b.block (numbers_of steps)
  pub kept : AreKept b w (reverse steps)

pub record IsTicking (b : Problem) (w : Words) (steps : List Step) (copies : Copies) (rows : List Row) (shape : MarkShape) : Type 0 where
  pub clock : IsClock b w steps
  pub counted : AreCopies b.profile copies
  pub kept : (kind : Kind) → kept_in shape.kept kind ≡ kept_of b kind
  pub each : rows ≡ map (row b.profile) b.block
  pub digits : HaveDigits b.block
