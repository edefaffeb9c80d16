-- Used by contracts: what is kept of the beginning of an order.
use Rattle.std.specs.Prelude.{ℕ, ◌+◌, ◌*◌, ◌≡◌, ◌≤◌, ◌<◌, List, [], length, get_or, map, reverse}
use Rattle.s66_isa.specs.{Instr, Profile, has, Row, row, BLOCK_LIMIT, numbers_in, Set}
use Rattle.s66_model.specs.{Problem, Point, points_of, depends, IsBeginning}

-- the most minor cycles that an order of a block takes: each instruction adds at most 104
abbrev pub TOTAL_LIMIT : ℕ
TOTAL_LIMIT = 104 * BLOCK_LIMIT

-- what the times of an instruction need of a problem once its row is known: the profile
abbrev pub with_profile : Profile → Problem
with_profile profile = record { block = []; profile = profile }

-- the points of some numbers, no more than a block has, under some profile
pub record AreTimed (points : List Point) : Type 0 where
  pub problem : Problem
  pub numbers : List ℕ
  pub few : length numbers ≤ BLOCK_LIMIT
  pub timed : reverse points ≡ points_of problem numbers

-- the numbers that each instruction of the block depends on are marked
pub record AreNeeds (block : List Instr) (all : List Set) : Type 0 where
  pub count : length all ≡ length block
  pub each : (i : ℕ) (d : Set) → i < length block → (m : ℕ) → 1 ≤ m → m ≤ BLOCK_LIMIT → has m (numbers_in (get_or all i d)) ≡ depends block m (i + 1)

-- what a prefix keeps: its block and profile with their rows, the needs, which numbers are placed, the numbers, and their points with the oldest first
pub record IsPrefix (block : List Instr) (profile : Profile) (rows : List Row) (all : List Set) (placed : Set) (numbers : List ℕ) (points : List Point) : Type 0 where
  pub some : 1 ≤ length block
  pub few : length block ≤ BLOCK_LIMIT
  pub begins : IsBeginning block numbers
  pub known : rows ≡ map (row profile) block
  pub needed : AreNeeds block all
  pub marked : (m : ℕ) → 1 ≤ m → m ≤ BLOCK_LIMIT → has m (numbers_in placed) ≡ has m numbers
  pub timed : reverse points ≡ points_of (record { block = block; profile = profile }) numbers
