-- Used by contracts within the crate alone: what a timed order keeps are the times of its points.
use Rattle.std.specs.Prelude.{ℕ, ◌≡◌, ◌≤◌, List, length, map, reverse}
use Rattle.s66_isa.specs.{BLOCK_LIMIT}
use Rattle.s66_model.specs.{Problem, Point, latest_result, points_of, total_of, IsLegal, fillers, len_at}
use Rattle.s66_time.specs.declared.timed.Times.{Times}

abbrev pub times_of : Point → Times
times_of p = record { parcel = p.parcel; issue = p.issue; start = p.start; done = latest_result p; free = p.free }

-- the oldest first
abbrev pub times_in : List Point → List Times
times_in s = map times_of (reverse s)

-- what is true of every timed order
pub record IsKeptTimed (b : Problem) (numbers : List ℕ) (times : List Times) (end filled : ℕ) : Type 0 where
  pub legal : IsLegal b.block numbers
  pub few : length numbers ≤ BLOCK_LIMIT
  pub kept : times ≡ times_in (points_of b numbers)
  pub total : end ≡ total_of b numbers
  pub packed : filled ≡ length (fillers 0 (map (len_at b.block) numbers))
