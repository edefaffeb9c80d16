-- Used by contracts within the crate alone: what they see of a lane from which a worker steals.
use Rattle.std.specs.Prelude.{ℕ}
use Rattle.s66_share.specs.{LaneId}

pub record VictimOf : Type 0 where
  -- the place of the lane's owner among the workers, from 0
  pub place : ℕ
  pub lane : LaneId
