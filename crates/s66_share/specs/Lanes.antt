-- To be believed: what contracts see of a lane, of its thief and of a pass at it, and the law of what is left in a lane.
use Rattle.std.specs.Prelude.{ℕ, ◌≡◌, ◌+◌, List}
use Rattle.std.specs.declared.alloc.Global.{Global}
use Rattle.atomic_blocks.specs.Lent.{RowsId}
use Rattle.s66_isa.specs.{weigh}
use Rattle.s66_model.specs.{TicketOf}

-- which lane it is; of a thief this is all that is seen
abbrev pub LaneId : Type 0
LaneId = RowsId × Global

pub record LaneOf : Type 0 where
  pub id : LaneId
  -- what its owner put
  pub put : List TicketOf
  -- what its owner took, and the passes that were taken back
  pub taken : List TicketOf
  -- how many passes are out
  pub passes : ℕ
  -- a put needs no memory while `used` is below `room`
  pub used : ℕ
  pub room : ℕ

pub record PassOf : Type 0 where
  pub lane : LaneId
  -- which of the lane's passes it is, from 0
  pub number : ℕ
  -- what was stolen with it
  pub taken : List TicketOf

-- what was put is what was taken and what is left, each ticket as often: that holds however tickets are weighed
abbrev pub AreLeft : LaneOf → List TicketOf → Type 0
AreLeft lane left = (h : TicketOf → ℕ) → weigh h lane.put ≡ weigh h lane.taken + weigh h left
