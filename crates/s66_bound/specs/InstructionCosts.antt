-- Used by contracts within the crate alone: what is stored of an instruction to find links, tails and work.
use Rattle.std.specs.Prelude.{ℕ, ◌+◌, ◌<◌, ◌≡◌, List, length, get_or}
use Rattle.s66_isa.specs.Table.{Reg}
use Rattle.s66_isa.specs.{Row, has_reg, registers_in}
use Rattle.s66_model.specs.{Problem, row_at, uses, tail}
use Rattle.s66_bound.specs.declared.cost.Cost.{Cost}

pub record IsCostOf (r : Row) (cost : Cost) : Type 0 where
  pub kind : cost.kind ≡ r.kind
  pub parcels : cost.parcels ≡ r.parcels
  pub writes : cost.writes.items ≡ r.writes
  -- the registers that it reads or writes
  pub used : (x : Reg) → has_reg x (registers_in cost.used) ≡ uses r x
  pub memory : cost.memory ≡ r.memory
  pub work : cost.work ≡ r.hold + 1
  pub tail : cost.tail ≡ tail r

-- those of a block, in order
pub record AreCosts (b : Problem) (costs : List Cost) : Type 0 where
  pub count : length costs ≡ length b.block
  pub each : (i : ℕ) (d : Cost) → i < length costs → IsCostOf (row_at b (i + 1)) (get_or costs i d)
