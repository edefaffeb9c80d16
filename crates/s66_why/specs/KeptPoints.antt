-- Used by contracts within the crate alone: what is kept with an instruction at its place.
use Rattle.std.specs.Prelude.{ℕ, ◌≡◌, ◌≤◌, List}
use Rattle.s66_isa.specs.{greatest, registers_in, Row, has_reg}
use Rattle.s66_isa.specs.Table.{Reg}
use Rattle.s66_isa.specs.declared.registers.Registers.{Registers}
use Rattle.s66_model.specs.{ResultAt}
use Rattle.s66_time.specs.{TOTAL_LIMIT}

-- its times are in turn and small, the last of its results is the greatest, and the set has the registers that it reads
pub record IsKeptPoint (row : Row) (parcel issue start : ℕ) (results : List ResultAt) (last : ℕ) (reads : Registers) : Type 0 where
  pub turn : (parcel ≤ issue) × (issue ≤ start) × (start ≤ TOTAL_LIMIT)
  pub last_is : last ≡ greatest (λ (d : ResultAt). d.time) results
  pub reads_are : (r : Reg) → has_reg r (registers_in reads) ≡ has_reg r row.reads
