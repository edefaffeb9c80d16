use Rattle.s66_isa.specs.{row}
use Rattle.s66_isa.proofs.GoodRows.{row-good}
use Rattle.s66_isa.proofs.row.Row.of.Goals as goal

pub invariant_of-result : goal.invariant_of-result
unfolding row
invariant_of-result c =
    rw (c.kind.ensures, c.parcels.ensures.value, c.reads.ensures, c.writes_of.ensures, c.hold.ensures.value, c.memory.ensures) (row-good c.args.profile.now c.args.instr.now)
