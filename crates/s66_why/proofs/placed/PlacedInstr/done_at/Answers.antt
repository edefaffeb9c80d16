use Rattle.std.proofs.Common.{if◌then◌else◌, arith}
use Rattle.s66_isa.specs.{same_reg}
use Rattle.s66_model.specs.{ResultAt}
use Rattle.s66_time.proofs.Loops.{greatest_more}
use Rattle.s66_why.proofs.placed.PlacedInstr.done_at.Goals as goal

pub loop-made-preserved : goal.loop-made-preserved
loop-made-preserved c = omega (
  arith,
  c.max-done.ensures,
  c.loop-made.invariant,
  c.time_in.ensures,
  greatest_more (λ (d : ResultAt). if same_reg d.reg c.args.register then d.time else 0) c.as_slice-made-items.result.now c.loop-made.made-index c.made-item.result c.loop-made-test.true c.made-item.is,
)
