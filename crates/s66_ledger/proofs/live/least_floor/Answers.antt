use Rattle.std.proofs.Common.{◌∙◌, sym, arith}
use Rattle.s66_ledger.proofs.LiveFloors.{least-live, least-dead}
use Rattle.s66_ledger.proofs.live.least_floor.Goals.{then-is_live, else-is_live}
use Rattle.s66_ledger.proofs.live.least_floor.Goals as goal

pub loop-i-preserved : goal.loop-i-preserved
loop-i-preserved c = elim c.if-is_live.branch [
  | then-is_live w ↦ omega (arith, least-live c.args.nodes.now c.args.value c.loop-i.i _ c.loop-i-test.true (sym c.is_live.ensures ∙ w.if-is_live.true), c.loop-i.invariant, w.least-is, w.min-least.ensures)
  | else-is_live w ↦ omega (arith, least-dead c.args.nodes.now c.args.value c.loop-i.i _ c.loop-i-test.true (sym c.is_live.ensures ∙ w.if-is_live.false), c.loop-i.invariant, w.least-is)
]
