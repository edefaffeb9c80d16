use Rattle.std.proofs.Common.{◌≤◌, arith}
use Rattle.s66_isa.specs.{BLOCK_LIMIT}
use Rattle.s66_deep.specs.{TAIL_LIMIT}
use Rattle.s66_deep.proofs.Each.{each-set, each-filled}
use Rattle.s66_deep.proofs.floors.tables.column.Goals as goal

pub loop-place-init : goal.loop-place-init
loop-place-init c = λ i. each-filled (λ word. word ≤ TAIL_LIMIT) 0 BLOCK_LIMIT i 0 (omega arith) (omega arith)

pub loop-place-preserved : goal.loop-place-preserved
loop-place-preserved c = λ i. each-set (λ word. word ≤ TAIL_LIMIT) 0 c.loop-place.words c.loop-place.place i c.after.result c.loop-place.invariant c.after.ensures
