use Rattle.std.proofs.Common.{arith}
use Rattle.s66_isa.specs.{BLOCK_LIMIT}
use Rattle.s66_deep.specs.{no_tails, IsSmall}
use Rattle.s66_deep.proofs.Each.{each-set, each-filled}
use Rattle.s66_deep.proofs.floors.tails.cut_all.Goals as goal

pub loop-place-init : goal.loop-place-init
loop-place-init c = λ i.
    let (issue, (start, (first, (second, free)))) = c.default-those.ensures in
    let none = c.default-those.result in
    each-filled IsSmall no_tails BLOCK_LIMIT i none
    (record { issue = omega (arith, issue); start = omega (arith, start); first = omega (arith, first); second = omega (arith, second) })
    (record { issue = omega arith; start = omega arith; first = omega arith; second = omega arith })

pub loop-place-preserved : goal.loop-place-preserved
loop-place-preserved c = λ i. each-set IsSmall no_tails c.loop-place.those c.loop-place.place i c.cut.result c.loop-place.invariant c.cut.ensures
