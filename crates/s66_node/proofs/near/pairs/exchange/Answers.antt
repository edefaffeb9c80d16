use Rattle.std.proofs.Common.{arith}
use Rattle.s66_isa.specs.{BLOCK_LIMIT}
use Rattle.s66_node.proofs.Exchanged.{swap-reversed, reversed-le}
use Rattle.s66_node.proofs.near.pairs.exchange.Goals as goal

pub returns-then-second-first-clause-pairs : goal.returns-then-second-first-clause-pairs
returns-then-second-first-clause-pairs c = λ h.
    grind (arith, h, c.swap.ensures.after, c.if-second-first.true, c.saturating_sub.ensures, swap-reversed c.args.numbers.now c.args.place c.requires.place)

pub returns-then-first-second-clause-pairs : goal.returns-then-first-second-clause-pairs
returns-then-first-second-clause-pairs c = λ h.
    grind (arith, h, c.swap.ensures.after, c.if-second-first.false, c.if-first-second.true, c.saturating_add.ensures, swap-reversed c.args.numbers.now c.args.place c.requires.place, reversed-le c.args.numbers.now BLOCK_LIMIT c.requires.few, c.requires.few)

pub returns-else-first-second-clause-pairs : goal.returns-else-first-second-clause-pairs
returns-else-first-second-clause-pairs c = λ h.
    grind (arith, h, c.swap.ensures.after, c.if-second-first.false, c.if-first-second.false, swap-reversed c.args.numbers.now c.args.place c.requires.place)
