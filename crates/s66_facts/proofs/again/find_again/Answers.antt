use Rattle.std.proofs.Common.{arith}
use Rattle.s66_facts.proofs.Settled.{all-settled}
use Rattle.s66_facts.proofs.Told.{rank-range}
use Rattle.s66_facts.proofs.again.find_again.Goals as goal

pub loop-round-init : goal.loop-round-init
loop-round-init c =
    record { right = c.requires.settled; up = λ n is le. absurd (omega (arith, le, (rank-range c.args.graph.now c.requires.ordered c.args.direction n is).0)) }

pub loop-round-preserved : goal.loop-round-preserved
loop-round-preserved c =
    record { right = c.settle_each-done.ensures.right c.loop-round.invariant.right; up = c.settle_each-done.ensures.more c.loop-round._round c.loop-round.invariant.up }

pub returns-then-are_all : goal.returns-then-are_all
returns-then-are_all c =
    all-settled c.args.direction c.args.graph.now c.requires.ordered c.args.from.now c.settle_each-done.new.times (λ n is. c.settle_each-done.ensures.right c.loop-round.invariant.right n is (c.are_all.ensures c.if-are_all.true n is))

pub returns : goal.returns
returns c =
    let old = c.loop-round.invariant in
    all-settled c.args.direction c.args.graph.now c.requires.ordered c.args.from.now c.loop-round.times (λ n is. old.right n is (old.up n is (omega (arith, (rank-range c.args.graph.now c.requires.ordered c.args.direction n is).1, c.loop-round-test.false, c.count-round-end.ensures.value))))
