use Rattle.std.proofs.Common.{arith, true≢false, sym}
use Rattle.s66_line.specs.{instrs_of}
use Rattle.s66_time.proofs.LongestBeginning.{all-front, front-legal, legal-all, legal-kept}
use Rattle.s66_time.proofs.graph.order.Order.new.Goals.{then-front-numbers-via-then-front-numbers, then-front-numbers-via-else-front-numbers+then-front-count}
use Rattle.s66_time.proofs.graph.order.Order.new.Goals as goal

pub returns-then-front-numbers-clause-taken : goal.returns-then-front-numbers-clause-taken
returns-then-front-numbers-clause-taken c = (
  λ is. absurd (true≢false (sym is)),
  λ legal.
      let all = legal-all (instrs_of c.args.block.now) c.args.numbers.now c.beginning_length-front.result c.beginning_length-front.ensures.front legal in
      elim c.then-front-numbers.branch [
        | then-front-numbers-via-then-front-numbers w ↦ absurd (omega arith)
        | then-front-numbers-via-else-front-numbers+then-front-count w ↦ absurd (omega arith)
      ],
)

pub invariant_of-result : goal.invariant_of-result
invariant_of-result c =
    let block = instrs_of c.args.block.now in
    let ns = c.args.numbers.now in
    let longest = c.beginning_length-front.ensures.front in
    let front = all-front block ns c.beginning_length-front.result longest (omega (arith, longest.within)) in
    let few = c.beginning_length-front.ensures.few in
    legal-kept block c.instrs_of.result.items ns c.copy_of.result.items c.instrs_of.ensures c.copy_of.ensures (omega arith)
    (front-legal block ns front (omega (arith, longest.within)))

pub returns-clause-meaning : goal.returns-clause-meaning
returns-clause-meaning c = (invariant_of-result c).meaning
