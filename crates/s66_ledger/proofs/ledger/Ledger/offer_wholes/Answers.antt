use Rattle.std.proofs.Common.{arith, ap, length}
use Rattle.s66_model.specs.{Ledger}
use Rattle.s66_ledger.proofs.Rounds.{offer-on}
use Rattle.s66_ledger.proofs.WholeOffers.{timed-next, all-timed}
use Rattle.s66_ledger.proofs.ledger.Ledger.offer_wholes.Goals as goal

pub loop-node-preserved : goal.loop-node-preserved
loop-node-preserved c =
    let old = c.loop-node.self in
    let new = c.offer_whole.new.self in
    record {
      offers = offer-on c.args.self.now old new c.loop-node.invariant.offers c.offer_whole.ensures.offers;
      timed = timed-next old new c.loop-node.node c.in_ok-offer_whole.ensures.timed c.loop-node.invariant.timed;
    }

pub returns-in_err-offer_whole-clause-offers : goal.returns-in_err-offer_whole-clause-offers
returns-in_err-offer_whole-clause-offers c =
    offer-on c.args.self.now c.loop-node.self c.offer_whole.new.self c.loop-node.invariant.offers c.offer_whole.ensures.offers

pub returns-clause-timed : goal.returns-clause-timed
returns-clause-timed c =
    let l = c.loop-node.self in
    let same = ap (λ (s : Ledger). length s.nodes) c.loop-node.invariant.offers.same in
    all-timed l.problem l.state (λ i lt. c.loop-node.invariant.timed i (omega (arith, lt, same, c.node_count-node-end.ensures, c.loop-node-test.false)))
