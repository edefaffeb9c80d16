use Rattle.s66_ledger.proofs.Leading.{leads-best}
use Rattle.s66_ledger.proofs.Rounds.{nothing-offered, offer-offers}
use Rattle.s66_ledger.proofs.ledger.Ledger.offer_order.Goals as goal

pub returns-clause-offers : goal.returns-clause-offers
returns-clause-offers c = offer-offers c.args.self.now c.offer.new.self 1 c.args.timed c.in_ok-offer.field-0 c.in_ok-offer.ensures.ok

pub returns-in_err-offer-clause-best : goal.returns-in_err-offer-clause-best
returns-in_err-offer-clause-best c =
    leads-best c.args.self.now c.offer.new.self (nothing-offered c.args.self.now c.offer.new.self c.in_err-offer.ensures.err).leads

pub returns-clause-best : goal.returns-clause-best
returns-clause-best c =
    leads-best c.args.self.now c.offer.new.self (offer-offers c.args.self.now c.offer.new.self 1 c.args.timed c.in_ok-offer.field-0 c.in_ok-offer.ensures.ok).leads
