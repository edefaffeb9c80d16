use Rattle.s66_ledger.proofs.Leading.{leads-best}
use Rattle.s66_ledger.proofs.Rounds.{offer-on}
use Rattle.s66_ledger.proofs.ledger.Ledger.offer_schedules.Goals as goal

pub returns-in_err-offer_schedule-clause-best : goal.returns-in_err-offer_schedule-clause-best
returns-in_err-offer_schedule-clause-best c = leads-best c.args.self.now c.offer_schedule.new.self c.offer_schedule.ensures.offers.leads

pub returns-in_err-offer_schedule-2-clause-offers : goal.returns-in_err-offer_schedule-2-clause-offers
returns-in_err-offer_schedule-2-clause-offers c =
    offer-on c.args.self.now c.offer_schedule.new.self c.offer_schedule-2.new.self c.offer_schedule.ensures.offers c.offer_schedule-2.ensures.offers

pub returns-in_err-offer_schedule-2-clause-best : goal.returns-in_err-offer_schedule-2-clause-best
returns-in_err-offer_schedule-2-clause-best c =
    leads-best c.args.self.now c.offer_schedule-2.new.self
    (offer-on c.args.self.now c.offer_schedule.new.self c.offer_schedule-2.new.self c.offer_schedule.ensures.offers c.offer_schedule-2.ensures.offers).leads

pub returns-clause-offers : goal.returns-clause-offers
returns-clause-offers c =
    offer-on c.args.self.now c.offer_schedule.new.self c.offer_schedule-2.new.self c.offer_schedule.ensures.offers c.offer_schedule-2.ensures.offers

pub returns-clause-best : goal.returns-clause-best
returns-clause-best c =
    leads-best c.args.self.now c.offer_schedule-2.new.self
    (offer-on c.args.self.now c.offer_schedule.new.self c.offer_schedule-2.new.self c.offer_schedule.ensures.offers c.offer_schedule-2.ensures.offers).leads
