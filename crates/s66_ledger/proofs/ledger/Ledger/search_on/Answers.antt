use Rattle.s66_ledger.proofs.Leading.{leads-on}
use Rattle.s66_ledger.proofs.Rounds.{offer-idle}
use Rattle.s66_ledger.proofs.ledger.Ledger.search_on.Goals as goal

pub search_rounds-requires-clause-idle : goal.search_rounds-requires-clause-idle
search_rounds-requires-clause-idle c =
    offer-idle c.take_back.new.self c.offer_wholes.new.self c.offer_wholes.ensures.offers c.in_ok-take_back.ensures.idle

pub returns-in_err-offer_wholes-clause-leads : goal.returns-in_err-offer_wholes-clause-leads
returns-in_err-offer_wholes-clause-leads c =
    leads-on c.args.self.now c.take_back.new.self c.offer_wholes.new.self c.take_back.ensures.leads c.offer_wholes.ensures.offers.leads

pub returns-in_err-search_rounds-clause-leads : goal.returns-in_err-search_rounds-clause-leads
returns-in_err-search_rounds-clause-leads c =
    leads-on c.args.self.now c.offer_wholes.new.self c.search_rounds.new.self
    (leads-on c.args.self.now c.take_back.new.self c.offer_wholes.new.self c.take_back.ensures.leads c.offer_wholes.ensures.offers.leads)
    c.search_rounds.ensures.leads

pub returns-clause-leads : goal.returns-clause-leads
returns-clause-leads c =
    leads-on c.args.self.now c.offer_wholes.new.self c.search_rounds.new.self
    (leads-on c.args.self.now c.take_back.new.self c.offer_wholes.new.self c.take_back.ensures.leads c.offer_wholes.ensures.offers.leads)
    c.search_rounds.ensures.leads
