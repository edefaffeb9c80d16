use Rattle.s66_model.specs.{Retire, Retired}
use Rattle.s66_ledger.proofs.Leading.{leads-on, leads-still, leads-best, event-leads}
use Rattle.s66_ledger.proofs.ledger.Ledger.search.Goals as goal

pub returns-in_err-search_on-clause-best : goal.returns-in_err-search_on-clause-best
returns-in_err-search_on-clause-best c = leads-best c.args.self.now c.search_on.new.self c.search_on.ensures.leads

pub returns-in_err-retire-clause-leads : goal.returns-in_err-retire-clause-leads
returns-in_err-retire-clause-leads c =
    leads-on c.args.self.now c.search_on.new.self c.retire.new.self c.search_on.ensures.leads (leads-still c.search_on.new.self c.retire.new.self c.in_err-retire.ensures.err)

pub returns-in_err-retire-clause-best : goal.returns-in_err-retire-clause-best
returns-in_err-retire-clause-best c =
    leads-best c.args.self.now c.retire.new.self
    (leads-on c.args.self.now c.search_on.new.self c.retire.new.self c.search_on.ensures.leads (leads-still c.search_on.new.self c.retire.new.self c.in_err-retire.ensures.err))

pub returns-clause-leads : goal.returns-clause-leads
returns-clause-leads c =
    leads-on c.args.self.now c.search_on.new.self c.retire.new.self c.search_on.ensures.leads (event-leads c.search_on.new.self c.retire.new.self (Retire 1) Retired c.in_ok-retire.ensures.ok)

pub returns-clause-best : goal.returns-clause-best
returns-clause-best c =
    leads-best c.args.self.now c.retire.new.self
    (leads-on c.args.self.now c.search_on.new.self c.retire.new.self c.search_on.ensures.leads (event-leads c.search_on.new.self c.retire.new.self (Retire 1) Retired c.in_ok-retire.ensures.ok))
