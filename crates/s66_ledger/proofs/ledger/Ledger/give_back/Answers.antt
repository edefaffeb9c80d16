use Rattle.s66_model.specs.{Back, Returned}
use Rattle.s66_ledger.proofs.Leading.{event-leads}
use Rattle.s66_ledger.proofs.ledger.Ledger.give_back.Goals as goal

pub returns-in-Ok-clause-leads : goal.returns-in-Ok-clause-leads
returns-in-Ok-clause-leads c = event-leads c.args.self.now c.back_at.new.self (Back 1 c.args.node) Returned c.in-Ok.ensures.ok
