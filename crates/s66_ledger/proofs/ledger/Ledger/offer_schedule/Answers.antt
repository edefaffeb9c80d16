use Rattle.std.proofs.Common.{refl}
use Rattle.s66_ledger.proofs.Rounds.{nothing-offered}
use Rattle.s66_ledger.proofs.ledger.Ledger.offer_schedule.Goals as goal

pub returns-in-None-clause-offers : goal.returns-in-None-clause-offers
returns-in-None-clause-offers c = nothing-offered c.args.self.now c.args.self.now refl
