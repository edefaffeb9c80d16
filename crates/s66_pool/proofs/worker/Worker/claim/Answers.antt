use Rattle.std.proofs.Common.{◌∙◌}
use Rattle.s66_pool.proofs.Supplied.{supply-who}
use Rattle.s66_pool.proofs.worker.Worker.claim.Goals as goal

pub returns : goal.returns
returns g c =
    let may = c.may_claim.ensures in
    let who = supply-who c.may_claim.new.seat c.supply-supply.new.seat c.supply-supply.result c.supply-supply.new.tickets.items c.supply-supply.ensures.supply in
    let up = c.take_up.ensures in
    ((up.0.0 ∙ c.supply-supply.ensures.here ∙ may.0, up.0.1 ∙ who ∙ may.1), up.1)
