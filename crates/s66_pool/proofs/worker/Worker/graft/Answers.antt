use Rattle.std.proofs.Common.{◌∙◌}
use Rattle.s66_pool.proofs.Supplied.{graft-who}
use Rattle.s66_pool.proofs.worker.Worker.graft.Goals as goal

pub returns : goal.returns
returns g c =
    let found = c.take_or_steal-next.ensures in
    let who = graft-who c.args.member.now.seat c.graft_and_supply.new.seat c.args.node c.args.piece.now c.in-Ok-graft_and_supply.supply c.graft_and_supply.new.tickets.items c.in-Ok-graft_and_supply.ensures.ok in
    let on = c.go_on.ensures in
    ((on.0.0 ∙ c.graft_and_supply.ensures.here, on.0.1 ∙ who), (on.1.0 ∙ found.0, on.1.1 ∙ found.1))
