use Rattle.s66_pool.proofs.Returned.{have-seats, closed-goes-on}
use Rattle.s66_pool.proofs.search.search_by_workers.Goals as goal

pub unreachable-requires : goal.unreachable-requires
unreachable-requires g c =
    c.in_default.ensures.missing.2 (have-seats c.in_ok-hub.hub c.args.ledger c.in_ok-hub.seats.items c.work.new.seats.items c.in_ok-hub.ensures.summary c.in_ok-hub.ensures.seats c.work.ensures.same)

pub returns-clause-on : goal.returns-clause-on
returns-clause-on g c =
    closed-goes-on c.in_ok-hub.hub.summary c.args.ledger c.in-Ok.ledger c.in_ok-hub.ensures.summary c.in-Ok.ensures.rule c.in-Ok.ensures.problem c.in-Ok.ensures.budget c.in-Ok.ensures.workers c.in-Ok.ensures.best
