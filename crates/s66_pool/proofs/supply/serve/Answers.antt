use Rattle.std.proofs.Common.{◌++◌, sym, subst, ℕ, Option}
use Rattle.s66_pool.specs.{AreEvents, grants, claims, last_claim}
use Rattle.s66_pool.proofs.Supplied.{events-append}
use Rattle.s66_pool.proofs.supply.serve.Goals as goal

pub returns-clause-events : goal.returns-clause-events
returns-clause-events c =
    let tickets = c.claim_nodes.new.tickets.items in
    let P : Option ℕ → Type 0 = λ granted. AreEvents c.args.ledger.now (grants c.args.w granted ++ (claims c.args.w tickets ++ last_claim c.args.w c.claim_nodes.result.none_open)) c.claim_nodes.new.ledger in
    subst P (sym c.claim_nodes.ensures.granted)
    (events-append c.args.ledger.now c.grant_needed.new.ledger c.claim_nodes.new.ledger (grants c.args.w c.in-Ok.granted) (claims c.args.w tickets ++ last_claim c.args.w c.claim_nodes.result.none_open)
    c.in-Ok.ensures.events c.claim_nodes.ensures.events)
