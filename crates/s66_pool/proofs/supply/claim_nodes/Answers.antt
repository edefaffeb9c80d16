use Rattle.std.proofs.Common.{◌++◌, ◌∷◌, [], true, ap, arith, ◌∙◌, subst, sym, List, Option, length, length-append}
use Rattle.s66_model.specs.{Claim, Claimed, TicketOf}
use Rattle.s66_ledger.specs.{IsEvent, claimed_node}
use Rattle.s66_pool.specs.{AreEvents, claims, last_claim}
use Rattle.s66_pool.proofs.Supplied.{claims-append, claims-none}
use Rattle.s66_pool.proofs.supply.claim_nodes.Goals as goal

pub returns-in-Ok-None-clause-events : goal.returns-in-Ok-None-clause-events
returns-in-Ok-None-clause-events c =
    let P : List TicketOf → Type 0 = λ ts. AreEvents c.args.ledger.now (claims c.args.w ts ++ last_claim c.args.w true) c.claim.new.self in
    let Q : Option TicketOf → Type 0 = λ t. IsEvent c.loop.ledger (Claim c.args.w) (Claimed (claimed_node t)) c.claim.new.self in
    subst P (sym c.in-Ok.ensures.items)
    (claims-none c.args.ledger.now c.loop.ledger c.claim.new.self c.args.w c.loop.tickets.items c.loop.invariant.events (subst Q c.in-Ok-None.field-0-is c.in-Ok-None.ensures.ok))

pub loop-preserved : goal.loop-preserved
loop-preserved c =
    let more = c.push_reserved.ensures.items ∙ ap (λ (ts : List TicketOf). ts ++ c.in-Ok-Some.ticket ∷ []) c.in-Ok.ensures.items in
    let P : List TicketOf → Type 0 = λ ts. AreEvents c.args.ledger.now (claims c.args.w ts) c.claim.new.self in
    let Q : Option TicketOf → Type 0 = λ t. IsEvent c.loop.ledger (Claim c.args.w) (Claimed (claimed_node t)) c.claim.new.self in
    let claimed = subst Q c.in-Ok-Some.field-0-is c.in-Ok-Some.ensures.ok in
    record {
      count = omega (arith, ap length more, length-append c.loop.tickets.items (c.in-Ok-Some.ticket ∷ []), c.loop.invariant.count);
      events = subst P (sym more) (claims-append c.args.ledger.now c.loop.ledger c.claim.new.self c.args.w c.loop.tickets.items c.in-Ok-Some.ticket c.loop.invariant.events claimed);
      workers = c.in-Ok-Some.ensures.ok.2 ∙ c.loop.invariant.workers;
    }
