use Rattle.std.proofs.Common.{refl, ap, subst}
use Rattle.s66_model.specs.{Claim, Claimed}
use Rattle.s66_ledger.specs.{claimed_node, LedgerOf, IsEvent, with_history}
use Rattle.s66_ledger.proofs.Recording.{recorded-alone, event-alone}
use Rattle.s66_ledger.proofs.ledger.Ledger.claim.Goals as goal

pub invariant_of-self-2 : goal.invariant_of-self-2
invariant_of-self-2 c =
    recorded-alone c.self.inside.machine c.claim-ticket.new.self c.self.inside.history.entries.items c.reserve.new.self.items c.push_reserved.new.self.items c.self.inside.history.bytes.items _ (Claim c.args.w) (Claimed (claimed_node c.claim-ticket.result))
    c.claim-ticket.ensures.ok c.claim-ticket.ensures.lines (ap (λ i. (Claim c.args.w, Claimed i)) c.node_of-node.ensures) c.reserve.ensures.items c.push_reserved.ensures.items refl refl c.self.invariant

pub returns-clause-ok : goal.returns-clause-ok
returns-clause-ok c =
    subst (λ (l : LedgerOf). IsEvent l (Claim c.args.w) (Claimed (claimed_node c.claim-ticket.result)) (with_history c.claim-ticket.new.self c.push_reserved.new.self.items c.self.inside.history.bytes.items)) c.self.view_is
    (event-alone c.self.inside.machine c.claim-ticket.new.self c.self.inside.history.entries.items c.reserve.new.self.items c.push_reserved.new.self.items c.self.inside.history.bytes.items _ (Claim c.args.w) (Claimed (claimed_node c.claim-ticket.result))
    c.claim-ticket.ensures.ok c.claim-ticket.ensures.lines (ap (λ i. (Claim c.args.w, Claimed i)) c.node_of-node.ensures) c.reserve.ensures.items c.push_reserved.ensures.items refl refl c.self.invariant)
