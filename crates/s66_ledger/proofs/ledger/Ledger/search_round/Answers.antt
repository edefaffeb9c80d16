use Rattle.std.proofs.Common.{◌∙◌, Option, subst, sym, ap}
use Rattle.s66_model.specs.{IsBeginning, floor_value, Claim, Claimed, Back, Returned, best_time, node_at, TicketOf}
use Rattle.s66_ledger.specs.{LedgerOf, IsEvent, claimed_node, IsTicketOf, IsLeastOpen}
use Rattle.s66_ledger.proofs.Events.{holds-at}
use Rattle.s66_ledger.proofs.Leading.{leads-on, event-leads}
use Rattle.s66_ledger.proofs.Rounds.{claim-within}
use Rattle.s66_ledger.proofs.Progress.{none-searched, back-searched}
use Rattle.s66_ledger.proofs.ledger.Ledger.search_round.Goals as goal

pub returns-in_default-clause-ends : goal.returns-in_default-clause-ends
returns-in_default-clause-ends c ended =
    let old = c.allowance_or_grant.new.self in
    let new = c.claim.new.self in
    let claimed = subst (λ (t : Option TicketOf). IsEvent old (Claim 1) (Claimed (claimed_node t)) new) c.in_default.is c.in_ok-ticket.ensures.ok in
    none-searched old new c.in_ok-allowance.ensures.between claimed

pub returns-then-best-floor_of-clause-leads : goal.returns-then-best-floor_of-clause-leads
returns-then-best-floor_of-clause-leads c =
    let granted = c.allowance_or_grant.new.self in
    let claimed = event-leads granted c.claim.new.self (Claim 1) _ c.in_ok-ticket.ensures.ok in
    leads-on c.args.self.now granted c.give_back.new.self c.allowance_or_grant.ensures.leads (leads-on granted c.claim.new.self c.give_back.new.self claimed c.give_back.ensures.leads)

pub returns-in_err-give_back-clause-leads : goal.returns-in_err-give_back-clause-leads
returns-in_err-give_back-clause-leads c =
    let granted = c.allowance_or_grant.new.self in
    let claimed = event-leads granted c.claim.new.self (Claim 1) _ c.in_ok-ticket.ensures.ok in
    leads-on c.args.self.now granted c.give_back.new.self c.allowance_or_grant.ensures.leads (leads-on granted c.claim.new.self c.give_back.new.self claimed c.give_back.ensures.leads)

pub returns-then-best-floor_of-clause-ends : goal.returns-then-best-floor_of-clause-ends
returns-then-best-floor_of-clause-ends c ended =
    let old = c.allowance_or_grant.new.self in
    let mid = c.claim.new.self in
    let ticket = c.in-Some.ticket in
    let claimed = subst (λ (t : Option TicketOf). IsEvent old (Claim 1) (Claimed (claimed_node t)) mid) c.in-Some.is c.in_ok-ticket.ensures.ok in
    let prefix = subst (λ (t : Option TicketOf). IsTicketOf old.state t) c.in-Some.is c.in_ok-ticket.ensures.ticket in
    let least = subst (λ (t : Option TicketOf). IsLeastOpen old.problem old.state t) c.in-Some.is c.in_ok-ticket.ensures.least in
    let m = c.self.inside.machine in
    let floor =
    c.floor_of.ensures
    ∙ (ap (λ i. floor_value m.problem (node_at m.state.nodes i).prefix) c.node.ensures
    ∙ ap (λ (l : LedgerOf). floor_value l.problem (node_at l.state.nodes ticket.node).prefix) c.self.view_is) in
    back-searched old mid c.give_back.new.self ticket c.best-best.result c.floor_of.result c.in_ok-allowance.ensures.between claimed prefix least c.best-best.ensures.value floor c.if-best-floor_of.true (subst (λ i. IsEvent mid (Back 1 i) Returned c.give_back.new.self) c.node-then-best-floor_of.ensures c.in_ok-give_back.ensures.ok)

pub take_in-requires-clause-within : goal.take_in-requires-clause-within
take_in-requires-clause-within c =
    let old = c.allowance_or_grant.new.self in
    let claimed = subst (λ (t : Option TicketOf). IsEvent old (Claim 1) (Claimed (claimed_node t)) c.claim.new.self) c.in-Some.is c.in_ok-ticket.ensures.ok in
    let prefix = subst (λ (t : Option TicketOf). IsTicketOf old.state t) c.in-Some.is c.in_ok-ticket.ensures.ticket in
    claim-within old c.claim.new.self c.in-Some.ticket claimed prefix c.in_ok-allowance.ensures.between

pub expand-requires-clause-prefix : goal.expand-requires-clause-prefix
expand-requires-clause-prefix c =
    let old = c.allowance_or_grant.new.self in
    let mid = c.claim.new.self in
    let ticket = c.in-Some.ticket in
    let claimed = subst (λ (t : Option TicketOf). IsEvent old (Claim 1) (Claimed (claimed_node t)) mid) c.in-Some.is c.in_ok-ticket.ensures.ok in
    let prefix = subst (λ (t : Option TicketOf). IsTicketOf old.state t) c.in-Some.is c.in_ok-ticket.ensures.ticket in
    let within = claim-within old mid ticket claimed prefix c.in_ok-allowance.ensures.between in
    let begins : IsBeginning mid.problem.block (node_at mid.state.nodes ticket.node).prefix = holds-at mid.rule mid.problem (best_time mid.problem mid.state) mid.state.nodes mid.state.nodes ticket.node c.best-best.ensures.covers.nodes within.out.0 in
    subst (λ at. IsBeginning mid.problem.block at) (sym (c.prefix.ensures ∙ within.prefix)) begins

pub returns-in_err-piece-clause-leads : goal.returns-in_err-piece-clause-leads
returns-in_err-piece-clause-leads c =
    let granted = c.allowance_or_grant.new.self in
    leads-on c.args.self.now granted c.claim.new.self c.allowance_or_grant.ensures.leads (event-leads granted c.claim.new.self (Claim 1) _ c.in_ok-ticket.ensures.ok)

pub returns-in_err-take_in-clause-leads : goal.returns-in_err-take_in-clause-leads
returns-in_err-take_in-clause-leads c =
    let granted = c.allowance_or_grant.new.self in
    let claimed = event-leads granted c.claim.new.self (Claim 1) _ c.in_ok-ticket.ensures.ok in
    leads-on c.args.self.now granted c.take_in.new.self c.allowance_or_grant.ensures.leads (leads-on granted c.claim.new.self c.take_in.new.self claimed c.take_in.ensures.leads)

pub returns-clause-leads : goal.returns-clause-leads
returns-clause-leads c =
    let granted = c.allowance_or_grant.new.self in
    let claimed = event-leads granted c.claim.new.self (Claim 1) _ c.in_ok-ticket.ensures.ok in
    leads-on c.args.self.now granted c.take_in.new.self c.allowance_or_grant.ensures.leads (leads-on granted c.claim.new.self c.take_in.new.self claimed c.take_in.ensures.leads)
