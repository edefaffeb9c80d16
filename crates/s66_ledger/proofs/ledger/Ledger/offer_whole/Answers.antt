use Rattle.std.proofs.Common.{◌∙◌, ap, sym, subst}
use Rattle.s66_model.specs.{IsLegal, node_at}
use Rattle.s66_ledger.specs.{LedgerOf}
use Rattle.s66_ledger.proofs.WholeOffers.{whole-legal, timed-now}
use Rattle.s66_ledger.proofs.ledger.Ledger.offer_whole.Goals as goal

pub offer_numbers-requires-clause-legal : goal.offer_numbers-requires-clause-legal
offer_numbers-requires-clause-legal c =
    let block = c.self.inside.machine.problem.block in
    subst (λ (l : LedgerOf). IsLegal l.problem.block c.as_slice.result.now) c.self.view_is
    (subst (IsLegal block) (sym c.as_slice.ensures.value) (whole-legal block c.in-Some.numbers.items c.in-Some.ensures.begins c.in-Some.ensures.whole))

pub returns-in_ok-offer_numbers-clause-timed : goal.returns-in_ok-offer_numbers-clause-timed
returns-in_ok-offer_numbers-clause-timed c =
    let prefix = c.in-Some.ensures.prefix ∙ ap (λ (l : LedgerOf). (node_at l.state.nodes c.args.node).prefix) c.self.view_is in
    timed-now c.args.self.now c.offer_numbers.new.self c.args.node c.as_slice.result.now (c.as_slice.ensures.value ∙ prefix) c.offer_numbers.ensures.offers c.in_ok-offer_numbers.ensures.at_most
