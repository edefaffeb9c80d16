use Rattle.std.proofs.Common.{arith, ◌∙◌}
use Rattle.s66_ledger.proofs.Leading.{leads-on}
use Rattle.s66_ledger.proofs.Rounds.{offer-between, offer-to-go}
use Rattle.s66_ledger.proofs.ledger.Ledger.search_rounds.Goals as goal

pub loop-alloc-preserved : goal.loop-alloc-preserved
loop-alloc-preserved c =
    let offers = c.offer_sometimes.ensures.offers in
    record {
      walk = c.offer_sometimes.ensures.walk ∙ (c.in_ok-goes_on.ensures.same ∙ c.loop-alloc.invariant.walk);
      marks = c.in_ok-goes_on.ensures.marks ∙ c.loop-alloc.invariant.marks;
      leads = leads-on c.args.self.now c.search_round.new.self c.offer_sometimes.new.self
          (leads-on c.args.self.now c.loop-alloc.self c.search_round.new.self c.loop-alloc.invariant.leads c.search_round.ensures.leads) offers.leads;
      between = offer-between c.search_round.new.self c.offer_sometimes.new.self offers (c.in_ok-goes_on.ensures.goes_on c.if-not-goes_on.false).0;
    }

pub loop-alloc-smaller : goal.loop-alloc-smaller
loop-alloc-smaller c =
    omega (arith, (c.in_ok-goes_on.ensures.goes_on c.if-not-goes_on.false).1, offer-to-go c.search_round.new.self c.offer_sometimes.new.self c.offer_sometimes.ensures.offers)

pub returns-in_err-goes_on-clause-leads : goal.returns-in_err-goes_on-clause-leads
returns-in_err-goes_on-clause-leads c = leads-on c.args.self.now c.loop-alloc.self c.search_round.new.self c.loop-alloc.invariant.leads c.search_round.ensures.leads

pub returns-in_err-offer_sometimes-clause-leads : goal.returns-in_err-offer_sometimes-clause-leads
returns-in_err-offer_sometimes-clause-leads c =
    leads-on c.args.self.now c.search_round.new.self c.offer_sometimes.new.self
    (leads-on c.args.self.now c.loop-alloc.self c.search_round.new.self c.loop-alloc.invariant.leads c.search_round.ensures.leads)
    c.offer_sometimes.ensures.offers.leads

pub returns-then-not-goes_on-clause-leads : goal.returns-then-not-goes_on-clause-leads
returns-then-not-goes_on-clause-leads c = leads-on c.args.self.now c.loop-alloc.self c.search_round.new.self c.loop-alloc.invariant.leads c.search_round.ensures.leads
