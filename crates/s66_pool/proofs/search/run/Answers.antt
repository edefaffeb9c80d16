use Rattle.std.proofs.Common.{◌≡◌, ◌∙◌, IfOk, ap, subst}
use Rattle.s66_node.specs.Walked.{Walked}
use Rattle.s66_pool.proofs.search.run.Goals as goal

pub returns : goal.returns
returns g c = record {
  rule =
      let same = c.in_ok-ledger-2.ensures.on.3 ∙ (c.search.ensures.leads.4 ∙ (c.offer_schedules.ensures.offers.leads.4 ∙ c.in_ok-ledger.ensures.rule)) in
      subst (λ rule. IfOk c.finish.result (λ a. a.rule ≡ rule)) same c.finish.ensures.rule;
  problem =
      let same = c.in_ok-ledger-2.ensures.on.0 ∙ (c.search.ensures.leads.0 ∙ (c.offer_schedules.ensures.offers.leads.0 ∙ (c.in_ok-ledger.ensures.problem ∙ ap (λ (w : Walked). w.problem) c.new-walk.ensures))) in
      subst (λ problem. IfOk c.finish.result (λ a. a.problem ≡ problem)) same c.finish.ensures.problem;
  budget =
      let same = c.in_ok-ledger-2.ensures.on.1 ∙ (c.search.ensures.leads.1 ∙ (c.offer_schedules.ensures.offers.leads.1 ∙ c.in_ok-ledger.ensures.budget)) in
      subst (λ budget. IfOk c.finish.result (λ a. a.budget ≡ budget)) same c.finish.ensures.budget;
}
