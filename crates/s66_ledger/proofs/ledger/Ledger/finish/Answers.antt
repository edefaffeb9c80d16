use Rattle.std.proofs.Common.{◌∙◌, refl, ap, sym, subst}
use Rattle.s66_model.specs.{IsFinished, IsReached, IsEnded, ended_answer}
use Rattle.s66_ledger.specs.{LedgerOf}
use Rattle.s66_ledger.proofs.Ends.{reached-end, finishes}
use Rattle.s66_ledger.proofs.ledger.Ledger.finish.Goals as goal

pub into_answer-requires : goal.into_answer-requires
into_answer-requires c =
    subst (λ (l : LedgerOf). IsEnded l.problem l.budget l.state) (sym c.self.view_is)
    (reached-end c.args.self c.search_on.new.self (_, c.history-history.ensures.run) c.search_on.ensures.leads (c.in_ok-search_on.ensures.searched refl))

pub returns-clause-finished : goal.returns-clause-finished
returns-clause-finished c =
    let last = c.search_on.new.self in
    let reached : IsReached c.args.self.rule c.args.self.problem c.args.self.budget c.args.self.workers c.args.self.state = (_, c.history-history.ensures.run) in
    let ended = reached-end c.args.self last reached c.search_on.ensures.leads (c.in_ok-search_on.ensures.searched refl) in
    subst (IsFinished c.args.self.rule c.args.self.problem c.args.self.budget c.args.self.state)
    (ap (λ (l : LedgerOf). ended_answer l.problem l.state) (sym c.self.view_is) ∙ sym c.into_answer.ensures.answer)
    (finishes c.args.self last reached c.search_on.ensures.leads ended)
