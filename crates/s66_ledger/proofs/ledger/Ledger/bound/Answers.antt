use Rattle.std.proofs.Common.{◌∙◌, ap, sym, subst}
use Rattle.s66_model.specs.{IsBound, bound_of}
use Rattle.s66_model.proofs.Histories.{reached-covers, reached-table}
use Rattle.s66_model.proofs.EndedLedgers.{covers-bound}
use Rattle.s66_ledger.specs.{LedgerOf, IsRecorded}
use Rattle.s66_ledger.proofs.ledger.Ledger.bound.Goals as goal

recorded-bound : (l : LedgerOf) → IsRecorded l → IsBound l.problem (bound_of l.problem l.state)
recorded-bound l h = covers-bound l.rule l.problem l.budget l.state (reached-covers _ _ _ _ _ (_, h.run)) (reached-table _ _ _ _ _ (_, h.run))

pub returns-clause-bound : goal.returns-clause-bound
returns-clause-bound c =
    subst (IsBound c.args.self.now.problem) (sym (c.bound.ensures ∙ ap (λ (l : LedgerOf). bound_of l.problem l.state) c.self.view_is))
    (subst (λ (l : LedgerOf). IsBound l.problem (bound_of l.problem l.state)) c.self.view_is (recorded-bound _ c.self.invariant))
