use Rattle.std.proofs.Common.{subst}
use Rattle.s66_model.specs.{Covers, IsTable}
use Rattle.s66_model.proofs.Histories.{reached-covers, reached-table}
use Rattle.s66_ledger.specs.{LedgerOf}
use Rattle.s66_ledger.proofs.ledger.Ledger.best.Goals as goal

pub returns-clause-covers : goal.returns-clause-covers
returns-clause-covers c =
    subst (λ (l : LedgerOf). Covers l.rule l.problem l.budget l.state) c.self.view_is (reached-covers _ _ _ _ _ (_, c.self.invariant.run))

pub returns-clause-table : goal.returns-clause-table
returns-clause-table c = subst (λ (l : LedgerOf). IsTable l.problem l.state) c.self.view_is (reached-table _ _ _ _ _ (_, c.self.invariant.run))
