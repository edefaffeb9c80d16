use Rattle.std.proofs.Common.{◌≡◌, arith, ap, subst}
use Rattle.s66_isa.specs.{weigh}
use Rattle.s66_model.specs.{Account}
use Rattle.s66_ledger.specs.declared.ledger.Ledger.TheInside.{Inside}
use Rattle.s66_ledger.specs.{LedgerOf, account_summary, with_history}
use Rattle.s66_ledger.proofs.Events.{kept-room}
use Rattle.s66_ledger.proofs.Recording.{accounts-spent}
use Rattle.s66_ledger.proofs.Stored.{stored_of}
use Rattle.s66_ledger.proofs.ledger.Ledger.splits.Goals as goal

pub returns-clause-within : goal.returns-clause-within
returns-clause-within c =
    let m = stored_of c.self-inside.inside.0.0 in
    omega (arith, kept-room m c.self-inside.invariant 0, ap (λ (l : Inside). l.machine.budget) c.self-inside.view_is, ap (λ (l : LedgerOf). l.budget) c.self.view_is)

pub returns-clause-accounts : goal.returns-clause-accounts
returns-clause-accounts c =
    subst (λ (l : LedgerOf). weigh (λ (a : Account). a.splits) (account_summary l).accounts ≡ l.state.spent) c.self.view_is
    (accounts-spent (with_history c.self.inside.machine c.self.inside.history.entries.items c.self.inside.history.bytes.items) c.self.invariant)
