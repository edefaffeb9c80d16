use Rattle.std.proofs.Common.{◌≡◌, subst, ap, arith}
use Rattle.s66_model.specs.{Covers, Grant, Granted, allowance}
use Rattle.s66_model.proofs.Histories.{reached-covers}
use Rattle.s66_ledger.specs.{LedgerOf}
use Rattle.s66_ledger.proofs.Leading.{event-leads}
use Rattle.s66_ledger.proofs.Rounds.{grant-between, grant-spent}
use Rattle.s66_ledger.proofs.ledger.Ledger.allowance_or_grant.Goals as goal

pub returns-clause-leads : goal.returns-clause-leads
returns-clause-leads c = event-leads c.args.self.now c.grant.new.self (Grant 1) (Granted c.in_ok-granted.granted) c.in_ok-granted.ensures.ok

pub returns-clause-between : goal.returns-clause-between
returns-clause-between c = grant-between c.args.self.now c.grant.new.self c.in_ok-granted.granted c.in_ok-granted.ensures.ok c.requires.between

pub returns-clause-spent : goal.returns-clause-spent
returns-clause-spent c =
    let none : allowance c.args.self.now.state 1 ≡ 0 =
    omega (arith, c.if-allowance-gt0.false, c.first_allowance-allowance.ensures, ap (λ (l : LedgerOf). allowance l.state 1) c.self.view_is) in
    let covers : Covers c.args.self.now.rule c.args.self.now.problem c.args.self.now.budget c.args.self.now.state =
    subst (λ (l : LedgerOf). Covers l.rule l.problem l.budget l.state) c.self.view_is (reached-covers _ _ _ _ _ (_, c.self.invariant.run)) in
    grant-spent c.args.self.now c.grant.new.self c.in_ok-granted.granted c.in_ok-granted.ensures.ok covers c.requires.between none
