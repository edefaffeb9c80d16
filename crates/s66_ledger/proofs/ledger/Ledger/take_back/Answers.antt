use Rattle.std.proofs.Common.{◌+◌, ◌∙◌, arith, ap, length, subst}
use Rattle.s66_model.specs.{Retire, Retired}
use Rattle.s66_ledger.specs.{NoneOut, LedgerOf}
use Rattle.s66_ledger.proofs.Leading.{leads-on, event-leads}
use Rattle.s66_ledger.proofs.TakingBack.{retired-next, retired-count, retired-all, idle-after}
use Rattle.s66_ledger.proofs.ledger.Ledger.take_back.Goals as goal

pub loop-at-preserved : goal.loop-at-preserved
loop-at-preserved c =
    let old = c.loop-at.self in
    let new = c.retire.new.self in
    let at = c.loop-at.at in
    let retired = c.in_ok-retire.ensures.ok in
    record {
      leads = leads-on c.args.self.now old new c.loop-at.invariant.leads (event-leads old new (Retire (at + 1)) Retired retired);
      count = retired-count old new at retired ∙ c.loop-at.invariant.count;
      retired = retired-next old new at retired c.loop-at.invariant.retired;
    }

pub loop-node-preserved : goal.loop-node-preserved
loop-node-preserved c =
    let now = c.in_ok-reopen.ensures.ok in
    record {
      leads = leads-on c.args.self.now c.loop-node.self c.reopen.new.self c.loop-node.invariant.leads now.leads;
      in_hand = now.in_hand c.loop-node.invariant.in_hand;
      count = now.count ∙ c.loop-node.invariant.count;
      allowances = now.allowances ∙ c.loop-node.invariant.allowances;
    }

pub returns-in_err-reopen-clause-leads : goal.returns-in_err-reopen-clause-leads
returns-in_err-reopen-clause-leads c = leads-on c.args.self.now c.loop-node.self c.reopen.new.self c.loop-node.invariant.leads c.reopen.ensures.leads

pub returns-clause-idle : goal.returns-clause-idle
returns-clause-idle c =
    let l = c.loop-node.self.state in
    let kept = c.loop-node.invariant in
    idle-after l c.loop-node.node kept.in_hand (omega (arith, kept.count, c.node_count-node-end.ensures, c.loop-node-test.false))
    (retired-all l.allowances c.loop-at.at (omega (arith, ap length kept.allowances, c.loop-at.invariant.count, c.workers-at-end.ensures.allowances, ap (λ (l : LedgerOf). length l.state.allowances) c.self.view_is, c.loop-at-test.false))
    (rw kept.allowances c.loop-at.invariant.retired))

pub returns-then-has_none_out-clause-idle : goal.returns-then-has_none_out-clause-idle
returns-then-has_none_out-clause-idle c =
    let l = c.loop-at.self.state in
    record {
      none_out = subst (λ (l : LedgerOf). NoneOut l.state) c.self-2.view_is (c.has_none_out.ensures c.if-has_none_out.true);
      no_allowance = retired-all l.allowances c.loop-at.at (omega (arith, c.loop-at.invariant.count, c.workers-at-end.ensures.allowances, ap (λ (l : LedgerOf). length l.state.allowances) c.self.view_is, c.loop-at-test.false)) c.loop-at.invariant.retired;
    }
