use Rattle.std.proofs.Common.{◌↔◌, IsTrue, true≢false, sym, subst, ◌∙◌}
use Rattle.s66_model.specs.{IsOut}
use Rattle.s66_ledger.specs.{LedgerOf}
use Rattle.s66_ledger.proofs.TakingBack.{reopened, stayed-in}
use Rattle.s66_ledger.proofs.ledger.Ledger.reopen.Goals as goal

pub give_back-requires-clause-out : goal.give_back-requires-clause-out
give_back-requires-clause-out c = (subst (λ (l : LedgerOf). IsTrue c.is_out.result ↔ IsOut l.state c.args.node) c.self.view_is c.is_out.ensures).0 c.if-is_out.true

pub returns-in_ok-give_back-clause-ok : goal.returns-in_ok-give_back-clause-ok
returns-in_ok-give_back-clause-ok c = reopened c.args.self.now c.give_back.new.self 1 c.args.node c.in_ok-give_back.ensures.ok

pub returns-else-is_out-clause-ok : goal.returns-else-is_out-clause-ok
returns-else-is_out-clause-ok c =
    stayed-in c.args.self.now c.args.node
    (λ out. true≢false (sym ((subst (λ (l : LedgerOf). IsTrue c.is_out.result ↔ IsOut l.state c.args.node) c.self.view_is c.is_out.ensures).1 out) ∙ c.if-is_out.false))
