use Rattle.std.proofs.Common.{◌↔◌, Bool, true, false, true≢false, IsTrue, refl, sym, subst}
use Rattle.s66_model.specs.{IsOut}
use Rattle.s66_ledger.specs.{MachineOf}
use Rattle.s66_ledger.proofs.Stored.{stored_of}
use Rattle.s66_ledger.proofs.Events.{is-out, not-out}
use Rattle.s66_ledger.proofs.machine.Machine.is_out.Goals as goal

told : {P Q : Type 0} (t : Bool) → (IsTrue t ↔ P) → (P → Q) → (¬ P → ¬ Q) → (IsTrue t ↔ Q)
told true h there never = ((λ t. there (h.0 t)), (λ q. refl))
told false h there never = ((λ t. there (h.0 t)), (λ q. absurd (never (λ p. true≢false (sym (h.1 p))) q)))

pub returns : goal.returns
returns c =
    let m = stored_of c.self.inside in
    subst (λ (l : MachineOf). IsTrue c.is_out.result ↔ IsOut l.state c.args.node) c.self.view_is
    (told c.is_out.result c.is_out.ensures
    (is-out m.problem m.nodes m.best.numbers m.left m.allowances m.spent c.args.node)
    (not-out m.problem m.nodes m.best.numbers m.left m.allowances m.spent c.args.node))
