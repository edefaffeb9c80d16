use Rattle.std.proofs.Common.{subst}
use Rattle.std.proofs.lemmas.Bool.{not-true}
use Rattle.s66_ledger.specs.{NoneOut, MachineOf}
use Rattle.s66_ledger.proofs.Stored.{stored_of}
use Rattle.s66_ledger.proofs.TakingBack.{none-kept-out}
use Rattle.s66_ledger.proofs.machine.Machine.has_none_out.Goals as goal

pub returns : goal.returns
returns c =
    let m = stored_of c.self.inside in
    λ none.
    subst (λ (l : MachineOf). NoneOut l.state) c.self.view_is
    (none-kept-out m.problem m.nodes m.best.numbers m.left m.allowances m.spent (c.has_out.ensures (not-true c.has_out.result none)))
