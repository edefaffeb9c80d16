use Rattle.std.proofs.Common.{arith, subst}
use Rattle.std.proofs.lemmas.Bool.{not-true}
use Rattle.s66_ledger.specs.{WholesAreTimed, MachineOf}
use Rattle.s66_ledger.proofs.Stored.{stored_of}
use Rattle.s66_ledger.proofs.WholeOffers.{none-whole}
use Rattle.s66_ledger.proofs.machine.Machine.has_no_whole.Goals as goal

pub returns : goal.returns
returns c =
    let m = stored_of c.self.inside in
    λ none.
    subst (λ (l : MachineOf). WholesAreTimed l.problem l.state) c.self.view_is
    (none-whole m.problem m.nodes m.best.numbers m.left m.allowances m.spent
    (λ i lt live. omega (arith, c.may_reach.ensures (not-true c.may_reach.result none) i lt live, c.count-2.ensures.value)))
