use Rattle.std.proofs.Common.{◌∙◌, ◌∷◌, ap, sym}
use Rattle.s66_isa.specs.{least}
use Rattle.s66_model.specs.{total_of, bound_of}
use Rattle.s66_ledger.specs.{live_values, MachineOf}
use Rattle.s66_ledger.proofs.Stored.{stored_of}
use Rattle.s66_ledger.proofs.LiveFloors.{live-same}
use Rattle.s66_ledger.proofs.machine.Machine.bound.Goals as goal

pub returns : goal.returns
returns c =
    let m = stored_of c.self.inside in
    let best = c.total.ensures.value ∙ ap (λ p. total_of p m.best.numbers) c.self.invariant.own in
    c.least_floor.ensures
    ∙ (ap (λ v. least (λ v. v) (v ∷ live_values m.nodes)) best
    ∙ (ap (λ vs. least (λ v. v) (total_of m.problem m.best.numbers ∷ vs)) (sym (live-same m.problem m.nodes c.self.invariant.floors))
    ∙ ap (λ (l : MachineOf). bound_of l.problem l.state) c.self.view_is))
