use Rattle.std.proofs.Common.{◌∙◌, arith, length, ap, sym}
use Rattle.s66_ledger.specs.{MachineOf}
use Rattle.s66_ledger.proofs.Stored.{stored_of}
use Rattle.s66_ledger.proofs.Events.{kept-room}
use Rattle.s66_ledger.proofs.SeenNodes.{length-nodes, length-lines}
use Rattle.s66_ledger.proofs.machine.Machine.node_count.Goals as goal

pub overflow_cast-result : goal.overflow_cast-result
overflow_cast-result c =
    let m = stored_of c.self.inside in
    omega (arith, c.count.ensures, c.self.invariant.room, c.self.invariant.few, kept-room m c.self.invariant 0)

pub returns : goal.returns
returns c =
    let m = stored_of c.self.inside in
    record {
      value = c.count.ensures ∙ (sym (length-nodes m.problem m.nodes) ∙ ap (λ (l : MachineOf). length l.state.nodes) c.self.view_is);
      lines = c.count.ensures ∙ (sym (length-lines m.problem m.nodes) ∙ ap (λ (l : MachineOf). length l.lines) c.self.view_is);
    }
