use Rattle.std.proofs.Common.{true≢false, ◌∙◌, ap, sym, subst}
use Rattle.s66_model.specs.LedgerRuns as model
use Rattle.s66_node.specs.declared.node.State.TheVariants as state
use Rattle.s66_ledger.specs.{made_lines, MachineOf, IsMove, IsKeptMachine, machine_of}
use Rattle.s66_ledger.proofs.Stored.{stored_of}
use Rattle.s66_ledger.proofs.SeenNodes.{lines-state}
use Rattle.s66_ledger.proofs.Events.{kept-back, event-back, event-not-out}
use Rattle.s66_ledger.proofs.machine.Machine.back.Goals as goal

pub returns-then-not-is_out-clause-not_out : goal.returns-then-not-is_out-clause-not_out
returns-then-not-is_out-clause-not_out c refused =
    event-not-out (stored_of c.self.inside) c.self.invariant c.args.self.now c.self.view_is c.args.w c.requires c.args.node
    (λ out. true≢false (sym (c.is_out.ensures.1 out) ∙ c.if-not-is_out.true))

pub invariant_of-self-2 : goal.invariant_of-self-2
invariant_of-self-2 c =
    let m = stored_of c.self.inside in
    subst (λ ns. IsKeptMachine (record m { nodes = ns })) (sym c.in-Ok.ensures.ok)
    (kept-back m c.self.invariant c.args.self.now c.self.view_is c.args.w c.requires c.args.node (c.is_out.ensures.0 c.if-not-is_out.false))

pub returns-clause-ok : goal.returns-clause-ok
returns-clause-ok c =
    let m = stored_of c.self.inside in
    subst (λ ns. IsMove c.args.self.now (model.Back c.args.w c.args.node) model.Returned (machine_of (record m { nodes = ns }))) (sym c.in-Ok.ensures.ok)
    (event-back m c.self.invariant c.args.self.now c.self.view_is c.args.w c.requires c.args.node (c.is_out.ensures.0 c.if-not-is_out.false))

pub returns-clause-lines : goal.returns-clause-lines
returns-clause-lines c =
    let m = stored_of c.self.inside in
    ap (made_lines m.problem) c.in-Ok.ensures.ok ∙ (lines-state m.problem m.nodes c.args.node state.Open ∙ ap (λ (l : MachineOf). l.lines) c.self.view_is)
