use Rattle.std.proofs.Common.{rules, inl, inr, ◌≢◌, ◌<◌, ◌∙◌, [], arith, length, get_or, true≢false, ap, sym, subst}
use Rattle.s66_model.specs.{IsBeginning}
use Rattle.s66_model.specs.LedgerRuns as model
use Rattle.s66_ledger.specs.{prefixes, MachineOf}
use Rattle.s66_ledger.proofs.Stored.{stored_of}
use Rattle.s66_ledger.proofs.SeenNodes.{length-nodes, at-nodes}
use Rattle.s66_ledger.proofs.Events.{kept-short, kept-beginning}
use Rattle.s66_ledger.proofs.WholeOffers.{not-below}
use Rattle.s66_ledger.proofs.machine.Machine.promising_order.Goals.{else-is_live_below-via-then-is_live_below+else-has_length, else-is_live_below-via-else-is_live_below}
use Rattle.s66_ledger.proofs.machine.Machine.promising_order.Goals as goal

pub is_live_below-requires : goal.is_live_below-requires
is_live_below-requires c =
    let m = stored_of c.self.inside in
    omega (arith, c.requires, length-nodes m.problem m.nodes, ap (λ (l : MachineOf). length l.state.nodes) c.self.view_is)

pub prefix_of-requires-clause-few : goal.prefix_of-requires-clause-few
prefix_of-requires-clause-few c =
    let m = stored_of c.self.inside in
    let lt : c.args.node < length m.nodes = omega (arith, c.requires, length-nodes m.problem m.nodes, ap (λ (l : MachineOf). length l.state.nodes) c.self.view_is) in
    omega (arith, kept-short m c.self.invariant c.args.node lt, c.count.ensures.value, c.count.ensures.few)

pub returns-then-has_length : goal.returns-then-has_length
returns-then-has_length c =
    let m = stored_of c.self.inside in
    let lt : c.args.node < length m.nodes = omega (arith, c.requires, length-nodes m.problem m.nodes, ap (λ (l : MachineOf). length l.state.nodes) c.self.view_is) in
    record {
      prefix =
          c.prefix_of.ensures
          ∙ (sym (ap (λ (n : model.Node). n.prefix) (at-nodes m.problem m.nodes c.args.node lt))
          ∙ ap (λ (l : MachineOf). (model.node_at l.state.nodes c.args.node).prefix) c.self.view_is);
      begins =
          subst (λ at. IsBeginning c.args.self.now.problem.block at) (sym c.prefix_of.ensures)
          (subst (λ (l : MachineOf). IsBeginning l.problem.block (get_or (prefixes m.nodes) c.args.node [])) c.self.view_is
          (kept-beginning m c.self.invariant c.args.node lt));
      whole =
          ap length c.prefix_of.ensures
          ∙ (c.has_length.ensures.0 c.if-has_length.true
          ∙ (c.count-then-is_live_below.ensures.value
          ∙ ap (λ (l : MachineOf). length l.problem.block) c.self.view_is));
      none = search rules;
    }

pub returns-else-is_live_below-clause-none : goal.returns-else-is_live_below-clause-none
returns-else-is_live_below-clause-none c =
    let m = stored_of c.self.inside in
    let lt : c.args.node < length m.nodes = omega (arith, c.requires, length-nodes m.problem m.nodes, ap (λ (l : MachineOf). length l.state.nodes) c.self.view_is) in
    elim c.else-is_live_below.branch [
      | else-is_live_below-via-then-is_live_below+else-has_length w ↦
          (let other : length (get_or (prefixes m.nodes) c.args.node []) ≢ w.count-then-is_live_below.result = λ same. true≢false (sym (w.has_length.ensures.1 same) ∙ w.if-has_length.false) in
          let part : length (get_or (prefixes m.nodes) c.args.node []) < length m.problem.block =
          omega (arith, kept-short m c.self.invariant c.args.node lt, w.count-then-is_live_below.ensures.value, other) in
          λ live. inl (omega (arith, part, ap (λ (n : model.Node). length n.prefix) (at-nodes m.problem m.nodes c.args.node lt), ap (λ (l : MachineOf). length (model.node_at l.state.nodes c.args.node).prefix) c.self.view_is, ap (λ (l : MachineOf). length l.problem.block) c.self.view_is)))
      | else-is_live_below-via-else-is_live_below w ↦
          λ live.
          inr
          (not-below m c.self.invariant c.args.self.now c.self.view_is c.args.node c.total.result lt c.total.ensures.value
          (λ below. true≢false (sym (c.is_live_below.ensures.1 below) ∙ w.if-is_live_below.false)) live)
    ]
