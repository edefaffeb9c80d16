use Rattle.std.proofs.Common.{ℕ, true, List, Some, None, ◌≡◌, ◌≤◌, ◌∙◌, [], arith, length, ap, sym, subst, get_or, refl}
use Rattle.s66_isa.specs.{BLOCK_LIMIT}
use Rattle.s66_model.specs.{floor_value, TicketOf}
use Rattle.s66_model.specs.LedgerRuns as model
use Rattle.s66_node.specs.{Node}
use Rattle.s66_node.specs.declared.node.State.TheVariants as state
use Rattle.s66_ledger.specs.{prefixes, made_lines, no_stored, stored_at, MachineOf, IsMove, IsKeptMachine, machine_of}
use Rattle.s66_ledger.proofs.Stored.{stored_of}
use Rattle.s66_ledger.proofs.NodePrefixes.{prefixes-set}
use Rattle.s66_ledger.proofs.SeenNodes.{lines-state, at-nodes}
use Rattle.s66_ledger.proofs.Events.{kept-short, kept-claim, event-claim, event-none, claimed-least}
use Rattle.s66_ledger.proofs.machine.Machine.claim.Goals as goal

pub returns-in_default-clause-ok : goal.returns-in_default-clause-ok
returns-in_default-clause-ok c =
    let m = stored_of c.self.inside in
    subst (λ (ns : List Node). IsMove c.args.self.now (model.Claim c.args.w) (model.Claimed None) (machine_of (record m { nodes = ns }))) (sym c.in_default.ensures.same)
    (subst (λ (l : MachineOf). IsMove c.args.self.now (model.Claim c.args.w) (model.Claimed None) l) (sym c.self.view_is)
    (event-none m c.self.invariant c.args.self.now c.self.view_is c.args.w c.requires c.in_default.ensures.none))

pub prefix_of-prefix-requires-clause-few : goal.prefix_of-prefix-requires-clause-few
prefix_of-prefix-requires-clause-few c =
    let m = stored_of c.self.inside in
    let same = ap prefixes c.in-Some.ensures.moved ∙ prefixes-set m.nodes c.in-Some.node (record (stored_at m.nodes c.in-Some.node) { state = state.Out }) no_stored refl refl in
    omega (arith, ap (λ ats. length (get_or ats c.in-Some.node [])) same, kept-short m c.self.invariant c.in-Some.node c.in-Some.ensures.within, c.count.ensures.value, c.count.ensures.few)

pub invariant_of-self-2 : goal.invariant_of-self-2
invariant_of-self-2 c =
    let m = stored_of c.self.inside in
    subst (λ ns. IsKeptMachine (record m { nodes = ns })) (sym c.in-Some.ensures.moved)
    (kept-claim m c.self.invariant c.args.self.now c.self.view_is c.args.w c.requires c.in-Some.node c.in-Some.ensures.within c.in-Some.ensures.was)

pub returns : goal.returns
returns c =
    let m = stored_of c.self.inside in
    let i = c.in-Some.node in
    let same = ap prefixes c.in-Some.ensures.moved ∙ prefixes-set m.nodes i (record (stored_at m.nodes i) { state = state.Out }) no_stored refl refl in
    record {
      ok =
          subst (λ (t : TicketOf). IsMove c.args.self.now (model.Claim c.args.w) (model.Claimed (Some t.node)) (machine_of (record m { nodes = c.claim.new.self }))) (sym c.new.ensures)
          (subst (λ ns. IsMove c.args.self.now (model.Claim c.args.w) (model.Claimed (Some c.in-Some.node)) (machine_of (record m { nodes = ns }))) (sym c.in-Some.ensures.moved)
          (event-claim m c.self.invariant c.args.self.now c.self.view_is c.args.w c.requires c.in-Some.node c.in-Some.ensures.within c.in-Some.ensures.was));
      lines = ap (made_lines m.problem) c.in-Some.ensures.moved ∙ (lines-state m.problem m.nodes c.in-Some.node state.Out ∙ ap (λ (l : MachineOf). l.lines) c.self.view_is);
      ticket =
          let here : get_or (prefixes m.nodes) i [] ≡ (model.node_at c.args.self.now.state.nodes i).prefix =
          sym (ap (λ (n : model.Node). n.prefix) (at-nodes m.problem m.nodes i c.in-Some.ensures.within)) ∙ ap (λ (l : MachineOf). (model.node_at l.state.nodes i).prefix) c.self.view_is in
          subst (λ (t : TicketOf). t.prefix ≡ (model.node_at c.args.self.now.state.nodes t.node).prefix) (sym c.new.ensures)
          (c.prefix_of-prefix.ensures ∙ (ap (λ ats. get_or ats i []) same ∙ here));
      least =
          let prefix : c.new.result.prefix ≡ get_or (prefixes m.nodes) i [] = ap (λ (t : TicketOf). t.prefix) c.new.ensures ∙ (c.prefix_of-prefix.ensures ∙ ap (λ ats. get_or ats i []) same) in
          let few : length m.problem.block ≤ BLOCK_LIMIT = omega (arith, c.count.ensures.value, c.count.ensures.few) in
          subst (λ at. (j : ℕ) → model.is_open (model.node_at c.args.self.now.state.nodes j) ≡ true → floor_value c.args.self.now.problem at ≤ floor_value c.args.self.now.problem (model.node_at c.args.self.now.state.nodes j).prefix) (sym prefix)
          (subst (λ (l : MachineOf). (j : ℕ) → model.is_open (model.node_at l.state.nodes j) ≡ true → floor_value l.problem (get_or (prefixes m.nodes) i []) ≤ floor_value l.problem (model.node_at l.state.nodes j).prefix) c.self.view_is
          (claimed-least m c.self.invariant few i c.in-Some.ensures.within c.in-Some.ensures.was c.in-Some.ensures.least));
    }
