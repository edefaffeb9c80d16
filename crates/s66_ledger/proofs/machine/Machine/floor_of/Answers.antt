use Rattle.std.proofs.Common.{◌≡◌, ◌<◌, ◌∙◌, [], arith, ap, sym, length, get_or}
use Rattle.s66_model.specs.{floor_value}
use Rattle.s66_model.specs.LedgerRuns as model
use Rattle.s66_node.specs.{has_floor}
use Rattle.s66_ledger.specs.{MachineOf, stored_at, prefixes, name_at, seen_state}
use Rattle.s66_ledger.proofs.Stored.{stored_of}
use Rattle.s66_ledger.proofs.SeenNodes.{length-nodes, at-nodes, out-seen}
use Rattle.s66_ledger.proofs.machine.Machine.floor_of.Goals as goal

pub value_of-requires : goal.value_of-requires
value_of-requires c =
    let m = stored_of c.self.inside in
    omega (arith, c.requires.0, length-nodes m.problem m.nodes, ap (λ (l : MachineOf). length l.state.nodes) c.self.view_is)

pub returns : goal.returns
returns c =
    let m = stored_of c.self.inside in
    let i = c.args.node in
    let lt : i < length m.nodes = omega (arith, c.requires.0, length-nodes m.problem m.nodes, ap (λ (l : MachineOf). length l.state.nodes) c.self.view_is) in
    let there = at-nodes m.problem m.nodes i lt in
    let out : seen_state m.problem (name_at m.nodes i) (get_or (prefixes m.nodes) i []) (stored_at m.nodes i).state ≡ model.Out =
    sym (ap (λ (n : model.Node). n.state) there) ∙ (ap (λ (l : MachineOf). (model.node_at l.state.nodes i).state) c.self.view_is ∙ c.requires.1) in
    c.value_of.ensures
    ∙ (c.self.invariant.floors i lt (ap has_floor (out-seen m.problem (name_at m.nodes i) (get_or (prefixes m.nodes) i []) (stored_at m.nodes i).state out))
    ∙ (ap (λ (n : model.Node). floor_value m.problem n.prefix) (sym there)
    ∙ ap (λ (l : MachineOf). floor_value l.problem (model.node_at l.state.nodes i).prefix) c.self.view_is))
