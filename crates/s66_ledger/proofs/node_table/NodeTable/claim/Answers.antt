use Rattle.std.proofs.Common.{ℕ, true, false, ◌≡◌, ◌≤◌, ◌∙◌, ap, arith, refl, subst, heap_items, nat_cmp}
use Rattle.std.proofs.lemmas.List.Sorted.{first_le_from_greatest}
use Rattle.s66_node.specs.{Node, is_stored_live}
use Rattle.s66_node.specs.declared.node.State.TheVariants as state
use Rattle.s66_ledger.specs.{no_stored, stored_at, stores_open, is_stored_out, ranked}
use Rattle.s66_ledger.proofs.Depths.{depths-set}
use Rattle.s66_ledger.proofs.LiveCounts.{counted-set, room-out, one}
use Rattle.s66_ledger.proofs.NodePrefixes.{get_or-any}
use Rattle.s66_ledger.proofs.OpenHeap.{taken, taken-within, taken-open, greatest-least}
use Rattle.s66_ledger.proofs.node_table.NodeTable.claim.Goals as goal

pub invariant_of-self-2 : goal.invariant_of-self-2
invariant_of-self-2 c =
    let t = c.self.inside in
    let popped = c.in_ok-node.ensures.permutation in
    let node = c.index_mut.result.now in
    let y : Node = record { parent = node.parent; value = node.value; number = node.number; depth = node.depth; made = node.made; state = state.Out } in
    let within = taken-within t.nodes.items (heap_items t.open) c.self.invariant.1 (heap_items c.pop.new.self) c.in_ok-node.field-0-0 c.in_ok-node.node popped in
    let was = taken-open t.nodes.items (heap_items t.open) c.self.invariant.1 (heap_items c.pop.new.self) c.in_ok-node.field-0-0 c.in_ok-node.node popped in
    let at : node ≡ stored_at t.nodes.items c.in_ok-node.node = c.index_mut.ensures.value ∙ get_or-any t.nodes.items c.in_ok-node.node c.index_mut.result.now no_stored (λ x. x) within in (
      (c.in_ok-node.ensures.heap_order c.self.invariant.0).0,
      taken t.nodes.items (heap_items t.open) c.self.invariant.1 (heap_items c.pop.new.self) c.in_ok-node.field-0-0 c.in_ok-node.node popped _ refl
          (ap (λ (x : Node). x.value) c.index_mut.ensures.value ∙ get_or-any t.nodes.items c.in_ok-node.node c.index_mut.result.now no_stored (λ x. x.value) within),
      depths-set t.nodes.items c.in_ok-node.node y node within (ap (λ (x : Node). x.parent) c.index_mut.ensures.value) (ap (λ (x : Node). x.number) c.index_mut.ensures.value) (ap (λ (x : Node). x.depth) c.index_mut.ensures.value) c.self.invariant.2,
      counted-set t.nodes.items c.in_ok-node.node y no_stored t.out _ t.deepest within c.self.invariant.3
          (omega (arith, one (is_stored_out (stored_at t.nodes.items c.in_ok-node.node).state) false (ap is_stored_out was)))
          (λ live. omega (arith, ap (λ (x : Node). x.depth) at, c.self.invariant.3.within c.in_ok-node.node (ap is_stored_live was))),
    )

pub returns-clause-least : goal.returns-clause-least
returns-clause-least c =
    let t = c.self.inside in
    let popped = c.in_ok-node.ensures.permutation in
    subst (λ ns. (j : ℕ) → stores_open (stored_at ns j) ≡ true → ranked (stored_at ns c.in_ok-node.node).value ≤ ranked (stored_at ns j).value) c.self.view_is
    (greatest-least t.nodes.items (heap_items t.open) (heap_items c.pop.new.self) c.in_ok-node.field-0-0 c.in_ok-node.node c.self.invariant.1 popped
    (first_le_from_greatest nat_cmp (c.in_ok-node.field-0-0, c.in_ok-node.node) (heap_items t.open) (c.in_ok-node.ensures.heap_order c.self.invariant.0).1))

pub prove-unreachable-requires : goal.prove-unreachable-requires
prove-unreachable-requires c =
    let t = c.self.inside in
    let i = c.in_ok-node.node in
    let popped = c.in_ok-node.ensures.permutation in
    let within = taken-within t.nodes.items (heap_items t.open) c.self.invariant.1 (heap_items c.pop.new.self) c.in_ok-node.field-0-0 i popped in
    let was = taken-open t.nodes.items (heap_items t.open) c.self.invariant.1 (heap_items c.pop.new.self) c.in_ok-node.field-0-0 i popped in
    omega (arith, room-out t.nodes.items i within (ap is_stored_out was), c.self.invariant.3.count, c.len.ensures, c.if-prove.true)
