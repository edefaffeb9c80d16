use Rattle.std.proofs.Common.{◌≡◌, ◌<◌, true, arith, length, ◌∙◌, ◌∷◌, ap, refl, sym, subst, heap_items, IsPermutation}
use Rattle.s66_node.specs.{Node, is_stored_live}
use Rattle.s66_node.specs.declared.node.State.TheVariants as state
use Rattle.s66_ledger.specs.{no_stored, stored_at, is_stored_out, rank_of}
use Rattle.s66_ledger.proofs.Depths.{depths-set}
use Rattle.s66_ledger.proofs.LiveCounts.{counted-set, some-out, one}
use Rattle.s66_ledger.proofs.NodePrefixes.{get_or-any}
use Rattle.s66_ledger.proofs.OpenHeap.{put-in, out-shut}
use Rattle.s66_ledger.proofs.node_table.NodeTable.give_back.Goals as goal

pub invariant_of-self-2 : goal.invariant_of-self-2
invariant_of-self-2 c =
    let t = c.self.inside in
    let i = c.args.node in
    let node = c.index_mut.result.now in
    let y : Node = record { parent = node.parent; value = node.value; number = node.number; depth = node.depth; made = node.made; state = state.Open } in
    let out = subst (λ ns. (i < length ns) × ((stored_at ns i).state ≡ state.Out)) (sym c.self.view_is) c.requires in
    let was = ap (λ (x : Node). x.value) c.index.ensures ∙ get_or-any t.nodes.items i c.index.result.now no_stored (λ x. x.value) out.0 in
    let now = ap (λ (x : Node). x.value) c.index_mut.ensures.value ∙ get_or-any t.nodes.items i c.index_mut.result.now no_stored (λ x. x.value) out.0 in
    let pushed = subst (λ v. IsPermutation ((v, i) ∷ heap_items t.open) (heap_items c.push.new.self)) (c.rank_of-rank.ensures.value ∙ ap (λ v. rank_of v c.index-2.result.now.depth) (was ∙ sym now)) c.in_ok-push.ensures.permutation in
    let at : node ≡ stored_at t.nodes.items i = c.index_mut.ensures.value ∙ get_or-any t.nodes.items i c.index_mut.result.now no_stored (λ x. x) out.0 in (
      c.in_ok-push.ensures.heap_order c.self.invariant.0,
      put-in t.nodes.items (heap_items t.open) c.self.invariant.1 i _ out.0 (out-shut t.nodes.items i out.1) now (heap_items c.push.new.self) c.index-2.result.now.depth refl c.rank_of-rank.ensures.few pushed,
      depths-set t.nodes.items i y node out.0 (ap (λ (x : Node). x.parent) c.index_mut.ensures.value) (ap (λ (x : Node). x.number) c.index_mut.ensures.value) (ap (λ (x : Node). x.depth) c.index_mut.ensures.value) c.self.invariant.2,
      counted-set t.nodes.items i y no_stored t.out _ t.deepest out.0 c.self.invariant.3
          (omega (arith, one (is_stored_out (stored_at t.nodes.items i).state) true (ap is_stored_out out.1), some-out t.nodes.items i out, c.self.invariant.3.count))
          (λ live. omega (arith, ap (λ (x : Node). x.depth) at, c.self.invariant.3.within i (ap is_stored_live out.1))),
    )

pub overflow_sub-self : goal.overflow_sub-self
overflow_sub-self c =
    let t = c.self.inside in
    let out = subst (λ ns. (c.args.node < length ns) × ((stored_at ns c.args.node).state ≡ state.Out)) (sym c.self.view_is) c.requires in
    omega (arith, some-out t.nodes.items c.args.node out, c.self.invariant.3.count)
