use Rattle.std.proofs.Common.{List, ◌≡◌, ◌∙◌, ◌∷◌, ◌++◌, [], ap, sym, subst, heap_items, IsPermutation}
use Rattle.s66_node.specs.{Node}
use Rattle.s66_ledger.specs.{HaveDepths, AreOpenNodes, rank_of, AreCounted}
use Rattle.s66_ledger.proofs.Depths.{depths-first}
use Rattle.s66_ledger.proofs.LiveCounts.{counted-first}
use Rattle.s66_ledger.proofs.OpenHeap.{first-open}
use Rattle.s66_ledger.proofs.node_table.NodeTable.new.Goals as goal

pub invariant_of-result : goal.invariant_of-result
invariant_of-result c =
    let nodes : c.push.new.self.items ≡ c.new.result ∷ [] = c.in_ok-push.ensures.items ∙ ap (λ (ns : List Node). ns ++ c.new.result ∷ []) c.new-nodes.ensures.items in
    let pushed = subst (λ r. IsPermutation ((r, 0) ∷ heap_items c.new-open.result) (heap_items c.push-2.new.self)) (c.rank_of.ensures.value ∙ ap (λ (n : Node). rank_of n.value 0) (sym c.new.ensures)) c.in_ok-push-2.ensures.permutation in (
      c.in_ok-push-2.ensures.heap_order c.new-open.ensures.heap_order,
      subst (λ ns. AreOpenNodes ns (heap_items c.push-2.new.self)) (sym nodes)
          (first-open c.new.result (heap_items c.new-open.result) (heap_items c.push-2.new.self) (ap (λ (n : Node). n.state) c.new.ensures) c.new-open.ensures.items pushed),
      subst HaveDepths (sym nodes) (depths-first c.new.result (ap (λ (n : Node). n.depth) c.new.ensures)),
      subst (λ ns. AreCounted ns 0 0) (sym nodes) (counted-first c.new.result (ap (λ (n : Node). n.state) c.new.ensures) (ap (λ (n : Node). n.depth) c.new.ensures)),
    )
