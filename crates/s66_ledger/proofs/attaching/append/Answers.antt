use Rattle.std.proofs.Common.{◌+◌, ◌≡◌, ◌∙◌, ◌++◌, ◌∷◌, [], arith, ap, sym, subst, length, take, map, heap_items, true≢false, length-take, take_all, IsPermutation}
use Rattle.s66_node.specs.{named}
use Rattle.s66_ledger.specs.{stored_at, IsGrafting}
use Rattle.s66_ledger.specs.Grafting.{Grafts}
use Rattle.s66_ledger.proofs.LiveCounts.{counted-push, shut-in}
use Rattle.s66_ledger.proofs.OpenHeap.{more-open, more-shut}
use Rattle.s66_ledger.proofs.Grafting.{grafting-length, grafting-more, grafts-in, grafts-index, names-index}
use Rattle.s66_ledger.proofs.attaching.append.Goals.{then-is_open+in-Ok, else-is_open}
use Rattle.s66_ledger.proofs.attaching.append.Goals as goal

pub grafted-node-requires : goal.grafted-node-requires
grafted-node-requires c is = names-index (length c.args.dominances.now) c.args.below.now c.loop-i.i _ c.requires.names c.loop-i-test.true is

pub loop-i-preserved : goal.loop-i-preserved
loop-i-preserved c =
    let made = c.args.nodes.now.items in
    let below = c.args.below.now in
    let names = map named c.args.dominances.now in
    let l = c.loop-i in
    let x = stored_at below l.i in
    let y = c.grafted-node.result in
    let new = c.push_reserved.new.self.items in
    let behind : c.len-first.result ≡ length made = omega (arith, c.len-first.ensures, ap length c.reserve-2.ensures.items) in
    let so_far : length l.nodes.items ≡ c.len-first.result + l.i = omega (arith, behind, grafting-length c.args.best c.args.root names made (take l.i below) l.nodes.items l.invariant.nodes, length-take l.i below, c.loop-i-test.true) in
    let grafts : Grafts c.args.best c.args.root (length made) names l.nodes.items x y =
    subst (λ k. Grafts c.args.best c.args.root k names l.nodes.items x y) behind
    (subst (λ ns. Grafts c.args.best c.args.root c.len-first.result names ns x y) c.as_slice.ensures.value
    (grafts-index c.args.best c.args.root c.len-first.result names c.as_slice.result.now below l.i _ y c.loop-i-test.true c.grafted-node.ensures)) in
    let in_table = grafts-in c.args.best c.args.root (length made) names l.nodes.items x y grafts in
    let put : new ≡ l.nodes.items ++ y ∷ [] = c.push_reserved.ensures.items in
    let all : IsGrafting c.args.best c.args.root names made (take (l.i + 1) below) new =
    subst (IsGrafting c.args.best c.args.root names made (take (l.i + 1) below)) (sym put) (grafting-more c.args.best c.args.root names made below l.nodes.items l.i y l.invariant.nodes c.loop-i-test.true grafts) in
    elim c.if-is_open.branch [
      | then-is_open+in-Ok w ↦
          (let pushed : IsPermutation ((w.rank_of.result, length l.nodes.items) ∷ heap_items l.heap) (heap_items w.push.new.self) = subst (λ k. IsPermutation ((w.rank_of.result, k) ∷ heap_items l.heap) (heap_items w.push.new.self)) (sym so_far) w.in-Ok.ensures.permutation in
          record {
            nodes = all;
            heap = rw w.heap-is (w.in-Ok.ensures.heap_order l.invariant.heap);
            listed = rw (w.heap-is, put) (more-open l.nodes.items y (heap_items l.heap) l.invariant.listed (heap_items w.push.new.self) y.depth (sym c.is_open.ensures ∙ w.if-is_open.true) w.rank_of.ensures.few (subst (λ r. IsPermutation ((r, length l.nodes.items) ∷ heap_items l.heap) (heap_items w.push.new.self)) w.rank_of.ensures.value pushed));
            counted = λ out are. rw put (counted-push l.nodes.items y out l.deepest _ (l.invariant.counted out are) in_table (omega arith) (λ live. omega arith));
            heap_room = rw w.heap-is (omega (arith, l.invariant.heap_room, w.in-Ok.ensures.len, w.in-Ok.ensures.capacity, w.push.ensures.capacity, c.loop-i-test.true));
            room = omega (arith, l.invariant.room, c.push_reserved.ensures.len, c.push_reserved.ensures.capacity, c.loop-i-test.true);
          })
      | else-is_open w ↦
          record {
            nodes = all;
            heap = rw w.heap-is l.invariant.heap;
            listed = rw (w.heap-is, put) (more-shut l.nodes.items y (heap_items l.heap) l.invariant.listed (sym c.is_open.ensures ∙ w.if-is_open.false));
            counted = λ out are. rw (w.deepest-is, put) (counted-push l.nodes.items y out l.deepest l.deepest (l.invariant.counted out are) in_table (omega arith) (λ live. absurd (true≢false (sym live ∙ shut-in y.state (sym c.is_open.ensures ∙ w.if-is_open.false) in_table))));
            heap_room = rw w.heap-is (omega (arith, l.invariant.heap_room));
            room = omega (arith, l.invariant.room, c.push_reserved.ensures.len, c.push_reserved.ensures.capacity, c.loop-i-test.true);
          }
    ]

pub returns-clause-ok : goal.returns-clause-ok
returns-clause-ok c =
    subst (λ xs. IsGrafting c.args.best c.args.root (map named c.args.dominances.now) c.args.nodes.now.items xs c.loop-i.nodes.items) (take_all c.loop-i.i c.args.below.now c.loop-i-test.false) c.loop-i.invariant.nodes
