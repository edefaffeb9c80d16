use Rattle.std.proofs.Common.{◌-◌, true, arith, ap, refl, sym, subst, heap_items, map}
use Rattle.s66_node.specs.declared.node.State.TheVariants as state
use Rattle.s66_node.specs.{named}
use Rattle.s66_ledger.specs.{no_stored, stored_at, HaveDepths, is_stored_out, AreOpenNodes, StoresOut, IsGrafting, AreCounted}
use Rattle.s66_ledger.proofs.Grafting.{grafting-out}
use Rattle.s66_ledger.proofs.Depths.{depths-state}
use Rattle.s66_ledger.proofs.LiveCounts.{counted-set, some-out, one}
use Rattle.s66_ledger.proofs.OpenHeap.{still-shut, out-shut}
use Rattle.s66_ledger.proofs.node_table.NodeTable.attach_split.Goals as goal

pub invariant_of-self-2 : goal.invariant_of-self-2
invariant_of-self-2 c =
    let made = c.args.self.now in
    let root = c.args.root in
    let below = c.args.below.now in
    let names = map named c.args.dominances.now in
    let nodes = c.append.new.nodes.items in
    let entries = heap_items c.append.new.heap in
    let grafting : IsGrafting c.args.best root names made below nodes = subst (λ xs. IsGrafting c.args.best root names xs below nodes) c.self.view_is c.in_ok-deepest.ensures.ok in
    let now = c.set_state.ensures in
    let out : StoresOut nodes root = grafting-out c.args.best root names made below nodes grafting root c.requires.out in
    let depths : HaveDepths nodes = c.requires.depths nodes grafting in
    let t = c.self.inside in
    let counted : AreCounted nodes t.out c.in_ok-deepest.deepest = c.in_ok-deepest.ensures.counted t.out c.self.invariant.3 in (
      c.in_ok-deepest.ensures.heap,
      subst (λ ns. AreOpenNodes ns entries) (sym now) (still-shut nodes entries c.in_ok-deepest.ensures.open_nodes root _ out.0 (out-shut nodes root out.1) refl refl),
      subst HaveDepths (sym now) (depths-state nodes root state.Split out.0 depths),
      subst (λ ns. AreCounted ns (t.out - 1) c.in_ok-deepest.deepest) (sym now)
          (counted-set nodes root (record (stored_at nodes root) { state = state.Split }) no_stored t.out (t.out - 1) c.in_ok-deepest.deepest out.0 counted
          (omega (arith, one (is_stored_out (stored_at nodes root).state) true (ap is_stored_out out.1), some-out nodes root out, counted.count))
          (λ live. absurd cc)),
    )

pub returns-clause-ok : goal.returns-clause-ok
returns-clause-ok c = record {
  all = c.append.new.nodes.items;
  grafting = subst (λ xs. IsGrafting c.args.best c.args.root (map named c.args.dominances.now) xs c.args.below.now c.append.new.nodes.items) c.self.view_is c.in_ok-deepest.ensures.ok;
  split = c.set_state.ensures;
}

pub overflow_sub-self : goal.overflow_sub-self
overflow_sub-self c =
    let t = c.self.inside in
    let out : StoresOut t.nodes.items c.args.root = subst (λ ns. StoresOut ns c.args.root) (sym c.self.view_is) c.requires.out in
    omega (arith, some-out t.nodes.items c.args.root out, c.self.invariant.3.count)
