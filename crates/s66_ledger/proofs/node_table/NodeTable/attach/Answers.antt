use Rattle.std.proofs.Common.{true, ◌-◌, ◌≡◌, ◌∙◌, ◌∷◌, List, ap, arith, refl, sym, subst, length, map, heap_items}
use Rattle.std.proofs.lemmas.Result.{on_ok_weaker}
use Rattle.std.proofs.lemmas.List.{length-map}
use Rattle.s66_node.specs.{Node, is_stored_open, Named, named}
use Rattle.s66_node.specs.declared.node.State.TheVariants as state
use Rattle.s66_ledger.specs.{StoresOut, AreOpenNodes, AreCounted, no_stored, stored_at, put_state, is_stored_out, HaveDepths, settled_state, IsGrafting, IsSplitUnder, IsAttachedAs, HaveNames}
use Rattle.s66_ledger.proofs.Attached.{grafting-depths, attached-split, not-open, attached-alone}
use Rattle.s66_ledger.proofs.Grafting.{below-names}
use Rattle.s66_ledger.proofs.Depths.{depths-state}
use Rattle.s66_ledger.proofs.LiveCounts.{counted-set, some-out, one}
use Rattle.s66_ledger.proofs.OpenHeap.{still-shut, out-shut, is-open}
use Rattle.s66_ledger.proofs.node_table.NodeTable.attach.Goals as goal

pub attach_split-requires-clause-names : goal.attach_split-requires-clause-names
attach_split-requires-clause-names c =
    let p = c.args.piece.now in
    let first : p.nodes ≡ c.in-Some.first.now ∷ c.in-Some.below.now = sym c.nodes.ensures.value ∙ c.in-Some.ensures.cases.0 in
    subst (λ n. HaveNames n c.in-Some.below.now) (ap length (sym c.dominances.ensures) ∙ length-map c.dominances.result.now named) (below-names p.problem p.names p.prefix p.nodes c.in-Some.below.now c.in-Some.first.now c.nodes.ensures.tree.nodes first)

pub attach_split-requires-clause-depths : goal.attach_split-requires-clause-depths
attach_split-requires-clause-depths c =
    let p = c.args.piece.now in
    let first : p.nodes ≡ c.in-Some.first.now ∷ c.in-Some.below.now = sym c.nodes.ensures.value ∙ c.in-Some.ensures.cases.0 in
    subst (λ (names : List Named). (all : List Node) → IsGrafting c.args.best c.args.root names c.args.self.now c.in-Some.below.now all → HaveDepths all) (sym c.dominances.ensures)
    (grafting-depths p c.nodes.ensures.tree c.in-Some.first.now c.in-Some.below.now first c.args.best c.args.root c.args.self.now c.requires.out c.requires.over c.requires.room (subst HaveDepths c.self.view_is c.self.invariant.2))

pub returns-in-Split-clause-ok : goal.returns-in-Split-clause-ok
returns-in-Split-clause-ok c =
    let p = c.args.piece.now in
    let first : p.nodes ≡ c.in-Some.first.now ∷ c.in-Some.below.now = sym c.nodes.ensures.value ∙ c.in-Some.ensures.cases.0 in
    let split : c.in-Some.first.now.state ≡ state.Split = c.in-Split.is in
    let new = c.attach_split.new.self in
    let shows : IsSplitUnder c.args.best c.args.root (map named c.dominances.result.now) c.args.self.now c.in-Some.below.now new → IsAttachedAs p c.args.best c.args.root c.args.self.now new =
    λ is. (let under : IsSplitUnder c.args.best c.args.root p.names c.args.self.now c.in-Some.below.now new = subst (λ names. IsSplitUnder c.args.best c.args.root names c.args.self.now c.in-Some.below.now new) c.dominances.ensures is in attached-split p c.nodes.ensures.tree c.in-Some.first.now c.in-Some.below.now first c.args.best c.args.root c.args.self.now c.requires.out c.requires.over c.requires.room split new under c.requires.floors) in
    on_ok_weaker c.attach_split.result shows c.attach_split.ensures.ok

pub returns-then-is_open-clause-ok : goal.returns-then-is_open-clause-ok
returns-then-is_open-clause-ok c =
    let p = c.args.piece.now in
    let first : p.nodes ≡ c.in-Some.first.now ∷ c.in-Some.below.now = sym c.nodes.ensures.value ∙ c.in-Some.ensures.cases.0 in
    let moved : c.give_back.new.self ≡ put_state c.args.self.now c.args.root (settled_state c.args.best c.in-Some.first.now.value c.in-Some.first.now.state) = c.in_ok-give_back.ensures.ok ∙ ap (put_state c.args.self.now c.args.root) (sym (is-open c.settled_state.result (sym c.is_open.ensures ∙ c.if-is_open.true)) ∙ c.settled_state.ensures) in
    attached-alone p c.nodes.ensures.tree c.in-Some.first.now c.in-Some.below.now first c.in_default-state.not-Split c.args.best c.args.root c.args.self.now _ c.requires.out c.requires.over moved c.requires.floors

pub returns-clause-ok : goal.returns-clause-ok
returns-clause-ok c =
    let p = c.args.piece.now in
    let first : p.nodes ≡ c.in-Some.first.now ∷ c.in-Some.below.now = sym c.nodes.ensures.value ∙ c.in-Some.ensures.cases.0 in
    let moved : c.set_state.new.nodes.items ≡ put_state c.args.self.now c.args.root (settled_state c.args.best c.in-Some.first.now.value c.in-Some.first.now.state) = c.set_state.ensures ∙ (ap (λ (ns : List Node). put_state ns c.args.root state.Closed) c.self.view_is ∙ ap (put_state c.args.self.now c.args.root) (sym (not-open c.args.best c.in-Some.first.now.value c.in-Some.first.now.state c.in_default-state.not-Split (ap is_stored_open (sym c.settled_state.ensures) ∙ (sym c.is_open.ensures ∙ c.if-is_open.false))))) in
    attached-alone p c.nodes.ensures.tree c.in-Some.first.now c.in-Some.below.now first c.in_default-state.not-Split c.args.best c.args.root c.args.self.now _ c.requires.out c.requires.over moved c.requires.floors

pub invariant_of-self : goal.invariant_of-self
invariant_of-self c =
    let t = c.self.inside in
    let nodes = t.nodes.items in
    let i = c.args.root in
    let out : StoresOut nodes i = subst (λ ns. StoresOut ns i) (sym c.self.view_is) c.requires.out in
    let moved = c.set_state.ensures in (
      c.self.invariant.0,
      subst (λ ns. AreOpenNodes ns (heap_items t.open)) (sym moved) (still-shut nodes (heap_items t.open) c.self.invariant.1 i _ out.0 (out-shut nodes i out.1) refl refl),
      subst HaveDepths (sym moved) (depths-state nodes i state.Closed out.0 c.self.invariant.2),
      subst (λ ns. AreCounted ns (t.out - 1) t.deepest) (sym moved)
          (counted-set nodes i (record (stored_at nodes i) { state = state.Closed }) no_stored t.out (t.out - 1) t.deepest out.0 c.self.invariant.3
          (omega (arith, one (is_stored_out (stored_at nodes i).state) true (ap is_stored_out out.1), some-out nodes i out, c.self.invariant.3.count))
          (λ live. absurd cc)),
    )

pub overflow_sub-self : goal.overflow_sub-self
overflow_sub-self c =
    let t = c.self.inside in
    let out : StoresOut t.nodes.items c.args.root = subst (λ ns. StoresOut ns c.args.root) (sym c.self.view_is) c.requires.out in
    omega (arith, some-out t.nodes.items c.args.root out, c.self.invariant.3.count)
