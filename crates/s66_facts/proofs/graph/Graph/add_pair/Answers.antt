use Rattle.std.proofs.Common.{◌-◌, List, get_or, sym, ap, subst, ◌∙◌}
use Rattle.s66_isa.specs.{Set, has, numbers_in, no_set}
use Rattle.s66_facts.specs.{before_in, AreNear, Ground}
use Rattle.s66_facts.proofs.PairTaken.{pair-taken}
use Rattle.s66_facts.proofs.graph.Graph.add_pair.Goals as goal

pub near_each-near_before-requires-clause-apart : goal.near_each-near_before-requires-clause-apart
near_each-near_before-requires-clause-apart c = λ i is_i.
    let taken = pair-taken _ _ c.self.view_is c.args.m c.args.n c.self.inside.after.items _ _ c.with_pair-before.result.items c.with_pair-after.result.items c.self.invariant.ordered c.self.invariant.count c.self.invariant.turned
    c.requires.m c.requires.n c.requires.differ c.requires.turned c.as_slice.ensures.value c.as_slice-2.ensures.value c.with_pair-before.ensures.count c.with_pair-before.ensures.pairs c.with_pair-after.ensures.count c.with_pair-after.ensures.pairs in
    ap (λ (ms : List Set). has i (numbers_in (get_or ms (i - 1) no_set))) c.as_slice-3.ensures.value ∙ taken.apart i is_i

pub near_each-near_before-requires-clause-more : goal.near_each-near_before-requires-clause-more
near_each-near_before-requires-clause-more c = λ i j first.
    let taken = pair-taken _ _ c.self.view_is c.args.m c.args.n c.self.inside.after.items _ _ c.with_pair-before.result.items c.with_pair-after.result.items c.self.invariant.ordered c.self.invariant.count c.self.invariant.turned
    c.requires.m c.requires.n c.requires.differ c.requires.turned c.as_slice.ensures.value c.as_slice-2.ensures.value c.with_pair-before.ensures.count c.with_pair-before.ensures.pairs c.with_pair-after.ensures.count c.with_pair-after.ensures.pairs in
    ap (λ (ms : List Set). before_in ms i j) c.as_slice-3.ensures.value ∙ taken.more i j (ap (λ (ms : List Set). before_in ms i j) (sym c.as_slice-4.ensures.value) ∙ first)

pub near_each-near_after-requires-clause-apart : goal.near_each-near_after-requires-clause-apart
near_each-near_after-requires-clause-apart c = λ i is_i.
    let taken = pair-taken _ _ c.self.view_is c.args.m c.args.n c.self.inside.after.items _ _ c.with_pair-before.result.items c.with_pair-after.result.items c.self.invariant.ordered c.self.invariant.count c.self.invariant.turned
    c.requires.m c.requires.n c.requires.differ c.requires.turned c.as_slice.ensures.value c.as_slice-2.ensures.value c.with_pair-before.ensures.count c.with_pair-before.ensures.pairs c.with_pair-after.ensures.count c.with_pair-after.ensures.pairs in
    ap (λ (ms : List Set). has i (numbers_in (get_or ms (i - 1) no_set))) c.as_slice-6.ensures.value ∙ taken.after_apart i is_i

pub near_each-near_after-requires-clause-more : goal.near_each-near_after-requires-clause-more
near_each-near_after-requires-clause-more c = λ i j first.
    let taken = pair-taken _ _ c.self.view_is c.args.m c.args.n c.self.inside.after.items _ _ c.with_pair-before.result.items c.with_pair-after.result.items c.self.invariant.ordered c.self.invariant.count c.self.invariant.turned
    c.requires.m c.requires.n c.requires.differ c.requires.turned c.as_slice.ensures.value c.as_slice-2.ensures.value c.with_pair-before.ensures.count c.with_pair-before.ensures.pairs c.with_pair-after.ensures.count c.with_pair-after.ensures.pairs in
    ap (λ (ms : List Set). before_in ms i j) c.as_slice-6.ensures.value ∙ taken.after_more i j (ap (λ (ms : List Set). before_in ms i j) (sym c.as_slice-7.ensures.value) ∙ first)

pub invariant_of-self : goal.invariant_of-self
invariant_of-self c =
    let g : Ground = record { problem = record { block = c.self.inside.block.items; profile = c.self.inside.profile }; marks = c.self.inside.before.items; loads = c.self.inside.loads } in
    let taken = pair-taken _ _ c.self.view_is c.args.m c.args.n c.self.inside.after.items _ _ c.with_pair-before.result.items c.with_pair-after.result.items c.self.invariant.ordered c.self.invariant.count c.self.invariant.turned
    c.requires.m c.requires.n c.requires.differ c.requires.turned c.as_slice.ensures.value c.as_slice-2.ensures.value c.with_pair-before.ensures.count c.with_pair-before.ensures.pairs c.with_pair-after.ensures.count c.with_pair-after.ensures.pairs in
    record {
      ordered = taken.order;
      known_rows = c.self.invariant.known_rows;
      count = taken.after_count;
      turned = λ i j. taken.turned i j;
      near_before = subst (λ (ms : List Set). AreNear g.problem ms c.near_each-near_before.result.items) c.as_slice-3.ensures.value (subst (λ (k : Ground). AreNear k.problem c.as_slice-3.result.now c.near_each-near_before.result.items) (sym c.self.view_is) c.near_each-near_before.ensures);
      near_after = subst (λ (ms : List Set). AreNear g.problem ms c.near_each-near_after.result.items) c.as_slice-6.ensures.value (subst (λ (k : Ground). AreNear k.problem c.as_slice-6.result.now c.near_each-near_after.result.items) (sym c.self.view_is) c.near_each-near_after.ensures);
    }
