use Rattle.std.proofs.Common.{◌≡◌, ◌∙◌, ◌-◌, List, ℕ, length, take, ap, sym, arith}
use Rattle.s66_isa.specs.{has}
use Rattle.s66_time.specs.Ticking.{Ticking}
use Rattle.s66_node.proofs.Standing.{walked-undo, last-range, last-ranked, ranks-undo, front-back, front-stays}
use Rattle.s66_node.proofs.walk.Walk.undo.Goals as goal

pub rank-requires : goal.rank-requires
rank-requires c =
    last-ranked c.self.inside.clock _ _ _ _ _ c.args.self.now c.self.invariant c.self.view_is c.pop.new.self.items c.in-Some.n c.in-Some.ensures.items

pub ready_before-requires : goal.ready_before-requires
ready_before-requires c =
    last-range c.self.inside.clock _ _ _ _ _ c.args.self.now c.self.invariant c.self.view_is c.pop.new.self.items c.in-Some.n c.in-Some.ensures.items

pub invariant_of-self : goal.invariant_of-self
invariant_of-self c =
    let left = c.pop.new.self.items in
    let numbers : c.undo.new.self.numbers ≡ left =
    ap (λ (x : Ticking). x.numbers) c.undo.ensures.value ∙ (ap (λ (xs : List ℕ). take (length xs - 1) xs) (sym c.self.invariant.numbers) ∙ sym c.pop.ensures.rest)
    in
    walked-undo c.self.inside.clock _ _ _ _ _ c.args.self.now c.self.invariant c.self.view_is c.undo.new.self left c.with-self-inside.result _
    (ranks-undo c.self.inside.clock _ _ _ _ _ c.args.self.now c.self.invariant c.self.view_is left c.in-Some.n c.in-Some.ensures.items c.rank.result c.with-self-inside.result c.rank.ensures.value c.with-self-inside.ensures)
    c.undo.ensures.value c.pop.ensures.rest
    (front-back c.self.inside.clock _ _ _ _ _ c.args.self.now c.self.invariant c.self.view_is left c.in-Some.n c.in-Some.ensures.items _ (omega (arith, c.if-len-self.true, c.len.ensures.value)) c.len-then-len-self.ensures.value
    (λ m. c.pushed.ensures.value m ∙ ap (has m) numbers) c.ready_before.ensures)

pub invariant_of-self-else-len-self : goal.invariant_of-self-else-len-self
invariant_of-self-else-len-self c =
    walked-undo c.self.inside.clock _ _ _ _ _ c.args.self.now c.self.invariant c.self.view_is c.undo.new.self c.pop.new.self.items c.with-self-inside.result _
    (ranks-undo c.self.inside.clock _ _ _ _ _ c.args.self.now c.self.invariant c.self.view_is c.pop.new.self.items c.in-Some.n c.in-Some.ensures.items c.rank.result c.with-self-inside.result c.rank.ensures.value c.with-self-inside.ensures)
    c.undo.ensures.value c.pop.ensures.rest
    (front-stays c.self.inside.clock _ _ _ _ _ c.args.self.now c.self.invariant c.self.view_is c.pop.new.self.items c.in-Some.n c.in-Some.ensures.items (omega (arith, c.if-len-self.false, c.len.ensures.value)))
