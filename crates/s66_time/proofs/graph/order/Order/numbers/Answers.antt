use Rattle.std.proofs.Common.{ℕ, ◌≡◌, ◌≤◌, ◌<◌, ap, length, get_or, subst, sym, List}
use Rattle.s66_isa.specs.{Instr}
use Rattle.s66_time.specs.Ordered.{Ordered}
use Rattle.s66_time.proofs.OrderNumbers.{legal-range}
use Rattle.s66_time.proofs.graph.order.Order.numbers.Goals as goal

pub returns-clause-range : goal.returns-clause-range
returns-clause-range c =
    let block : c.self.inside.instrs.items ≡ c.args.self.now.block = ap (λ (o : Ordered). o.block) c.self.view_is in
    subst (λ (is : List Instr). (i d : ℕ) → i < length c.as_slice.result.now → (1 ≤ get_or c.as_slice.result.now i d) × (get_or c.as_slice.result.now i d ≤ length is)) block
    (subst (λ (ns : List ℕ). (i d : ℕ) → i < length ns → (1 ≤ get_or ns i d) × (get_or ns i d ≤ length c.self.inside.instrs.items)) (sym c.as_slice.ensures.value)
    (legal-range c.self.inside.instrs.items c.self.inside.order.items c.self.invariant.legal))
