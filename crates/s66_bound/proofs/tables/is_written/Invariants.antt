use Rattle.std.proofs.Common.{◌≡◌, drop}
use Rattle.s66_isa.specs.{some_of, Write, same_reg}
use Rattle.s66_bound.specs.{Cost}
use Rattle.s66_bound.proofs.tables.is_written.Given as goal

abbrev pub invariant-loop-cost : goal.invariant-loop-cost
invariant-loop-cost l =
    some_of (λ (e : Cost). some_of (λ (w : Write). same_reg w.reg l.register) e.writes.items) (drop l.cost-index l.costs)
    ≡ some_of (λ (e : Cost). some_of (λ (w : Write). same_reg w.reg l.register) e.writes.items) l.costs
