use Rattle.std.proofs.Common.{ℕ, ◌+◌, ◌<◌, List, length, get_or, sym, subst, arith}
use Rattle.s66_isa.specs.Table.{Instr}
use Rattle.s66_isa.specs.{row}
use Rattle.s66_model.specs.{Problem, row_at}
use Rattle.s66_bound.specs.{Cost, IsCostOf, timed_by}
use Rattle.s66_bound.proofs.CostTables.{costs-push}
use Rattle.s66_bound.proofs.cost.costs_of.Goals as goal

pub loop-position-preserved : goal.loop-position-preserved
loop-position-preserved c =
    let b : Problem = timed_by c.args.block.now c.args.profile.now in
    let e : Cost = c.cost_of.result in
    let last : IsCostOf (row_at b (c.loop-position.position + 1)) e = subst (λ (i : Instr). IsCostOf (row b.profile i) e) c.instr.ensures c.cost_of.ensures in
    record {
      count = omega arith;
      each =
          subst (λ (es : List Cost). (i : ℕ) (d : Cost) → i < length es → IsCostOf (row_at b (i + 1)) (get_or es i d)) (sym c.push.ensures.items)
          (costs-push b c.loop-position.costs.items e c.loop-position.invariant.each (subst (λ k. IsCostOf (row_at b (k + 1)) e) (sym c.loop-position.invariant.count) last));
    }
