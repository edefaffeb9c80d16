use Rattle.std.proofs.Common.{rules, ℕ, ◌+◌, ◌^◌, ◌<◌, Bool, ◌∙◌, ap, sym, arith}
use Rattle.s66_isa.specs.{Row}
use Rattle.s66_model.specs.{row_at, is_remaining}
use Rattle.s66_model.proofs.PointTimes.{good-at}
use Rattle.s66_checker.proofs.NumbersInTurn.{sum_taken, sum_passed, sum_all}
use Rattle.s66_checker.proofs.leaf.remaining_parcels.Goals.{then-is_remaining, else-is_remaining}
use Rattle.s66_checker.proofs.leaf.remaining_parcels.Goals as goal

pub overflow_add-parcels : goal.overflow_add-parcels
overflow_add-parcels c =
    let b = c.args.prefix.now.problem in
    let p = c.loop-position.position in
    let fits : c.loop-position.parcels + c.own_parcels-parcels.result < 2 ^ 32 =
    omega (arith, c.loop-position.invariant.few, c.own_parcels-parcels.ensures, ap (λ (r : Row). r.parcels) c.row.ensures, (good-at b (p + 1)).parcels.1, c.count-position-end.ensures.few)
    in
    search rules

pub loop-position-preserved : goal.loop-position-preserved
loop-position-preserved c =
    let b = c.args.prefix.now.problem in
    let p = c.loop-position.position in
    let test : ℕ → Bool = is_remaining b.block c.args.prefix.now.numbers in
    let f : ℕ → ℕ = λ m. (row_at b m).parcels in
    let inv = c.loop-position.invariant in
    record {
      sum = elim c.if-is_remaining.branch [
        | then-is_remaining w ↦ omega (arith, w.parcels-is, inv.sum, w.own_parcels-parcels.ensures, ap (λ (r : Row). r.parcels) w.row.ensures, sum_taken test f p (sym c.is_remaining.ensures ∙ w.if-is_remaining.true))
        | else-is_remaining w ↦ omega (arith, w.parcels-is, inv.sum, sum_passed test f p (sym c.is_remaining.ensures ∙ w.if-is_remaining.false))
      ];
      few = elim c.if-is_remaining.branch [
        | then-is_remaining w ↦ omega (arith, w.parcels-is, inv.few, w.own_parcels-parcels.ensures, ap (λ (r : Row). r.parcels) w.row.ensures, (good-at b (p + 1)).parcels.1)
        | else-is_remaining w ↦ omega (arith, w.parcels-is, inv.few)
      ];
    }

pub returns-clause-value : goal.returns-clause-value
returns-clause-value c =
    let b = c.args.prefix.now.problem in
    c.loop-position.invariant.sum ∙ sum_all b c.args.prefix.now.numbers (λ m. (row_at b m).parcels) c.loop-position.position (omega (arith, c.count-position-end.ensures.value))
