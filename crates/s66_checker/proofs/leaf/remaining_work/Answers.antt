use Rattle.std.proofs.Common.{rules, ℕ, ◌+◌, ◌^◌, ◌<◌, Bool, ◌∙◌, ap, sym, arith}
use Rattle.s66_isa.specs.{Row}
use Rattle.s66_model.specs.{row_at, is_remaining, work_of}
use Rattle.s66_model.proofs.PointTimes.{good-at}
use Rattle.s66_checker.proofs.LeafBounds.{work-most}
use Rattle.s66_checker.proofs.NumbersInTurn.{sum_taken, sum_passed, sum_all}
use Rattle.s66_checker.proofs.leaf.remaining_work.Goals.{then-is_remaining, else-is_remaining}
use Rattle.s66_checker.proofs.leaf.remaining_work.Goals as goal

pub overflow_add-sum : goal.overflow_add-sum
overflow_add-sum c =
    let b = c.args.prefix.now.problem in
    let p = c.loop-position.position in
    let fits : c.loop-position.sum + c.work-sum.result < 2 ^ 32 =
    omega (arith, c.loop-position.invariant.few, c.work-sum.ensures, ap (λ (r : Row). work_of c.args.kind r) c.row.ensures, work-most c.args.kind (row_at b (p + 1)) (good-at b (p + 1)), c.count-position-end.ensures.few)
    in
    search rules

pub loop-position-preserved : goal.loop-position-preserved
loop-position-preserved c =
    let b = c.args.prefix.now.problem in
    let p = c.loop-position.position in
    let test : ℕ → Bool = is_remaining b.block c.args.prefix.now.numbers in
    let f : ℕ → ℕ = λ m. work_of c.args.kind (row_at b m) in
    let inv = c.loop-position.invariant in
    record {
      sum = elim c.if-is_remaining.branch [
        | then-is_remaining w ↦ omega (arith, w.sum-is, inv.sum, w.work-sum.ensures, ap (λ (r : Row). work_of c.args.kind r) w.row.ensures, sum_taken test f p (sym c.is_remaining.ensures ∙ w.if-is_remaining.true))
        | else-is_remaining w ↦ omega (arith, w.sum-is, inv.sum, sum_passed test f p (sym c.is_remaining.ensures ∙ w.if-is_remaining.false))
      ];
      few = elim c.if-is_remaining.branch [
        | then-is_remaining w ↦ omega (arith, w.sum-is, inv.few, w.work-sum.ensures, ap (λ (r : Row). work_of c.args.kind r) w.row.ensures, work-most c.args.kind (row_at b (p + 1)) (good-at b (p + 1)))
        | else-is_remaining w ↦ omega (arith, w.sum-is, inv.few)
      ];
    }

pub returns-clause-value : goal.returns-clause-value
returns-clause-value c =
    let b = c.args.prefix.now.problem in
    c.loop-position.invariant.sum ∙ sum_all b c.args.prefix.now.numbers (λ m. work_of c.args.kind (row_at b m)) c.loop-position.position (omega (arith, c.count-position-end.ensures.value))
