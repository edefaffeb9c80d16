use Rattle.std.proofs.Common.{rules, ℕ, ◌+◌, ◌^◌, ◌≤◌, ◌<◌, Bool, true, false, cond, ◌∙◌, sym, arith}
use Rattle.s66_model.specs.{Problem, row_at, is_remaining}
use Rattle.s66_model.proofs.PointTimes.{good-at}
use Rattle.s66_facts.specs.{known_of as known_in}
use Rattle.s66_checker.proofs.NumbersInTurn.{sum_taken, sum_passed, sum_all}
use Rattle.s66_checker.proofs.in_use.parcels_before.Goals.{then-is_remaining, else-is_remaining}
use Rattle.s66_checker.proofs.in_use.parcels_before.Goals as goal

at_most_two : (b : Problem) (n : ℕ) (test : Bool) → cond test (row_at b n).parcels 0 ≤ 2
at_most_two b n true = omega (arith, (good-at b n).parcels.1)
at_most_two b n false = omega arith

pub overflow_add-parcels : goal.overflow_add-parcels
overflow_add-parcels c =
    let b = c.args.prefix.now.problem in
    let p = c.loop-position.position in
    let fits : c.loop-position.parcels + c.parcels_if_before-parcels.result < 2 ^ 32 =
    omega (arith, c.loop-position.invariant.few, c.parcels_if_before-parcels.ensures, at_most_two b (p + 1) ((known_in c.args.known.now).before (p + 1) c.args.n), c.count-position-end.ensures.few)
    in
    search rules

pub loop-position-preserved : goal.loop-position-preserved
loop-position-preserved c =
    let b = c.args.prefix.now.problem in
    let p = c.loop-position.position in
    let test : ℕ → Bool = is_remaining b.block c.args.prefix.now.numbers in
    let f : ℕ → ℕ = λ m. cond ((known_in c.args.known.now).before m c.args.n) (row_at b m).parcels 0 in
    let inv = c.loop-position.invariant in
    record {
      sum = elim c.if-is_remaining.branch [
        | then-is_remaining w ↦ omega (arith, w.parcels-is, inv.sum, w.parcels_if_before-parcels.ensures, sum_taken test f p (sym c.is_remaining.ensures ∙ w.if-is_remaining.true))
        | else-is_remaining w ↦ omega (arith, w.parcels-is, inv.sum, sum_passed test f p (sym c.is_remaining.ensures ∙ w.if-is_remaining.false))
      ];
      few = elim c.if-is_remaining.branch [
        | then-is_remaining w ↦ omega (arith, w.parcels-is, inv.few, w.parcels_if_before-parcels.ensures, at_most_two b (p + 1) ((known_in c.args.known.now).before (p + 1) c.args.n))
        | else-is_remaining w ↦ omega (arith, w.parcels-is, inv.few)
      ];
    }

pub returns-clause-value : goal.returns-clause-value
returns-clause-value c =
    let b = c.args.prefix.now.problem in
    c.loop-position.invariant.sum ∙ sum_all b c.args.prefix.now.numbers (λ m. cond ((known_in c.args.known.now).before m c.args.n) (row_at b m).parcels 0) c.loop-position.position (omega (arith, c.count-position-end.ensures.value))
