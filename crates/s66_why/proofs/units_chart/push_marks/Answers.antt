use Rattle.std.specs.List.{range_with_len}
use Rattle.std.proofs.Common.{◌≡◌, ◌+◌, ◌-◌, ◌∙◌, [], ◌∷◌, ◌++◌, ap, append_assoc, arith, map, suc, sym}
use Rattle.s66_why.specs.{cell}
use Rattle.s66_why.proofs.units_chart.push_marks.Goals as goal

pub loop-cycle-preserved : goal.loop-cycle-preserved
loop-cycle-preserved c =
    let xs = c.args.reservations.now in
    let i = c.loop-cycle.cycle in
    let out = c.loop-cycle.out.items in
    let left = map (cell xs) (range_with_len (i + 1) (c.args.cycles - (i + 1))) in
    let n : c.args.cycles - i ≡ suc (c.args.cycles - (i + 1)) = omega (arith, c.loop-cycle-test.true) in
    ap (λ ys. ys ++ left) (c.in_ok-push.ensures.items ∙ ap (λ mark. out ++ mark ∷ []) c.cell.ensures) ∙ append_assoc out (cell xs i ∷ []) left ∙ sym (ap (λ k. out ++ map (cell xs) (range_with_len i k)) n)
    ∙ c.loop-cycle.invariant
