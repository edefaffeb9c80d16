use Rattle.std.proofs.Common.{◌+◌, max, ap, sym, arith, ◌∙◌}
use Rattle.s66_isa.specs.{greatest, rising}
use Rattle.s66_model.specs.{row_at, tail, walk_to}
use Rattle.s66_model.proofs.TailTable.{table-step}
use Rattle.s66_bound.specs.{Cost}
use Rattle.s66_bound.proofs.CostTables.{cost-at}
use Rattle.s66_bound.proofs.LongestWalks.{walks-back, greatest-next}
use Rattle.s66_bound.proofs.longest.longest_from.Goals as goal

pub loop-later-init : goal.loop-later-init
loop-later-init c = λ b are known.
    let n = c.args.place + 1 in
    let first = cost-at b c.args.costs.now c.args.place c.index-costs-place.result are c.requires.place c.index-costs-place.is in
    omega (arith, ap (λ (e : Cost). e.tail) c.index-costs-place.is, first.tail, walks-back b n n (omega arith))

pub loop-later-preserved : goal.loop-later-preserved
loop-later-preserved c = λ b are known.
    omega (arith, c.max-last.ensures, c.walk_to.ensures b are known, c.loop-later.invariant b are known, greatest-next (walk_to b (c.args.place + 1)) c.loop-later.later)

pub returns : goal.returns
returns c = λ b are known.
    let n = c.args.place + 1 in
    c.loop-later.invariant b are known
    ∙ (ap (λ k. max (tail (row_at b n)) (greatest (walk_to b n) (rising k 1))) (omega (arith, c.loop-later-test.false, c.loop-later.auto.later-end, are.count))
    ∙ sym (table-step b n (omega arith) (omega (arith, are.count, c.requires.place))))
