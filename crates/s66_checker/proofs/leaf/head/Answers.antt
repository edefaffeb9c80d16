use Rattle.std.proofs.Common.{◌∙◌, ◌≡◌, ap, sym, max, reverse, arith}
use Rattle.s66_isa.specs.{greatest, Row, Write}
use Rattle.s66_model.specs.{row_at, points_of, done_of, next, head}
use Rattle.s66_checker.proofs.LeafBounds.{head-looked, head-le}
use Rattle.s66_checker.proofs.leaf.head.Goals as goal

slot : (c : goal.After-max-2) → c.next.result ≡ next (reverse c.past-past.result.now)
slot c = c.next.ensures.value ∙ ap next (c.points.ensures.value ∙ sym c.past-past.ensures.value)

made : (c : goal.After-max-2) → c.max-2.result ≡ head (points_of c.args.prefix.now.problem c.args.prefix.now.numbers) (row_at c.args.prefix.now.problem c.args.n)
made c =
    let b = c.args.prefix.now.problem in
    let xs = c.past-past.result.now in
    let row = c.row.view_is ∙ c.row-row.ensures in
    let read = c.registers_done-read.ensures ∙ ap (greatest (λ x. done_of xs x)) c.as_slice.ensures.value ∙ ap (λ (r : Row). greatest (λ x. done_of xs x) r.reads) row in
    let written = c.writes_done-written.ensures ∙ ap (greatest (λ (w : Write). done_of xs w.reg)) c.as_slice-2.ensures.value ∙ ap (λ (r : Row). greatest (λ (w : Write). done_of xs w.reg) r.writes) row in
    c.max-2.ensures ∙ ap (max c.next.result) c.max.ensures
    ∙ head-looked xs (points_of b c.args.prefix.now.numbers) (row_at b c.args.n) c.next.result c.registers_done-read.result c.writes_done-written.result c.past-past.ensures.value (slot c) read written

pub returns-clause-value : goal.returns-clause-value
returns-clause-value c = made c

pub returns-clause-at_most : goal.returns-clause-at_most
returns-clause-at_most c =
    let b = c.args.prefix.now.problem in
    let xs = c.past-past.result.now in
    let s = points_of b c.args.prefix.now.numbers in
    let soon = ap next c.points.ensures.value in
    omega (arith, made c, head-le xs s (row_at b c.args.n) c.past-past.ensures.timed c.past-past.ensures.value (omega (arith, soon, c.next.ensures.value, c.next.ensures.at_most)))
