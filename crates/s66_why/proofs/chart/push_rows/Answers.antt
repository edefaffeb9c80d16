use Rattle.std.proofs.Common.{ℕ, ◌++◌, ◌∙◌, ap, append_assoc, arith}
use Rattle.s66_why.specs.{no_row_in, row_in}
use Rattle.s66_why.proofs.Appended.{range-more}
use Rattle.s66_why.proofs.chart.push_rows.Goals as goal

pub loop-position-preserved : goal.loop-position-preserved
loop-position-preserved c =
    let block = c.args.block.now in
    let t = c.args.timed.now in
    let i = c.loop-position.position in
    let out = c.loop-position.out.items in
    let places = c.args.places in
    let blank = no_row_in places t i in
    let both = c.in_ok-push_blank_row.ensures ∙ ap (λ xs. xs ++ blank) c.in_ok-push_text_row.ensures ∙ append_assoc out (row_in places block t i) blank in
    range-more (λ (i : ℕ). row_in places block t i ++ no_row_in places t i) _ i _ out c.push_blank_row.new.out.items (omega (arith, c.loop-position-test.true, c.count-position-end.ensures)) c.loop-position.invariant both
