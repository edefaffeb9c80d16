use Rattle.std.proofs.Common.{◌≡◌, ◌++◌, ◌∙◌, ap₂, append_assoc}
use Rattle.std.proofs.lemmas.Result.{IfOk-equal}
use Rattle.s66_compare.specs.{difference_line, ending_text, total_line, total_text}
use Rattle.s66_compare.proofs.Totals.{total-same}
use Rattle.s66_compare.proofs.text.push_ending.Goals as goal

pub returns : goal.returns
returns c =
    let out = c.args.out.now.items in
    let rows = c.args.rows.now in
    let first = difference_line c.args.difference in
    let t = c.total_of.result in
    let total : total_text t.blocks t.time t.new_blocks t.new_time t.legal ≡ total_line rows =
    total-same rows t.blocks t.time t.new_blocks t.new_time t.legal c.total_of.ensures.blocks c.total_of.ensures.time c.total_of.ensures.new_blocks c.total_of.ensures.new_time c.total_of.ensures.legal
    in
    IfOk-equal c.push_total.result c.push_total.new.out.items (c.push_difference.new.out.items ++ total_text t.blocks t.time t.new_blocks t.new_time t.legal) (out ++ ending_text rows c.args.difference) c.push_total.ensures
    (ap₂ (λ a b. a ++ b) c.in_ok-push_difference.ensures total ∙ append_assoc out first (total_line rows))
