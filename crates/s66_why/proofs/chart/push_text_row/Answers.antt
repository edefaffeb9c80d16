use Rattle.std.proofs.Common.{ℕ, List, ◌≡◌, ◌++◌, ◌∙◌, ap, append_assoc, get_or, sym}
use Rattle.std.proofs.lemmas.Result.{IfOk-equal}
use Rattle.s66_line.specs.{text_of}
use Rattle.s66_time.specs.Ordered.{Ordered}
use Rattle.s66_time.specs.{point_at}
use Rattle.s66_time.proofs.Positions.{number-at}
use Rattle.s66_why.specs.{instruction_row, before_row}
use Rattle.s66_why.proofs.chart.push_text_row.Goals as goal

pub returns : goal.returns
returns c =
    let out = c.args.out.now.items in
    let block = c.args.block.now in
    let t = c.args.timed.now in
    let i = c.args.position in
    let row = instruction_row t i in
    let numbers : c.numbers.result.now ≡ t.numbers = c.numbers.ensures.value ∙ ap (λ (o : Ordered). o.numbers) c.order.ensures.value in
    let text : c.as_slice.result.now ≡ text_of block (point_at t i).number =
    c.as_slice.ensures.value ∙ c.text-text.ensures.value ∙ ap (text_of block) (ap (λ (ns : List ℕ). get_or ns i 0) numbers ∙ sym (number-at t i c.requires.position))
    in
    IfOk-equal c.push_instruction.result _ _ _ c.push_instruction.ensures
    (ap (λ xs. xs ++ row) c.in_ok-push_before.ensures ∙ append_assoc out (before_row c.args.places c.as_slice.result.now) row
    ∙ ap (λ xs. out ++ (before_row c.args.places xs ++ row)) text)
