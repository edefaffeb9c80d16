use Rattle.std.proofs.Common.{◌≡◌, ◌&&◌, false, sym, ◌∙◌}
use Rattle.std.proofs.lemmas.Bool.{and_left, and_right}
use Rattle.s66_moments.specs.{is_number}
use Rattle.s66_facts.proofs.LoadTaken.{outside}
use Rattle.s66_facts.proofs.loads.stands_before.Goals.{then-is_number, else-is_number}
use Rattle.s66_facts.proofs.loads.stands_before.Goals as goal

pub returns-else-is_number-2 : goal.returns-else-is_number-2
returns-else-is_number-2 c =
    let b = c.args.graph.now.problem in
    let m = c.args.m in
    let n = c.args.n in
    let off : (is_number b m && is_number b n) ≡ false = elim c.if-is_number.branch [
      | then-is_number w ↦ and_right (is_number b m) (is_number b n) (sym w.is_number-then-is_number.ensures.value ∙ (sym w.value-is ∙ c.if-is_number-2.false))
      | else-is_number w ↦ and_left (is_number b m) (is_number b n) (sym c.is_number.ensures.value ∙ w.if-is_number.false)
    ] in
    c.if-is_number-2.false ∙ sym (outside c.args.graph.now m n c.count-count.ensures.ordered.count off)
