use Rattle.std.proofs.Common.{◌≡◌, ◌&&◌, ◌∙◌, true, false, if◌then◌else◌, None, Some, ap, ap₂, sym}
use Rattle.s66_source.specs.{Placed}
use Rattle.s66_answer.specs.{answer_in}
use Rattle.s66_program.specs.{rise_from, placed_by}
use Rattle.s66_program.proofs.order_text.given.Goals.{else-style-via-then-style+else-keeps_order, else-style-via-else-style}
use Rattle.s66_program.proofs.order_text.given.Goals as goal

pub returns-then-keeps_order : goal.returns-then-keeps_order
returns-then-keeps_order c = λ strategy p block for.
    let a = answer_in c.args.answer.now in
    let order : c.as_slice.result.now ≡ a.order = c.as_slice.ensures.value ∙ ap (λ (v : Placed). v.order) (c.placed.view_is ∙ c.placing-placed.ensures strategy p block for) in
    let rises : rise_from 1 a.order ≡ true = sym (c.keeps_order.ensures ∙ ap (rise_from 1) order) ∙ c.if-keeps_order.true in
    sym (ap (λ b. if b then None else Some (placed_by p c.args.style.trace block a)) (ap₂ (λ x y. x && y) c.if-style.true rises))

pub returns-else-style : goal.returns-else-style
returns-else-style c = λ strategy p block for.
    let a = answer_in c.args.answer.now in
    let placed = c.placed.view_is ∙ c.placing-placed.ensures strategy p block for in
    let prints : (c.args.style.keep && rise_from 1 a.order) ≡ false =
    elim c.else-style.branch [
      | else-style-via-then-style+else-keeps_order w ↦
          ap₂ (λ x y. x && y) w.if-style.true (sym (w.keeps_order.ensures ∙ ap (rise_from 1) (w.as_slice.ensures.value ∙ ap (λ (v : Placed). v.order) placed)) ∙ w.if-keeps_order.false)
      | else-style-via-else-style w ↦ ap (λ x. x && rise_from 1 a.order) w.if-style.false
    ] in
    ap Some (c.placing-placed.ensures strategy p block for) ∙ sym (ap (λ b. if b then None else Some (placed_by p c.args.style.trace block a)) prints)
