use Rattle.std.proofs.Common.{ℕ, ◌≡◌, ◌∙◌, ◌++◌, List, [], ◌∷◌, ap, ap₂}
use Rattle.s66_line.specs.{instrs_of}
use Rattle.s66_time.specs.Ordered.{Ordered}
use Rattle.s66_views.specs.{FoundOrder}
use Rattle.s66_answer.specs.{answer_in}
use Rattle.s66_program.specs.{best_reasons}
use Rattle.s66_program.proofs.page_text.ViewsKeepFoundOrder.keep.Goals as goal

pub returns : goal.returns
returns c =
    let block = c.args.answer.block.now in
    let a = answer_in c.args.answer.found in
    let order : c.duplicate-order.result ≡ record { block = instrs_of block; numbers = a.order } = c.duplicate-order.ensures ∙ c.order.ensures c.args.answer.strategy c.args.answer.profile.now block c.requires in
    let best = best_reasons c.args.answer.strategy.search.rule c.args.answer.profile.now block a in
    let reasons : c.push_best_reasons.new.out.items ≡ best = c.in_ok-push_best_reasons.ensures ∙ ap (λ xs. xs ++ best) c.new-reasons.ensures.items in
    let kept : List ℕ → Ordered → ℕ → List ℕ → List FoundOrder = λ e o n xs. c.args.parts.now.items ++ record { entry = e; order = o; bound = n; reasons = xs } ∷ [] in
    c.in_ok-push.ensures.items ∙ ap₂ (λ (o : Ordered) (n : ℕ). kept c.in_ok-entry.entry.items o n c.push_best_reasons.new.out.items) order c.bound-bound.ensures
    ∙ ap₂ (λ e xs. kept e (record { block = instrs_of block; numbers = a.order }) a.bound xs) (c.in_ok-entry.ensures.items ∙ c.entry_at.ensures) reasons
