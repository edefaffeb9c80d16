use Rattle.std.proofs.Common.{ℕ, ◌≡◌, ◌∙◌, ◌++◌, if◌then◌else◌, List, [], OnOk, ap, ap₂, subst, sym, append-nil}
use Rattle.s66_checker.specs.{Yes}
use Rattle.s66_reasons.specs.{reasons_text}
use Rattle.s66_answer.specs.{document_under, answer_in}
use Rattle.s66_program.proofs.best_reasons.push_best_reasons.Goals as goal

pub returns-then-not-is_best : goal.returns-then-not-is_best
returns-then-not-is_best c =
    let out = c.args.out.now.items in
    let d = document_under c.args.answer.strategy.search.rule c.args.answer.profile.now c.args.answer.block.now (answer_in c.args.answer.found) in
    sym (append-nil out) ∙ ap (λ b. out ++ (if b then reasons_text d else [])) (sym c.if-not-is_best.true ∙ c.is_best.ensures.value)

pub push_reasons-requires : goal.push_reasons-requires
push_reasons-requires c = c.in_ok-document.ensures.yes ∙ ap₂ Yes (sym c.time-time.ensures.value) (sym c.bound-bound.ensures)

pub returns : goal.returns
returns c =
    let d = document_under c.args.answer.strategy.search.rule c.args.answer.profile.now c.args.answer.block.now (answer_in c.args.answer.found) in
    let said = ap reasons_text c.in_ok-document.ensures.document ∙ ap (λ b. if b then reasons_text d else []) (sym c.if-not-is_best.false ∙ c.is_best.ensures.value) in
    subst (λ (xs : List ℕ). OnOk c.push_reasons.result (c.push_reasons.new.out.items ≡ c.args.out.now.items ++ xs)) said c.push_reasons.ensures
