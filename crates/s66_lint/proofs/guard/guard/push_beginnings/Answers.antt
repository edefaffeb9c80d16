use Rattle.std.proofs.Common.{◌≡◌, ◌+◌, ◌++◌, ◌∷◌, ℕ, suc, List, [], drop, map, sym, ap, ap₂, ◌∙◌, arith, drop-cons}
use Rattle.std.specs.Global.{Vec}
use Rattle.s66_lint.specs.{Begins, GuardedLine, guarded_text, reason_texts}
use Rattle.s66_lint.proofs.GuardPrinting.{text-more}
use Rattle.s66_lint.proofs.guard.guard.push_beginnings.Goals as goal

pub loop-reason-preserved : goal.loop-reason-preserved
loop-reason-preserved c =
    let reasons : List (Vec ℕ) = c.args.reasons.now in
    let at : ℕ = c.loop-reason.reason-index in
    let reason : Vec ℕ = c.reason-item.result in
    let old : List ℕ = c.loop-reason.out.items in
    let rest : List GuardedLine = map Begins (reason_texts (drop (at + 1) reasons)) in
    let one : suc at ≡ at + 1 = omega arith in
    let next : drop at reasons ≡ reason ∷ drop (at + 1) reasons = drop-cons reasons at reason c.loop-reason-test.true ∙ ap₂ (λ r k. r ∷ drop k reasons) (sym c.reason-item.is) one in
    ap (λ text. text ++ guarded_text rest) (c.in_ok-push_reason.ensures ∙ ap (λ bytes. old ++ guarded_text (Begins bytes ∷ [])) c.as_slice.ensures.value)
    ∙ text-more old (Begins reason.items) rest
    ∙ ap (λ rs. old ++ guarded_text (map Begins (reason_texts rs))) (sym next)
    ∙ c.loop-reason.invariant
