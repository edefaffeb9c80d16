use Rattle.std.proofs.Common.{◌≡◌, ◌++◌, ℕ, List, arith}
use Rattle.std.proofs.lemmas.Result.{on_ok_weaker}
use Rattle.s66_lint.specs.{beginnings, guarded_text, reason_texts}
use Rattle.s66_lint.proofs.GuardPrinting.{beginnings-no_end, beginnings-no_line}
use Rattle.s66_lint.proofs.guard.guard.Guarded.push_between.Goals as goal

pub returns-in-false-true : goal.returns-in-false-true
returns-in-false-true c =
    let reasons : List (List ℕ) = reason_texts c.args.reasons.now in
    on_ok_weaker c.push_beginnings.result (λ (pushed : c.push_beginnings.new.out.items ≡ c.args.self.now.text.items ++ guarded_text (beginnings reasons)).
    rw (c.in-false-true.is-0, c.in-false-true.is-1)
    (record { text = pushed; ends = omega (arith, beginnings-no_end reasons); guarded = omega (arith, beginnings-no_line reasons) }))
    c.push_beginnings.ensures
