use Rattle.std.proofs.Common.{[], length, ap, ◌∙◌}
use Rattle.std.proofs.lemmas.Result.{IfOk-weaker}
use Rattle.s66_lint.specs.{IsGuard, guarded_lines, Finishes, marks_of}
use Rattle.s66_lint.specs.declared.guard.guard.Guarded.{Guarded}
use Rattle.s66_lint.proofs.GuardPrinting.{is-guard}
use Rattle.s66_lint.proofs.guard.guard.guard_text.Goals as goal

pub returns : goal.returns
returns c =
    IfOk-weaker c.print_guarded.result
    (λ (printed : Guarded). Finishes printed [] (guarded_lines (marks_of c.as_slice.result.now) c.args.text.now))
    (λ (printed : Guarded). IsGuard c.args.text.now printed.text.items printed.regions printed.lines)
    (λ printed. is-guard c.as_slice.result.now c.args.text.now printed (ap length c.as_slice.ensures.value ∙ c.in_ok-marks.ensures))
    c.print_guarded.ensures
