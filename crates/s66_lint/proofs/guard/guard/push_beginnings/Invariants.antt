use Rattle.std.proofs.Common.{◌≡◌, ◌++◌, drop, map}
use Rattle.s66_lint.specs.{Begins, guarded_text, reason_texts}
use Rattle.s66_lint.proofs.guard.guard.push_beginnings.Given as goal

abbrev pub invariant-loop-reason : goal.invariant-loop-reason
invariant-loop-reason l = l.out.items ++ guarded_text (map Begins (reason_texts (drop l.reason-index l.reasons))) ≡ l.fn.out.items ++ guarded_text (map Begins (reason_texts l.reasons))
