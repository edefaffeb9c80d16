use Rattle.std.proofs.Common.{ℕ, ◌≡◌, ◌≤◌, true}
use Rattle.s66_lint.specs.{is_in_order}
use Rattle.s66_lint.proofs.findings.push_findings.Given as goal

abbrev pub invariant-loop-finding : goal.invariant-loop-finding
invariant-loop-finding l = (before : ℕ) → before ≤ l.number → is_in_order 1 before l.fn.all.items ≡ true → is_in_order 1 l.number l.all.items ≡ true
