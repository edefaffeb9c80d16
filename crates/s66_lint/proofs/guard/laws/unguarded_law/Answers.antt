use Rattle.s66_lint.proofs.GuardedLines.{read-lines, same-lines, same-source}
use Rattle.s66_lint.proofs.guard.laws.unguarded_law.Goals as goal

pub returns : goal.returns
returns c = record { lines = read-lines; kept = same-source; flagged = same-lines }
