use Rattle.s66_lint.proofs.GuardedLines.{same-flags, same-plainly}
use Rattle.s66_lint.proofs.guard.laws.guarded_law.Goals as goal

pub returns : goal.returns
returns c = record { flags = same-flags; plainly = same-plainly }
