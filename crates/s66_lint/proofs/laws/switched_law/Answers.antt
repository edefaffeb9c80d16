use Rattle.s66_lint.proofs.SwitchedLines.{same-blocks, same-flags, taken}
use Rattle.s66_lint.proofs.laws.switched_law.Goals as goal

pub returns : goal.returns
returns c = record { alone = same-flags; taken = taken; blocks = same-blocks }
