use Rattle.s66_source.proofs.LineLaw.{one, note}
use Rattle.s66_source.proofs.laws.line_law.Goals as goal

pub returns : goal.returns
returns c = record { one = one; note = note }
