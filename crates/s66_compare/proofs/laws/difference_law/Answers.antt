use Rattle.s66_compare.proofs.Differences.{none-same, some-first}
use Rattle.s66_compare.proofs.laws.difference_law.Goals as goal

pub returns : goal.returns
returns c = record { none = none-same; some = some-first }
