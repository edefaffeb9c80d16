use Rattle.s66_source.proofs.SpelledLaw.{some, few, spelled}
use Rattle.s66_source.proofs.laws.spelled_law.Goals as goal

pub returns : goal.returns
returns c = record { some = some; few = few; spelled = spelled }
