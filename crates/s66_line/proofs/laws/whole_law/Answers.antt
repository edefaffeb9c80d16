use Rattle.s66_line.specs.{body}
use Rattle.s66_line.proofs.Wholes.{AreLines-lines_of, HasFields-all}
use Rattle.s66_line.proofs.laws.whole_law.Goals as goal

pub returns : goal.returns
returns c = record { lines = AreLines-lines_of; fields = λ line. HasFields-all (body line) }
