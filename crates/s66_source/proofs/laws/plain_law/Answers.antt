use Rattle.std.proofs.Common.{refl}
use Rattle.s66_line.specs.{lines_of}
use Rattle.s66_source.specs.{at_first, nothing_redefined}
use Rattle.s66_source.proofs.CutLaw.{none-alone}
use Rattle.s66_source.proofs.laws.plain_law.Goals as goal

pub returns : goal.returns
returns c = λ text none. none-alone (lines_of text) (at_first nothing_redefined) refl none
