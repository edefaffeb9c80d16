use Rattle.s66_moments.proofs.FoundedLines.{line-follows, lines-so, lines-lower}
use Rattle.s66_moments.proofs.lines.line_law.Goals as goal

pub returns : goal.returns
returns c = record {
  line = line-follows;
  derived = λ b low known lines fact founded follows order legal less so. follows order legal less (lines-so b low known lines founded order legal less so);
  lower = λ b low other known lines le founded. lines-lower b low other le known lines founded;
}
