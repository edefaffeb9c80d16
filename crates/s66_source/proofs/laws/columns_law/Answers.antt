use Rattle.s66_source.proofs.IndentedLines.{own-class, own-left, usual-indents}
use Rattle.s66_source.proofs.laws.columns_law.Goals as goal

pub returns : goal.returns
returns c = record {
  usual = usual-indents;
  class = λ after line bytes n spells whole. own-class after line bytes n (spells, whole);
  bytes = λ line bytes n spells whole. own-left line bytes n (spells, whole);
}
