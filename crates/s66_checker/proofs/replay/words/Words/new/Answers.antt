use Rattle.std.proofs.Common.{refl}
use Rattle.s66_checker.proofs.WordsOfPoints.{words-start}
use Rattle.s66_checker.proofs.replay.words.Words.new.Goals as goal

pub returns : goal.returns
returns c = words-start _ refl refl refl refl refl refl
