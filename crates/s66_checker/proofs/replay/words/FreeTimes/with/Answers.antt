use Rattle.std.proofs.Common.{arith}
use Rattle.s66_checker.proofs.WordsOfPoints.{free-with}
use Rattle.s66_checker.proofs.replay.words.FreeTimes.with.Goals as goal

pub returns : goal.returns
returns c = λ busy are. free-with busy c.args.self.now _ c.args.free are c.max.ensures (omega (arith, c.max-2.ensures, c.min.ensures))
