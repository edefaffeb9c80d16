use Rattle.s66_time.proofs.WordsAfter.{AreAfter}
use Rattle.s66_time.proofs.registers.RegisterWords.after.Given as goal

abbrev pub invariant-loop-index : goal.invariant-loop-index
invariant-loop-index l = AreAfter l.self.words l.time l.index l.after
