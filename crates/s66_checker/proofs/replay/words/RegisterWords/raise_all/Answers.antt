use Rattle.s66_isa.specs.{word_of}
use Rattle.s66_checker.proofs.WordsOfPoints.{raised-next}
use Rattle.s66_checker.proofs.replay.words.RegisterWords.raise_all.Goals as goal

pub loop-register-preserved : goal.loop-register-preserved
loop-register-preserved c = λ r low.
    raised-next r c.register-item.result c.args.registers.now c.loop-register.register-index c.args.time (word_of c.loop-register.self.words r) (word_of c.raise.new.self.words r) _ c.loop-register-test.true c.register-item.is (c.loop-register.invariant r low) (c.raise.ensures r low)
