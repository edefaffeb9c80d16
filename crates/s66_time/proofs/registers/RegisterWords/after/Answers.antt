use Rattle.std.proofs.Common.{◌+◌, arith, subst, sym}
use Rattle.s66_time.proofs.WordsAfter.{AreAfter, after-none, after-push, after-pass, after-all}
use Rattle.s66_time.proofs.registers.RegisterWords.after.Goals.{then-time-self, else-time-self}
use Rattle.s66_time.proofs.registers.RegisterWords.after.Goals as goal

pub loop-index-init : goal.loop-index-init
loop-index-init c = after-none c.args.self.now.words c.args.time c.empty-after.result c.empty-after.ensures

pub loop-index-preserved : goal.loop-index-preserved
loop-index-preserved c =
    let words = c.args.self.now.words in
    let i = c.loop-index.index in
    elim c.if-time-self.branch [
      | then-time-self w ↦
          subst (AreAfter words c.args.time (i + 1)) (sym w.after-is)
          (after-push words c.args.time i c.loop-index.after w.with-after.result w.of_index.result c.loop-index-test.true w.of_index.ensures w.if-time-self.true w.with-after.ensures c.loop-index.invariant)
      | else-time-self w ↦ subst (AreAfter words c.args.time (i + 1)) (sym w.after-is) (after-pass words c.args.time i c.loop-index.after w.if-time-self.false c.loop-index.invariant)
    ]

pub returns : goal.returns
returns c = λ f tells r low. after-all c.args.self.now.words c.args.time c.loop-index.index c.loop-index.after f r c.loop-index.invariant tells low (omega (arith, c.loop-index-test.false))
