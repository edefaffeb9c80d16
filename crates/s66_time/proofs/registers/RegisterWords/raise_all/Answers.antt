use Rattle.std.proofs.Common.{arith, ◌∙◌}
use Rattle.s66_isa.specs.Table.{Reg}
use Rattle.s66_isa.specs.{word_of}
use Rattle.s66_time.proofs.Back.{raised-more}
use Rattle.s66_time.proofs.registers.RegisterWords.raise_all.Goals as goal

pub loop-position-preserved : goal.loop-position-preserved
loop-position-preserved c = record {
  words = λ (r : Reg) small.
      raised-more r c.args.registers.now c.loop-position.position c.index-registers-position.result c.args.time (word_of c.args.self.now.words r) (word_of c.loop-position.self.words r) (word_of c.raise.new.self.words r) (omega arith) c.index-registers-position.is (c.loop-position.invariant.words r small) (c.raise.ensures.words r small);
  saved = c.raise.ensures.saved ∙ c.loop-position.invariant.saved;
}
