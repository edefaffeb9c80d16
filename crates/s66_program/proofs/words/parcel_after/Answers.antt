use Rattle.std.proofs.lemmas.List.{length-map}
use Rattle.s66_line.specs.{Entry}
use Rattle.s66_line.proofs.OperationLaw.{among-at}
use Rattle.s66_program.proofs.words.parcel_after.Goals as goal

pub instr-requires : goal.instr-requires
instr-requires c = record {
  first = (c.requires.numbers _ (among-at c.args.order.now c.loop-number.number-index 0 c.loop-number-test.true)).0;
  last = rw (length-map c.args.block.now.entries (λ (e : Entry). e.instr)) (c.requires.numbers _ (among-at c.args.order.now c.loop-number.number-index 0 c.loop-number-test.true)).1;
}
