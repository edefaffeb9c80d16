use Rattle.std.proofs.lemmas.List.{length-map}
use Rattle.s66_line.specs.{Entry}
use Rattle.s66_line.proofs.OperationLaw.{among-at}
use Rattle.s66_source.proofs.block_text.push_indented.Goals as goal

pub indent_of-indent-requires-clause-first : goal.indent_of-indent-requires-clause-first
indent_of-indent-requires-clause-first c = (c.requires _ (among-at c.args.order.now c.loop-number.number-index 0 c.loop-number-test.true)).0

pub indent_of-indent-requires-clause-last : goal.indent_of-indent-requires-clause-last
indent_of-indent-requires-clause-last c = (c.requires _ (among-at c.args.order.now c.loop-number.number-index 0 c.loop-number-test.true)).1

pub bytes-requires : goal.bytes-requires
bytes-requires c = record {
  first = (c.requires _ (among-at c.args.order.now c.loop-number.number-index 0 c.loop-number-test.true)).0;
  last = rw (length-map c.args.block.now.entries (λ (e : Entry). e.instr)) (c.requires _ (among-at c.args.order.now c.loop-number.number-index 0 c.loop-number-test.true)).1;
}
