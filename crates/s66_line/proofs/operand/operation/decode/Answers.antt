use Rattle.std.proofs.Common.{rules, arith}
use Rattle.s66_line.proofs.OperationLaw.{Chosen-decode}
use Rattle.s66_line.proofs.operand.operation.decode.Goals as goal

pub instr-requires : goal.instr-requires
instr-requires c = record {
  code = c.requires.syntax _ (Chosen-decode c.args.syntax c.args.i c.args.operand.now c.in_ok-encoding.encoding c.requires.digit (search rules)).0;
  digits =
      let chosen = Chosen-decode c.args.syntax c.args.i c.args.operand.now c.in_ok-encoding.encoding c.requires.digit (search rules) in
      omega (arith, chosen, c.requires.digit);
}
