use Rattle.std.proofs.Common.{arith}
use Rattle.s66_line.specs.{instrs_of}
use Rattle.s66_time.proofs.RowsOfBlock.{digits-all}
use Rattle.s66_time.proofs.clock.rows_of.Goals as goal

pub returns-clause-digits : goal.returns-clause-digits
returns-clause-digits c = digits-all (instrs_of c.args.block.now) c.loop-position.position (omega (arith, c.loop-position-test.false, c.count-position-end.ensures)) c.loop-position.invariant.digits
