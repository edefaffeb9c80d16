use Rattle.std.proofs.Common.{◌∙◌, arith}
use Rattle.s66_line.specs.{is_decimal}
use Rattle.s66_source.specs.{SOURCE_LINES_LIMIT}
use Rattle.s66_source.proofs.Counted.{next-digit, every-next}
use Rattle.s66_source.proofs.counts.capped_number.Goals as goal

pub loop-digit-preserved : goal.loop-digit-preserved
loop-digit-preserved c =
    let digits = c.args.digits.now in
    let l = c.loop-digit in
    record {
      capped = next-digit SOURCE_LINES_LIMIT l.number c.min-number.result l.digit-index digits c.loop-digit-test.true c.min-number.ensures ∙ l.invariant.capped;
      few = omega arith;
      digits = every-next is_decimal digits l.digit-index c.loop-digit-test.true l.invariant.digits;
    }
