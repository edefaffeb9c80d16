use Rattle.std.proofs.Common.{sym, arith, take_all, length-take}
use Rattle.s66_source.proofs.redefined.first_two.Goals as goal

pub slice_bounds-result-end : goal.slice_bounds-result-end
slice_bounds-result-end c = let many = c.if-bytes-gt2.true in omega (arith, many, length-take 2 c.args.bytes.now)

pub returns-then-bytes-gt2-clause-within : goal.returns-then-bytes-gt2-clause-within
returns-then-bytes-gt2-clause-within c = omega (arith, length-take 2 c.args.bytes.now)

pub returns-clause-value : goal.returns-clause-value
returns-clause-value c = let few = c.if-bytes-gt2.false in sym (take_all 2 c.args.bytes.now (omega (arith, few)))
