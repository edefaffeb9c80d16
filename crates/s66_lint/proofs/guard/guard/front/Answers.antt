use Rattle.std.proofs.Common.{sym, arith, take_all, length-take}
use Rattle.s66_lint.specs.{REASON_LIMIT}
use Rattle.s66_lint.proofs.guard.guard.front.Goals as goal

pub slice_bounds-result-end : goal.slice_bounds-result-end
slice_bounds-result-end c = let many = c.if-bytes-gt-REASON_LIMIT.true in omega (arith, many, length-take REASON_LIMIT c.args.bytes.now)

pub returns : goal.returns
returns c = let few = c.if-bytes-gt-REASON_LIMIT.false in sym (take_all REASON_LIMIT c.args.bytes.now (omega (arith, few)))
