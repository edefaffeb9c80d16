use Rattle.std.proofs.Common.{sym, arith, take_all, length-take}
use Rattle.s66_source.specs.{DIRECTIVE_LIMIT}
use Rattle.s66_source.proofs.directive.front.Goals as goal

pub slice_bounds-result-end : goal.slice_bounds-result-end
slice_bounds-result-end c = let many = c.if-text-gt-DIRECTIVE_LIMIT.true in omega (arith, many, length-take DIRECTIVE_LIMIT c.args.text.now)

pub returns-then-text-gt-DIRECTIVE_LIMIT-clause-within : goal.returns-then-text-gt-DIRECTIVE_LIMIT-clause-within
returns-then-text-gt-DIRECTIVE_LIMIT-clause-within c = omega (arith, length-take DIRECTIVE_LIMIT c.args.text.now)

pub returns-clause-value : goal.returns-clause-value
returns-clause-value c = let few = c.if-text-gt-DIRECTIVE_LIMIT.false in sym (take_all DIRECTIVE_LIMIT c.args.text.now (omega (arith, few)))
