use Rattle.std.proofs.Common.{◌∙◌}
use Rattle.s66_line.specs.{terms_in}
use Rattle.s66_line.proofs.Expression.{expression-none, expression-some}
use Rattle.s66_line.proofs.operand.terms.is_expression.Goals as goal

pub returns-then-not-is_empty : goal.returns-then-not-is_empty
returns-then-not-is_empty c =
    c.is_empty-then-not-is_empty.ensures ∙ expression-some c.args.text.now (terms_in c.in-Some.terms) (c.if-not-is_empty.ensures) (c.in-Some.ensures)

pub returns-in-None : goal.returns-in-None
returns-in-None c = expression-none c.args.text.now (c.in-None.ensures)
