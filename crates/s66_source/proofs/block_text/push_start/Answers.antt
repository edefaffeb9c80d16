use Rattle.std.proofs.Common.{◌∙◌, sym, arith, rules}
use Rattle.s66_source.proofs.IndentedLines.{no-label}
use Rattle.s66_source.proofs.block_text.push_start.Goals as goal

pub returns-then-is_empty : goal.returns-then-is_empty
returns-then-is_empty c =
    rw (no-label c.args.label.now c.args.indent (sym c.is_empty.ensures ∙ c.if-is_empty.true) (let fits = c.ranges.indent.fits in omega (arith, fits))) (search rules)
