use Rattle.std.proofs.Common.{◌&&◌, ◌∙◌, sym, ap}
use Rattle.s66_line.specs.{body}
use Rattle.s66_source.specs.{is_doubtful}
use Rattle.s66_source.proofs.OpenLines.{open-line, doubted-line}
use Rattle.s66_source.proofs.standing.Standing.classify.Goals as goal

pub returns-clause-class : goal.returns-clause-class
returns-clause-class c =
    let class = c.classify_line-classified.ensures.class in
    class
    ∙ open-line c.args.cut c.args.after_code c.args.continued c.args.self.now c.args.line.now (sym c.holds.ensures ∙ c.if-holds.false)
    (ap (λ class. c.args.cut && is_doubtful c.args.self.now.redefined class (body c.args.line.now)) (sym class) ∙ sym c.passes_over.ensures ∙ c.if-passes_over.false)

pub returns-then-passes_over-clause-class : goal.returns-then-passes_over-clause-class
returns-then-passes_over-clause-class c =
    doubted-line c.args.cut c.args.after_code c.args.continued c.args.self.now c.args.line.now
    (ap (λ class. c.args.cut && is_doubtful c.args.self.now.redefined class (body c.args.line.now)) (sym c.classify_line-classified.ensures.class) ∙ sym c.passes_over.ensures ∙ c.if-passes_over.true)
