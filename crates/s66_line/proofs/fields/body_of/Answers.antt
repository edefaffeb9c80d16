use Rattle.std.proofs.Common.{◌∙◌, ◌-◌, sym, arith, get_or, eq-eqb, ne_eqb}
use Rattle.s66_line.specs.{is_return}
use Rattle.s66_line.proofs.LineFields.{trim-cut, trim-none, trim-end}
use Rattle.s66_line.proofs.fields.body_of.Goals.{then-loop-end-test+else-line-end-eq13, else-loop-end-test}
use Rattle.s66_line.proofs.fields.body_of.Goals as goal

pub loop-end-preserved : goal.loop-end-preserved
loop-end-preserved c =
    let kept = c.loop-end.invariant in
    record {
      within = omega arith;
      same = trim-cut is_return c.args.line.now c.loop-end.end c.loop-end-test.true kept.within (eq-eqb (get_or c.args.line.now (c.loop-end.end - 1) 0) 13 c.if-line-end-eq13.true) ∙ kept.same;
    }

pub returns-clause-value : goal.returns-clause-value
returns-clause-value c =
    let line = c.args.line.now in
    let end = c.loop-end.end in
    let kept = c.loop-end.invariant in
    elim c.loop-end-test.branch [
      | then-loop-end-test+else-line-end-eq13 w ↦ sym (trim-end is_return line end w.loop-end-test.true kept.within (ne_eqb (get_or line (end - 1) 0) 13 w.if-line-end-eq13.false)) ∙ kept.same
      | else-loop-end-test w ↦ sym (trim-none is_return line end w.loop-end-test.false) ∙ kept.same
    ]
