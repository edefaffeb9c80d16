use Rattle.std.proofs.Common.{◌∙◌, sym, arith}
use Rattle.s66_line.specs.{is_trailing}
use Rattle.s66_line.proofs.LineFields.{trim-cut, trim-none, trim-end}
use Rattle.s66_line.proofs.fields.without_trailing.Goals.{then-loop-end-test+else-is_trailing_byte, else-loop-end-test}
use Rattle.s66_line.proofs.fields.without_trailing.Goals as goal

pub loop-end-preserved : goal.loop-end-preserved
loop-end-preserved c =
    let kept = c.loop-end.invariant in
    record {
      within = omega arith;
      same = trim-cut is_trailing c.args.bytes.now c.loop-end.end c.loop-end-test.true kept.within (sym c.is_trailing_byte.ensures ∙ c.if-is_trailing_byte.true) ∙ kept.same;
    }

pub returns-clause-value : goal.returns-clause-value
returns-clause-value c =
    let bytes = c.args.bytes.now in
    let end = c.loop-end.end in
    let kept = c.loop-end.invariant in
    elim c.loop-end-test.branch [
      | then-loop-end-test+else-is_trailing_byte w ↦ sym (trim-end is_trailing bytes end w.loop-end-test.true kept.within (sym w.is_trailing_byte.ensures ∙ w.if-is_trailing_byte.false)) ∙ kept.same
      | else-loop-end-test w ↦ sym (trim-none is_trailing bytes end w.loop-end-test.false) ∙ kept.same
    ]
