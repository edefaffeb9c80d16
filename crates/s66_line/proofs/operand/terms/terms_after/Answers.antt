use Rattle.std.proofs.Common.{◌∙◌, sym, ap, arith}
use Rattle.s66_line.specs.{terms_in}
use Rattle.s66_line.proofs.SignCuts.{cut-none, cut-some, cut-last, terms_from-other}
use Rattle.s66_line.proofs.Gathered.{gathered_after}
use Rattle.s66_line.proofs.operand.terms.terms_after.Goals.{then-is_sign+in_ok-terms, else-is_sign}
use Rattle.s66_line.proofs.operand.terms.terms_after.Goals as goal

pub returns-in_err-terms : goal.returns-in_err-terms
returns-in_err-terms c =
    let l = c.loop-end in
    rw c.from_residual.ensures (cut-none (terms_in l.terms) l.minus c.args.text.now l.start l.end _ c.loop-end-test.true (sym c.is_sign.ensures ∙ c.if-is_sign.true) l.invariant.rest (c.in_err-terms.ensures.value))

pub loop-end-preserved : goal.loop-end-preserved
loop-end-preserved c =
    let l = c.loop-end in
    let text = c.args.text.now in
    elim c.if-is_sign.branch [
      | then-is_sign+in_ok-terms w ↦ record {
        rest = rw (w.terms-is, w.minus-is, w.start-is) (cut-some (terms_in l.terms) (terms_in w.in_ok-terms.terms) l.minus text l.start l.end _ c.loop-end-test.true (sym c.is_sign.ensures ∙ w.if-is_sign.true) l.invariant.rest w.in_ok-terms.ensures.value);
        begun = omega arith;
        few = rw w.terms-is w.in_ok-terms.ensures.few;
      }
      | else-is_sign w ↦ record {
        rest = rw (w.terms-is, w.minus-is, w.start-is) (sym (ap (gathered_after (terms_in l.terms)) (terms_from-other l.minus text l.start l.end l.invariant.begun c.loop-end-test.true (sym c.is_sign.ensures ∙ w.if-is_sign.false))) ∙ l.invariant.rest);
        begun = omega arith;
        few = rw w.terms-is l.invariant.few;
      }
    ]

pub returns : goal.returns
returns c =
    let l = c.loop-end in
    c.with_term-2.ensures.value ∙ cut-last (terms_in l.terms) l.minus c.args.text.now l.start l.end _ (omega arith) l.invariant.few l.invariant.rest
