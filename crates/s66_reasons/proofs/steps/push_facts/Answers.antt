use Rattle.std.proofs.Common.{◌≡◌, ◌+◌, ◌∙◌, true, List, ap, sym, drop, arith, subst, IfSome}
use Rattle.s66_model.specs.{Problem}
use Rattle.s66_moments.specs.{FactStep, IsNumber, Premises, are_steps_taken, is_step_taken, premises_after, with_step}
use Rattle.s66_facts.specs.{premises_in}
use Rattle.s66_cert.specs.{document_of}
use Rattle.s66_cert.proofs.Printed.{drop-here}
use Rattle.s66_checker.specs.{problem_of}
use Rattle.s66_reasons.specs.{to_show, to_show_after}
use Rattle.s66_reasons.proofs.KnownArcs.{to_show-after}
use Rattle.s66_reasons.proofs.StepTexts.{facts-more, next-taken, number-shown}
use Rattle.s66_reasons.proofs.steps.push_facts.Goals as goal

pub push_numbered-requires-clause-taken : goal.push_numbered-requires-clause-taken
push_numbered-requires-clause-taken c =
    let b : Problem = problem_of (document_of c.args.document.now) in
    let line : FactStep = c.line-item.result in
    let premises : Premises = premises_in c.loop-line.supposing in
    let both = next-taken b c.bound-bound.result premises c.fact_lines-lines.result.now c.loop-line.line-index line c.loop-line-test.true c.line-item.is c.loop-line.invariant.taken in
    subst (λ k. is_step_taken b k premises line ≡ true) c.bound-bound.ensures both.0

pub loop-line-preserved : goal.loop-line-preserved
loop-line-preserved c =
    let d = document_of c.args.document.now in
    let b : Problem = problem_of d in
    let i = c.loop-line.line-index in
    let line : FactStep = c.line-item.result in
    let lines : List FactStep = c.fact_lines-lines.result.now in
    let more = drop (i + 1) lines in
    let premises : Premises = premises_in c.loop-line.supposing in
    let inv = c.loop-line.invariant in
    let here = drop-here lines i line c.loop-line-test.true c.line-item.is in
    let both = next-taken b c.bound-bound.result premises lines i line c.loop-line-test.true c.line-item.is inv.taken in
    let right : is_step_taken c.loop-line.supposing.ground.problem c.bound-bound.result premises line ≡ true =
    subst (λ (q : Problem). is_step_taken q c.bound-bound.result premises line ≡ true) (sym inv.problem) both.0 in
    let taken : premises_in c.take.new.self ≡ with_step premises line = c.take.ensures.premises (c.take.ensures.taken ∙ right) in
    record {
      text = facts-more d premises _ (c.loop-line.number + 1) line more (drop i lines) _ _ here taken c.in_ok-push_numbered.ensures ∙ inv.text;
      number = omega (arith, inv.number);
      problem = c.take.ensures.problem ∙ inv.problem;
      room = omega (arith, inv.room, c.take.ensures.steps);
      shows = c.to_show_after-to_show.ensures ∙ ap (λ t. to_show_after t line) inv.shows ∙ to_show-after premises line ∙ sym (ap to_show taken);
      numbers = subst (λ (q : Problem). IfSome c.to_show_after-to_show.result (λ pair. IsNumber q pair.0)) (sym c.take.ensures.problem)
          (subst (λ t. IfSome t (λ pair. IsNumber c.loop-line.supposing.ground.problem pair.0)) (sym c.to_show_after-to_show.ensures)
          (number-shown c.loop-line.supposing.ground.problem c.bound-bound.result premises c.loop-line.to_show line right inv.numbers));
      premises = ap (λ (s : Premises). premises_after s more) taken ∙ sym (ap (premises_after premises) here) ∙ inv.premises;
      taken = ap (λ (s : Premises). are_steps_taken b c.bound-bound.result s more) taken ∙ both.1;
    }
