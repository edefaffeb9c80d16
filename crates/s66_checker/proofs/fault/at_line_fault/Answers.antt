use Rattle.std.proofs.Common.{ℕ, List, ◌≡◌, ◌∙◌, true, false, sym, subst}
use Rattle.s66_model.specs.{ClampedStanding, Problem}
use Rattle.s66_cert.specs.{Document, document_of}
use Rattle.s66_checker.specs.{dominates_by, problem_of, is_complete, node_on, name_of}
use Rattle.s66_checker.proofs.InUseTests.{clamped-fine}
use Rattle.s66_checker.proofs.fault.at_line_fault.Goals as goal

pub returns-then-dominates-clause-value : goal.returns-then-dominates-clause-value
returns-then-dominates-clause-value c =
    let d : Document = document_of c.args.document.now in
    let at : List ℕ = c.args.prefix.now.numbers in
    let there : c.is_name_at.new.named.numbers ≡ name_of (node_on d c.args.line) = c.is_name_at.ensures.there c.if-not-is_name_at.false in
    clamped-fine d at c.args.line
    (subst (λ (b : Problem). is_complete b at ≡ false) c.requires.problem (sym c.is_complete.ensures.value ∙ c.if-is_complete.false))
    (sym c.is_name_at.ensures.value ∙ c.if-not-is_name_at.false)
    (subst (λ ns. dominates_by ClampedStanding (problem_of d) ns at ≡ true) there
    (subst (λ (b : Problem). dominates_by ClampedStanding b c.is_name_at.new.named.numbers at ≡ true) c.requires.problem (sym c.dominates.ensures ∙ c.if-dominates.true)))
