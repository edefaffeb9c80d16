use Rattle.std.proofs.Common.{◌≡◌, ◌≤◌, ◌+◌, drop}
use Rattle.s66_moments.specs.{premises_first, premises_after, are_steps_taken}
use Rattle.s66_facts.specs.{premises_in}
use Rattle.s66_cert.specs.{document_of}
use Rattle.s66_checker.specs.declared.verdict.Verdict.{Verdict}
use Rattle.s66_checker.specs.{problem_of, facts_of, premises_of, fact_line_number, facts_verdict}
use Rattle.s66_checker.proofs.known.first_untaken.Given as goal

-- what is said of the lines that are left is what is said of all
abbrev pub invariant-loop-line : goal.invariant-loop-line
invariant-loop-line l = record {
  problem : l.supposing.ground.problem ≡ problem_of (document_of l.document);
  number : l.number ≡ l.line-index + fact_line_number (document_of l.document);
  room : l.supposing.steps ≤ l.line-index;
  premises : premises_after (premises_in l.supposing) (drop l.line-index l.lines) ≡ premises_of (document_of l.document);
  taken : are_steps_taken (problem_of (document_of l.document)) l.bound (premises_in l.supposing) (drop l.line-index l.lines) ≡ are_steps_taken (problem_of (document_of l.document)) (document_of l.document).bound (premises_first (problem_of (document_of l.document))) (facts_of (document_of l.document));
  rest : (later : Verdict) → facts_verdict (document_of l.document) l.number l.begun (premises_in l.supposing) (drop l.line-index l.lines) later ≡ facts_verdict (document_of l.document) (fact_line_number (document_of l.document)) 0 (premises_first (problem_of (document_of l.document))) (facts_of (document_of l.document)) later;
}
