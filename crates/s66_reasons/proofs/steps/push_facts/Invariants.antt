use Rattle.std.proofs.Common.{◌≡◌, ◌≤◌, ◌+◌, ◌++◌, true, drop, IfSome}
use Rattle.s66_moments.specs.{IsNumber, are_steps_taken, premises_after, premises_first}
use Rattle.s66_facts.specs.{premises_in}
use Rattle.s66_cert.specs.{document_of}
use Rattle.s66_checker.specs.{problem_of, facts_of, premises_of}
use Rattle.s66_reasons.specs.{facts_from, to_show}
use Rattle.s66_reasons.proofs.steps.push_facts.Given as goal

-- what is said of the lines that are left, and that these are taken too
abbrev pub invariant-loop-line : goal.invariant-loop-line
invariant-loop-line l = record {
  text : l.out.items ++ facts_from (document_of l.document) (premises_in l.supposing) (l.number + 1) (drop l.line-index l.lines)
      ≡ l.fn.out.items ++ facts_from (document_of l.document) (premises_first (problem_of (document_of l.document))) 1 (facts_of (document_of l.document));
  number : l.number ≡ l.line-index;
  problem : l.supposing.ground.problem ≡ problem_of (document_of l.document);
  room : l.supposing.steps ≤ l.line-index;
  shows : l.to_show ≡ to_show (premises_in l.supposing);
  numbers : IfSome l.to_show (λ pair. IsNumber l.supposing.ground.problem pair.0);
  premises : premises_after (premises_in l.supposing) (drop l.line-index l.lines) ≡ premises_of (document_of l.document);
  taken : are_steps_taken (problem_of (document_of l.document)) l.bound (premises_in l.supposing) (drop l.line-index l.lines) ≡ true;
}
