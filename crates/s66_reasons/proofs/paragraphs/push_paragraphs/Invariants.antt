use Rattle.std.proofs.Common.{◌≡◌, ◌++◌, ◌≤◌, ◌-◌, [], drop, length}
use Rattle.s66_cert.specs.{tree_placed, document_of}
use Rattle.s66_checker.specs.{problem_of}
use Rattle.s66_reasons.specs.{lines_text}
use Rattle.s66_reasons.proofs.paragraphs.push_paragraphs.Given as goal

-- the lines that are left are still to be said
abbrev pub invariant-loop-line : goal.invariant-loop-line
invariant-loop-line l = record {
  text : l.out.items ++ lines_text (document_of l.document) (drop l.place (tree_placed [] (document_of l.document).tree)) ≡ l.fn.out.items ++ lines_text (document_of l.document) (tree_placed [] (document_of l.document).tree);
  within : l.place ≤ length (tree_placed [] (document_of l.document).tree);
  problem : l.prefix.problem ≡ problem_of (document_of l.document);
}

abbrev pub decreases-loop-line : goal.decreases-loop-line
decreases-loop-line l = length (tree_placed [] (document_of l.document).tree) - l.place
