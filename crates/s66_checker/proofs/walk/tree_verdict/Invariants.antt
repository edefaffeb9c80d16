use Rattle.std.proofs.Common.{◌≡◌, ◌≤◌, ◌+◌, ◌*◌, true, [], length}
use Rattle.s66_isa.specs.{BLOCK_LIMIT}
use Rattle.s66_model.specs.{coming}
use Rattle.s66_cert.specs.{document_of, SPLIT_LIMIT, FACT_LIMIT, tree_placed}
use Rattle.s66_checker.specs.{problem_of, lines_verdict, tree_line_number}
use Rattle.s66_checker.proofs.Placed.{placed}
use Rattle.s66_checker.proofs.walk.tree_verdict.Given as goal

-- the verdict on the lines that are left is that on all
abbrev pub invariant-loop-line : goal.invariant-loop-line
invariant-loop-line l = record {
  problem : l.prefix.problem ≡ problem_of (document_of l.document);
  same : l.named.problem ≡ problem_of (document_of l.document);
  rest : lines_verdict (document_of l.document) l.number (placed l.lines (coming (problem_of (document_of l.document)).block true l.prefix.numbers)) ≡ lines_verdict (document_of l.document) (tree_line_number (document_of l.document)) (tree_placed [] (document_of l.document).tree);
  few : l.number + length l.lines ≤ BLOCK_LIMIT + 8 + SPLIT_LIMIT * BLOCK_LIMIT + FACT_LIMIT;
}

abbrev pub decreases-loop-line : goal.decreases-loop-line
decreases-loop-line l = length l.lines
