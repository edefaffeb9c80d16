use Rattle.std.proofs.Common.{◌≡◌, ◌≤◌, ◌+◌, ◌*◌, ◌^◌, ◌++◌, drop, length}
use Rattle.s66_cert.specs.{document_of}
use Rattle.s66_reasons.specs.{rows_text, walk_rows}
use Rattle.s66_reasons.proofs.chain.push_walk.Given as goal

abbrev pub invariant-loop-n : goal.invariant-loop-n
invariant-loop-n l = record {
  text : l.out.items ++ rows_text (walk_rows (document_of l.document) l.time l.last (drop l.n-index l.later)) ≡ l.fn.out.items ++ rows_text (walk_rows (document_of l.document) l.start l.first l.later);
  within : (1 ≤ l.last) × (l.last ≤ length l.prefix.problem.block);
  small : l.time ≤ 2 ^ 32 * (l.n-index + 1);
}
