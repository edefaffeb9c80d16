use Rattle.std.proofs.Common.{◌≡◌, ◌≤◌, ◌-◌, ◌*◌, ◌^◌, ◌++◌}
use Rattle.s66_cert.specs.{document_of}
use Rattle.s66_reasons.specs.{rows_text, hops_from, path_rows}
use Rattle.s66_reasons.proofs.known_paths.KnownPaths.push_hops.Given as goal

-- the rows of the arcs from this moment on are still to come
abbrev pub invariant-loop-step : goal.invariant-loop-step
invariant-loop-step l = record {
  text : l.out.items ++ rows_text (path_rows (document_of l.self) l.number l.from (hops_from (document_of l.self) (l.most - l.step) l.left l.from))
      ≡ l.fn.out.items ++ rows_text (path_rows (document_of l.self) 0 l.fn.from (hops_from (document_of l.self) l.most l.fn.left l.fn.from));
  small : l.number ≤ 2 ^ 32 * l.step;
}
