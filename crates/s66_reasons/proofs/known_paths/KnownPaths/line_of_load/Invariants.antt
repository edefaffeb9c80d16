use Rattle.std.proofs.Common.{◌≡◌, ◌+◌, drop}
use Rattle.s66_cert.specs.{document_of}
use Rattle.s66_reasons.specs.{each_left, first_number, keeps_apart, line_of_load, load_left}
use Rattle.s66_reasons.proofs.known_paths.KnownPaths.line_of_load.Given as goal

abbrev pub invariant-loop-line : goal.invariant-loop-line
invariant-loop-line l = record {
  first : first_number (keeps_apart l.from l.hop.to l.hop.wait) (l.number + 1) (each_left load_left l.to_show (drop l.line-index l.lines))
      ≡ line_of_load (document_of l.self) l.from l.hop;
  number : l.number ≡ l.line-index;
}
