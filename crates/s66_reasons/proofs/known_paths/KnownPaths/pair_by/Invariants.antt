use Rattle.std.proofs.Common.{◌≡◌, ◌+◌, drop}
use Rattle.s66_facts.specs.{before_in}
use Rattle.s66_cert.specs.{document_of}
use Rattle.s66_reasons.specs.{each_left, first_number, pair_by, pair_left, puts_before}
use Rattle.s66_reasons.proofs.known_paths.KnownPaths.pair_by.Given as goal

abbrev pub invariant-loop-line : goal.invariant-loop-line
invariant-loop-line l = record {
  first : first_number (puts_before (document_of l.self) (before_in l.known.marks) l.m l.n) (l.number + 1) (each_left pair_left l.to_show (drop l.line-index l.lines))
      ≡ pair_by (document_of l.self) (before_in l.known.marks) l.m l.n;
  number : l.number ≡ l.line-index;
}
