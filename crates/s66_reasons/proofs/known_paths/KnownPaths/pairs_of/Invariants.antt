use Rattle.std.proofs.Common.{◌≡◌, ◌≤◌, ◌-◌, ◌++◌, length}
use Rattle.s66_cert.specs.{document_of}
use Rattle.s66_checker.specs.{problem_of}
use Rattle.s66_reasons.specs.{pairs_of, pairs_over}
use Rattle.s66_reasons.proofs.known_paths.KnownPaths.pairs_of.Given as goal

-- those that are still to come put the second number of the last one before n
abbrev pub invariant-loop-step : goal.invariant-loop-step
invariant-loop-step l = record {
  all : l.numbers.items ++ pairs_over (document_of l.self) (length (problem_of (document_of l.self)).block - l.step) l.from l.n
      ≡ pairs_of (document_of l.self) l.m l.n;
  few : length l.numbers.items ≤ l.step;
}
