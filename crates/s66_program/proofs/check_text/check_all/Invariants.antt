use Rattle.std.proofs.Common.{◌≡◌, ◌++◌, ◌&&◌, drop, map}
use Rattle.s66_isa.specs.{every}
use Rattle.s66_cert.specs.{document_of}
use Rattle.s66_checker.specs.{verdict}
use Rattle.s66_program.specs.{is_yes, verdict_lines}
use Rattle.s66_program.proofs.check_text.check_all.Given as goal

abbrev pub invariant-loop-i : goal.invariant-loop-i
invariant-loop-i g l = record {
  text : l.text.items ++ verdict_lines l.with_text l.i (map document_of (drop l.i l.documents)) ≡ verdict_lines l.with_text 0 (map document_of l.documents);
  status : (l.all_yes && every (λ d. is_yes (verdict d)) (map document_of (drop l.i l.documents))) ≡ every (λ d. is_yes (verdict d)) (map document_of l.documents);
}
