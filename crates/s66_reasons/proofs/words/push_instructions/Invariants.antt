use Rattle.std.proofs.Common.{◌≡◌, ◌++◌, drop}
use Rattle.s66_cert.specs.{document_of}
use Rattle.s66_reasons.specs.{instruction, listed}
use Rattle.s66_reasons.proofs.words.push_instructions.Given as goal

abbrev pub invariant-loop-place : goal.invariant-loop-place
invariant-loop-place l =
    l.out.items ++ listed (instruction (document_of l.document)) (drop l.place l.numbers)
    ≡ l.fn.out.items ++ listed (instruction (document_of l.document)) l.numbers
