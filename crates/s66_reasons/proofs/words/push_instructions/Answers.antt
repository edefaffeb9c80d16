use Rattle.std.proofs.Common.{◌∙◌}
use Rattle.s66_cert.specs.{document_of}
use Rattle.s66_reasons.specs.{instruction}
use Rattle.s66_reasons.proofs.Listed.{listed-more}
use Rattle.s66_reasons.proofs.words.push_instructions.Goals as goal

pub loop-place-preserved : goal.loop-place-preserved
loop-place-preserved c =
    listed-more (instruction (document_of c.args.document.now)) c.args.numbers.now c.loop-place.place _ _ _ _ c.loop-place-test.true
    c.in_ok-push_instruction.ensures c.in_ok-extend_from_slice.ensures.items c.separator.ensures
    ∙ c.loop-place.invariant
