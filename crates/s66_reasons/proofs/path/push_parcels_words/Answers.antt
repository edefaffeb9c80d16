use Rattle.std.proofs.Common.{◌++◌, ◌∙◌, codes}
use Rattle.std.proofs.lemmas.Result.{IfOk-equal}
use Rattle.s66_cert.specs.{document_of}
use Rattle.s66_reasons.specs.{counted, instruction}
use Rattle.s66_reasons.proofs.Texts.{joined}
use Rattle.s66_reasons.proofs.path.push_parcels_words.Goals as goal

pub returns : goal.returns
returns c =
    let d = document_of c.args.document.now in
    let out = c.args.out.now.items in
    let n = instruction d c.args.n in
    let parcels = counted c.args.parcels (codes "parcel") in
    IfOk-equal c.push_instruction-2.result _ _ _ c.push_instruction-2.ensures
    (joined out _ _ (n ++ codes " can issue, " ++ parcels) (codes " after ") (instruction d c.args.m)
    (c.in_ok-push_counted.ensures ∙ joined out _ _ n (codes " can issue, ") parcels c.in_ok-push_instruction.ensures c.in_ok-extend_from_slice.ensures.items)
    c.in_ok-extend_from_slice-2.ensures.items)
