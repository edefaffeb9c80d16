use Rattle.std.proofs.Common.{rules, ◌≡◌, ◌++◌, ◌∙◌, OnOk, ap, codes}
use Rattle.std.proofs.lemmas.Result.{IfOk-equal}
use Rattle.s66_cert.specs.{document_of}
use Rattle.s66_reasons.specs.{instruction, unit_name}
use Rattle.s66_reasons.proofs.Texts.{joined}
use Rattle.s66_reasons.proofs.path.push_unit_words.Goals as goal

pub returns : goal.returns
returns c =
    let d = document_of c.args.document.now in
    let out = c.args.out.now.items in
    let m = instruction d c.args.m in
    let kind = unit_name c.args.kind in
    let unit = codes "the " ++ kind ++ codes " unit of " in
    let to_unit =
    c.in_ok-extend_from_slice-3.ensures.items
    ∙ joined out _ _ (codes "the ") kind (codes " unit of ") c.in_ok-extend_from_slice.ensures.items
    (c.in_ok-extend_from_slice-2.ensures.items ∙ ap (λ xs. c.extend_from_slice.new.self.items ++ xs) c.unit_name.ensures) in
    let to_free = c.in_ok-extend_from_slice-4.ensures.items ∙ joined out _ _ unit m (codes " is free, which ") to_unit c.in_ok-push_instruction.ensures in
    let ended : OnOk c.extend_from_slice-5.result (c.extend_from_slice-5.new.self.items ≡ c.push_instruction-2.new.out.items ++ codes " needs") = search rules in
    IfOk-equal c.extend_from_slice-5.result _ _ _ ended
    (joined out _ _ (unit ++ m ++ codes " is free, which ") (instruction d c.args.n) (codes " needs") to_free c.in_ok-push_instruction-2.ensures)
