use Rattle.std.proofs.Common.{◌++◌, ◌∙◌, codes, refl, rules}
use Rattle.std.proofs.lemmas.Result.{IfOk-equal}
use Rattle.s66_cert.specs.{head_lines, document_of, version}
use Rattle.s66_cert.proofs.Printed.{head-pushed}
use Rattle.s66_cert.proofs.printing.push_head.Goals as goal

pub returns : goal.returns
returns c =
    let p = c.args.document.now in
    let out = c.args.out.now.items in
    let end = codes "\n" in
    IfOk-equal c.extend_from_slice.result c.extend_from_slice.new.self.items (c.push_field-2.new.out.items ++ end) (out ++ head_lines (version p.facts p.rule) (document_of p)) (search rules)
    (head-pushed out _ _ _ (codes "S66 CERTIFICATE ") _ (codes "\nPROFILE") _ (codes "\nBLOCK ") _ end c.in_ok-push_field.ensures c.in_ok-push_numbers.ensures c.in_ok-push_field-2.ensures
    ∙ rw (c.number.ensures, c.of-version.ensures, c.facts.ensures.value, c.rule.ensures.value, c.profile.ensures.value, c.block.ensures.value) refl)
