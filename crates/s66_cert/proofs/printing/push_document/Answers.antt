use Rattle.std.proofs.Common.{◌++◌, ◌∙◌, codes, refl, rules}
use Rattle.std.proofs.lemmas.Result.{IfOk-equal}
use Rattle.s66_cert.specs.{claim_lines, document_text, head_lines, document_of, version}
use Rattle.s66_cert.proofs.Printed.{parts-pushed}
use Rattle.s66_cert.proofs.printing.push_document.Goals as goal

pub returns : goal.returns
returns c =
    let p = c.args.document.now in
    let d = document_of p in
    let end = codes "END\n" in
    IfOk-equal c.extend_from_slice.result c.extend_from_slice.new.self.items (c.push_tree.new.out.items ++ end) (c.args.out.now.items ++ document_text d) (search rules)
    (parts-pushed c.args.out.now.items _ _ _ _ _ (head_lines (version p.facts p.rule) d) _ (claim_lines d) _ _ end c.in_ok-push_head.ensures c.in_ok-push_block.ensures c.in_ok-push_claim.ensures c.in_ok-push_facts.ensures c.in_ok-push_tree.ensures
    ∙ rw (c.block.ensures.value, c.facts.ensures.value, c.tree.ensures.value, c.block.ensures.whole.preorder) refl)
