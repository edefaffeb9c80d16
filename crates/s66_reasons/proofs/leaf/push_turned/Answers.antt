use Rattle.std.proofs.Common.{rules, ◌≡◌, ◌++◌, ◌∙◌, OnOk, ap, append_assoc, codes}
use Rattle.std.proofs.lemmas.Result.{IfOk-equal}
use Rattle.s66_cert.specs.{Parts, document_of}
use Rattle.s66_reasons.specs.{instruction, by_words, pairs_of}
use Rattle.s66_reasons.proofs.Texts.{joined}
use Rattle.s66_reasons.proofs.leaf.push_turned.Goals as goal

pub returns : goal.returns
returns c =
    let d = document_of c.args.known.now in
    let out = c.args.out.now.items in
    let first = codes "      " ++ instruction d c.args.m ++ codes " stands before " in
    let second = instruction d c.args.n ++ codes " in a faster order" in
    let by = by_words (pairs_of d c.args.m c.args.n) in
    let one = c.in_ok-push_around.ensures ∙ ap (λ (p : Parts). out ++ (codes "      " ++ instruction (document_of p) c.args.m ++ codes " stands before ")) c.known.view_is in
    let two = c.in_ok-push_around-2.ensures ∙ ap (λ (p : Parts). c.push_around.new.out.items ++ (instruction (document_of p) c.args.n ++ codes " in a faster order")) c.known.view_is in
    let to_by = c.in_ok-push_by.ensures ∙ ap (λ k. c.push_around-2.new.out.items ++ by_words k) (c.as_slice.ensures.value ∙ c.pairs_of.ensures) in
    let ended : OnOk c.extend_from_slice.result (c.extend_from_slice.new.self.items ≡ c.push_by.new.out.items ++ codes "\n") = search rules in
    let text = joined out _ _ (first ++ second) by (codes "\n") (two ∙ ap (λ xs. xs ++ second) one ∙ append_assoc out first second) to_by in
    IfOk-equal c.extend_from_slice.result _ _ _ ended text
