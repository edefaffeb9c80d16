use Rattle.std.proofs.Common.{ℕ, List, length, ap, arith, option_map}
use Rattle.std.proofs.lemmas.List.{length-map}
use Rattle.s66_model.specs.{vertex_of}
use Rattle.s66_moments.specs.{FactStep}
use Rattle.s66_line.specs.{instr_in_text}
use Rattle.s66_cert.specs.{document_of}
use Rattle.s66_checker.proofs.LineNodes.{line-before, node-is}
use Rattle.s66_checker.proofs.name.node_on.Goals as goal

pub returns-then-line-first : goal.returns-then-line-first
returns-then-line-first c = λ at.
    let block = ap (λ (texts : List (List ℕ)). length texts) c.block.ensures.value in
    let facts = ap (λ (lines : List FactStep). length lines) c.fact_lines.ensures.value in
    line-before (document_of c.args.document.now) c.args.line at (omega (arith, c.if-line-first.true, block, facts))

pub returns : goal.returns
returns c =
    let p = c.args.document.now in
    let block = ap (λ (texts : List (List ℕ)). length texts) c.block.ensures.value in
    let facts = ap (λ (lines : List FactStep). length lines) c.fact_lines.ensures.value in
    node-is (document_of p) c.args.line _ (omega (arith, c.if-line-first.false, block, facts)) (option_map vertex_of c.line_at.result) c.line_at.new.path.items
    (omega (arith, c.block.ensures.whole.document.block.1, length-map p.block instr_in_text)) c.line_at.ensures
