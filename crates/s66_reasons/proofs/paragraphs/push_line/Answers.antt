use Rattle.std.proofs.Common.{◌++◌, ◌∙◌, ap, sym, IfNone, Option, None, Some, append-nil}
use Rattle.std.proofs.lemmas.Result.{IfOk-equal}
use Rattle.s66_model.specs.{vertex_of}
use Rattle.s66_cert.specs.{is_factual, document_of}
use Rattle.s66_reasons.proofs.Claimed.{granted-line, line-begins}
use Rattle.s66_reasons.proofs.Leaves.{tree-none}
use Rattle.s66_reasons.proofs.Texts.{leaf-line, split-line}
use Rattle.s66_reasons.proofs.paragraphs.push_line.Goals as goal

if-none : {T : Type 0} (found : Option T) (P Q : Type 0) → (P → Q) → IfNone found P → IfNone found Q
if-none None P Q so given = so given
if-none (Some x) P Q so given = tt

pub returns-then-is_split-clause-text : goal.returns-then-is_split-clause-text
returns-then-is_split-clause-text c =
    let out = c.args.out.now.items in
    sym (append-nil out) ∙ ap (λ xs. out ++ xs) (sym (split-line (document_of c.args.document.now) c.args.numbers.now (vertex_of c.args.line) (sym c.is_split.ensures ∙ c.if-is_split.true)))

pub push_paragraph-requires : goal.push_paragraph-requires
push_paragraph-requires c =
    let d = document_of c.args.document.now in
    let at = c.args.numbers.now in
    let vertex = vertex_of c.args.line in
    record {
      same = c.requires.same;
      begins = line-begins d at vertex (sym c.is_split.ensures ∙ c.if-is_split.false) c.requires.right.lines c.requires.among;
      granted = granted-line d at vertex c.requires.right c.requires.among;
      known = c.requires.known;
      factual = if-none c.args.known _ _ (λ none. tree-none is_factual d.tree (at, vertex) none c.requires.among) c.requires.factual;
    }

pub returns-clause-text : goal.returns-clause-text
returns-clause-text c =
    IfOk-equal c.push_paragraph.result _ _ _ c.push_paragraph.ensures.text
    (ap (λ xs. c.args.out.now.items ++ xs) (sym (leaf-line (document_of c.args.document.now) c.args.numbers.now (vertex_of c.args.line) (sym c.is_split.ensures ∙ c.if-is_split.false))))
