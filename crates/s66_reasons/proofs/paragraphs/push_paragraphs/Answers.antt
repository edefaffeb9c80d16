use Rattle.std.proofs.Common.{rules, ◌^◌, ℕ, ◌<◌, ◌+◌, ◌++◌, ◌∙◌, [], List, ap, sym, subst, arith, append-nil}
use Rattle.std.proofs.lemmas.List.{drop_all}
use Rattle.std.proofs.lemmas.Option.{slice_get_within}
use Rattle.s66_isa.specs.{Among}
use Rattle.s66_isa.proofs.Lists.{got-among}
use Rattle.s66_model.specs.{Vertex, Ending, vertex_of}
use Rattle.s66_cert.specs.{tree_placed, document_of}
use Rattle.s66_reasons.specs.{tree_line_text, lines_text}
use Rattle.s66_reasons.proofs.Claimed.{all-found, few-lines_placed}
use Rattle.s66_reasons.proofs.Texts.{lines-more}
use Rattle.s66_reasons.proofs.paragraphs.push_paragraphs.Goals as goal

pub push_line-requires-clause-among : goal.push_line-requires-clause-among
push_line-requires-clause-among c =
    let d = document_of c.args.document.now in
    subst (λ ns. Among (ns, vertex_of c.in-Some.line) (tree_placed [] d.tree)) (sym c.as_slice.ensures.value)
    (got-among (tree_placed [] d.tree) c.loop-line.place (c.line_at.new.path.items, vertex_of c.in-Some.line) c.in-Some.ensures)

pub overflow_add-place : goal.overflow_add-place
overflow_add-place c =
    let d = document_of c.args.document.now in
    let within = slice_get_within (tree_placed [] d.tree) c.loop-line.place (c.line_at.new.path.items, vertex_of c.in-Some.line) c.in-Some.ensures in
    let fits : c.loop-line.place + 1 < 2 ^ 64 = omega (arith, within, few-lines_placed d c.requires.right) in
    search rules

pub loop-line-smaller : goal.loop-line-smaller
loop-line-smaller c =
    let d = document_of c.args.document.now in
    omega (arith, slice_get_within (tree_placed [] d.tree) c.loop-line.place (c.line_at.new.path.items, vertex_of c.in-Some.line) c.in-Some.ensures)

pub loop-line-preserved : goal.loop-line-preserved
loop-line-preserved c =
    let d = document_of c.args.document.now in
    let lines = tree_placed [] d.tree in
    let l = c.loop-line in
    record {
      text = lines-more d lines l.place (c.line_at.new.path.items, vertex_of c.in-Some.line) _ _ c.in-Some.ensures
          (c.in_ok-push_line.ensures.text ∙ ap (λ ns. l.out.items ++ tree_line_text d ns (vertex_of c.in-Some.line)) c.as_slice.ensures.value)
          ∙ l.invariant.text;
      within = omega (arith, slice_get_within lines l.place (c.line_at.new.path.items, vertex_of c.in-Some.line) c.in-Some.ensures);
      problem = c.push_line.ensures.problem ∙ l.invariant.problem;
    }

pub returns : goal.returns
returns c =
    let d = document_of c.args.document.now in
    let l = c.loop-line in
    let none = drop_all l.place (tree_placed [] d.tree) (all-found d l.place c.requires.right c.in_default.ensures) in
    sym (append-nil l.out.items) ∙ sym (ap (λ (ls : List (List ℕ × Vertex Ending)). l.out.items ++ lines_text d ls) none) ∙ l.invariant.text
