use Rattle.std.proofs.Common.{◌∙◌, ◌+◌, [], length, refl, sym, ap, arith, inl, inr, true, false, List}
use Rattle.s66_model.specs.{Vertex, Ending, vertex_of, coming}
use Rattle.s66_moments.specs.{FactStep}
use Rattle.s66_cert.specs.{document_of}
use Rattle.s66_checker.specs.Checked.{Checked}
use Rattle.s66_checker.specs.{problem_of}
use Rattle.s66_checker.proofs.TreeWalk.{line-refused, split-ready, line-passed, none-left, walk-begins, walk-ends}
use Rattle.s66_checker.proofs.walk.tree_verdict.Goals.{in-Some+in_default-line_fault+then-not-go_on, in_default}
use Rattle.s66_checker.proofs.walk.tree_verdict.Goals as goal

pub loop-line-init : goal.loop-line-init
loop-line-init c =
    let p = c.args.document.now in
    let facts = length c.fact_lines.result.now in
    let held = ap (λ (fs : List FactStep). length fs) c.fact_lines.ensures.value in
    record {
      problem = ap (λ (x : Checked). x.problem) c.requires.start;
      same = c.requires.same;
      rest = walk-begins p c.tree-lines.ensures.whole c.args.prefix c.requires.start c.from.result facts (c.from.ensures ∙ c.count.ensures.value) held c.tree-lines.result c.tree-lines.ensures.value;
      few = walk-ends p c.tree-lines.ensures.whole c.args.prefix c.requires.start c.from.result facts (c.from.ensures ∙ c.count.ensures.value) held c.tree-lines.result c.tree-lines.ensures.value c.fact_lines.ensures.few;
    }

pub returns-in-Some-line_fault : goal.returns-in-Some-line_fault
returns-in-Some-line_fault c =
    let l = c.loop-line in
    line-refused (document_of c.args.document.now) l.number l.prefix l.invariant.problem l.lines c.next.new.self (vertex_of c.in-Some.line) c.in-Some.ensures c.line_fault.result c.line_fault.ensures.value c.in-Some-line_fault.reason c.in-Some-line_fault.is
    ∙ l.invariant.rest

pub line_fault-requires-clause-same : goal.line_fault-requires-clause-same
line_fault-requires-clause-same c = c.loop-line.invariant.same ∙ sym c.loop-line.invariant.problem

pub go_on-requires : goal.go_on-requires
go_on-requires c =
    let l = c.loop-line in
    split-ready (document_of c.args.document.now) l.number l.prefix l.invariant.problem l.lines c.next.new.self (vertex_of c.in-Some.line) c.in-Some.ensures c.line_fault.result c.line_fault.ensures.value c.in_default-line_fault.is

pub loop-line-preserved : goal.loop-line-preserved
loop-line-preserved c =
    let l = c.loop-line in
    record {
      problem = c.go_on.ensures.problem ∙ l.invariant.problem;
      same = c.line_fault.ensures.same ∙ l.invariant.same;
      rest =
          line-passed (document_of c.args.document.now) l.number l.prefix l.invariant.problem l.lines c.next.new.self (vertex_of c.in-Some.line) c.in-Some.ensures c.line_fault.result c.line_fault.ensures.value c.in_default-line_fault.is c.go_on.result true c.go_on.new.prefix.numbers c.go_on.ensures.next c.if-not-go_on.false
          ∙ l.invariant.rest;
      few = omega (arith, l.invariant.few, ap (λ (ks : List (Vertex Ending)). length ks) c.in-Some.ensures);
    }

pub returns : goal.returns
returns c =
    let d = document_of c.args.document.now in
    let l = c.loop-line in
    elim c.match-next.branch [
      | in-Some+in_default-line_fault+then-not-go_on w ↦
          none-left d (l.number + 1) c.time.result c.bound.result c.next.new.self [] c.time.ensures c.bound.ensures (inr refl)
          ∙ line-passed d l.number l.prefix l.invariant.problem l.lines c.next.new.self (vertex_of w.in-Some.line) w.in-Some.ensures w.line_fault.result w.line_fault.ensures.value w.in_default-line_fault.is w.go_on.result false w.go_on.new.prefix.numbers w.go_on.ensures.next w.if-not-go_on.true
          ∙ l.invariant.rest
      | in_default w ↦
          none-left d l.number c.time.result c.bound.result l.lines (coming (problem_of d).block true l.prefix.numbers) c.time.ensures c.bound.ensures (inl w.in_default.ensures.0)
          ∙ l.invariant.rest
    ]
