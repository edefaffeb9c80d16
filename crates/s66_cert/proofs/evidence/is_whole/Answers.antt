use Rattle.std.proofs.Common.{eq-eqb, arith, eqb-true}
use Rattle.s66_model.specs.{vertex_of}
use Rattle.s66_cert.proofs.WholeTrees.{at-last, not-next, too-many, refused}
use Rattle.s66_cert.proofs.evidence.is_whole.Goals.{then-left-eq0-via-then-left-eq0, then-left-eq0-via-else-left-eq0+then-not-is_vertex}
use Rattle.s66_cert.proofs.evidence.is_whole.Goals as goal

pub returns-then-left-eq0 : goal.returns-then-left-eq0
returns-then-left-eq0 c =
    let at = c.loop-line in
    refused c.args.tree.now c.args.most (
    not-next c.args.tree.now at.lines c.next.new.self (vertex_of c.in-Some.line) at.left at.splits c.args.most at.invariant.left c.in-Some.ensures
    (λ some is. elim c.then-left-eq0.branch [
      | then-left-eq0-via-then-left-eq0 w ↦ omega arith
      | then-left-eq0-via-else-left-eq0+then-not-is_vertex w ↦ (let yes = w.is_vertex.ensures.1 is in cc)
    ])
    )

pub returns-then-splits-most : goal.returns-then-splits-most
returns-then-splits-most c =
    let at = c.loop-line in
    refused c.args.tree.now c.args.most (
    too-many c.args.tree.now at.lines c.next.new.self (vertex_of c.in-Some.line) at.left at.splits c.args.most at.invariant.left c.in-Some.ensures (omega (arith, c.sibling_count-count.ensures)) c.if-splits-most.true
    )

pub returns : goal.returns
returns c =
    let at = c.loop-line in
    let last = at-last c.args.tree.now at.lines at.left at.splits c.args.most at.invariant.left c.in_default.ensures.0 at.invariant.few in
    (λ none. last.0 (eqb-true at.left 0 none), λ whole. eq-eqb at.left 0 (last.1 whole))
