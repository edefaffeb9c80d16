use Rattle.std.proofs.Common.{length, sym, arith, rules, eqb-true}
use Rattle.s66_isa.specs.{BLOCK_LIMIT}
use Rattle.s66_model.specs.{vertex_of}
use Rattle.s66_cert.proofs.PlacedLines.{under-next, under-full, under-here}
use Rattle.s66_cert.proofs.indexed_tree.IndexedTree.line_at.Goals as goal

pub loop-here-preserved : goal.loop-here-preserved
loop-here-preserved c =
    let l = c.loop-here in
    rw c.push.ensures.items (under-next c.args.self.now c.args.place l.here c.in_ok-number.number c.in_ok-number.child l.path.items l.invariant c.in_ok-number.ensures)

pub returns-then-is_full : goal.returns-then-is_full
returns-then-is_full c =
    let l = c.loop-here in
    under-full c.args.self.now c.args.place l.here c.in_ok-number.number c.in_ok-number.child l.path.items l.path.items l.invariant c.in_ok-number.ensures
    (omega (arith, eqb-true (length l.path.items) BLOCK_LIMIT (sym c.if-is_full.ensures.value)))

pub returns : goal.returns
returns c =
    let l = c.loop-here in
    under-here c.args.self.now c.args.place l.here l.path.items (vertex_of c.at.result) l.invariant c.loop-here-test.false (search rules)
