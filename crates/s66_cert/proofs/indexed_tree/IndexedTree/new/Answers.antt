use Rattle.std.proofs.Common.{◌≡◌, ◌<◌, ◌+◌, ◌-◌, ℕ, length, refl, ap, sym, subst, ◌∙◌, arith}
use Rattle.s66_model.specs.{vertex_of}
use Rattle.s66_cert.specs.{IsEnd, AreTreeEnds, end_behind, sibling_count}
use Rattle.s66_cert.proofs.NodePlaces.{end-here, ends-more}
use Rattle.s66_cert.proofs.indexed_tree.IndexedTree.new.Goals as goal

pub overflow_cast-end_behind : goal.overflow_cast-end_behind
overflow_cast-end_behind c =
    let l = c.loop-place in
    let lines = c.into_parts-lines.result.0 in
    let at : ℕ = l.place - 1 in
    let back : l.place ≡ at + 1 = omega (arith, c.loop-place-test.true) in
    let known : AreTreeEnds (at + 1) l.ends.items lines = subst (λ p. AreTreeEnds p l.ends.items lines) back l.invariant.known in
    let here = end-here at l.ends.items lines (vertex_of c.at.result) known (omega (arith, l.invariant.within, back)) c.at.ensures in
    let same : c.end_behind.result ≡ end_behind l.ends.items (sibling_count (vertex_of c.at.result)) (at + 1) =
    c.end_behind.ensures ∙ rw (c.as_slice.ensures.value, c.sibling_count-count.ensures) refl in
    omega (arith, same, here.within, ap length c.into_parts-lines.ensures.lines, c.requires)

pub loop-place-preserved : goal.loop-place-preserved
loop-place-preserved c =
    let l = c.loop-place in
    let lines = c.into_parts-lines.result.0 in
    let at : ℕ = l.place - 1 in
    let back : l.place ≡ at + 1 = omega (arith, c.loop-place-test.true) in
    let within : at < length lines = omega (arith, l.invariant.within, back) in
    let known : AreTreeEnds (at + 1) l.ends.items lines = subst (λ p. AreTreeEnds p l.ends.items lines) back l.invariant.known in
    let here = end-here at l.ends.items lines (vertex_of c.at.result) known within c.at.ensures in
    let same : c.end_behind.result ≡ end_behind l.ends.items (sibling_count (vertex_of c.at.result)) (at + 1) =
    c.end_behind.ensures ∙ rw (c.as_slice.ensures.value, c.sibling_count-count.ensures) refl in
    record {
      known = ends-more at c.end_behind.result l.ends.items lines known within (subst (IsEnd lines at) (sym same) here);
      within = omega (arith, l.invariant.within);
    }
