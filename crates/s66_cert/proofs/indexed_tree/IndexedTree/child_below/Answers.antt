use Rattle.std.proofs.Common.{◌≡◌, ◌<◌, ◌∷◌, ◌+◌, ℕ, List, length, drop, get_or, ap, subst, arith}
use Rattle.std.proofs.lemmas.List.{drop_more}
use Rattle.s66_cert.specs.{AreTreeEnds}
use Rattle.s66_cert.proofs.NodePlaces.{end-read}
use Rattle.s66_cert.proofs.PlacedLines.{IsOnTheWay, way-found, way-past, way-later}
use Rattle.s66_cert.proofs.indexed_tree.IndexedTree.child_below.Goals as goal

pub returns-then-sibling-len : goal.returns-then-sibling-len
returns-then-sibling-len c =
    let l = c.loop-number in
    let numbers : List ℕ = c.in-Split.numbers.now in
    let next : drop l.number-index numbers ≡ get_or numbers l.number-index 0 ∷ drop (l.number-index + 1) numbers = drop_more numbers l.number-index 0 c.loop-number-test.true in
    way-past c.args.self.now c.args.here c.args.place _ l.sibling _ (subst (λ ns. IsOnTheWay c.args.self.now c.args.here c.args.place ns l.sibling) next l.invariant)
    (omega (arith, c.if-sibling-len.true, c.len.ensures, ap length c.self.view_is))

pub returns-then-place-end : goal.returns-then-place-end
returns-then-place-end c =
    let l = c.loop-number in
    let numbers : List ℕ = c.in-Split.numbers.now in
    let next : drop l.number-index numbers ≡ get_or numbers l.number-index 0 ∷ drop (l.number-index + 1) numbers = drop_more numbers l.number-index 0 c.loop-number-test.true in
    let lt : l.sibling < length c.args.self.now = omega (arith, c.if-sibling-len.false, c.len.ensures, ap length c.self.view_is) in
    way-found c.args.self.now c.args.here c.args.place _ l.sibling _ (subst (λ ns. IsOnTheWay c.args.self.now c.args.here c.args.place ns l.sibling) next l.invariant) c.index.result.now lt
    (end-read c.self.inside.ends.items c.args.self.now l.sibling c.index.result.now (subst (AreTreeEnds 0 c.self.inside.ends.items) c.self.view_is c.self.invariant) lt c.index.ensures)
    c.if-place-end.true

pub loop-number-preserved : goal.loop-number-preserved
loop-number-preserved c =
    let l = c.loop-number in
    let numbers : List ℕ = c.in-Split.numbers.now in
    let next : drop l.number-index numbers ≡ get_or numbers l.number-index 0 ∷ drop (l.number-index + 1) numbers = drop_more numbers l.number-index 0 c.loop-number-test.true in
    let lt : l.sibling < length c.args.self.now = omega (arith, c.if-sibling-len.false, c.len.ensures, ap length c.self.view_is) in
    way-later c.args.self.now c.args.here c.args.place _ l.sibling _ (subst (λ ns. IsOnTheWay c.args.self.now c.args.here c.args.place ns l.sibling) next l.invariant) c.index.result.now lt
    (end-read c.self.inside.ends.items c.args.self.now l.sibling c.index.result.now (subst (AreTreeEnds 0 c.self.inside.ends.items) c.self.view_is c.self.invariant) lt c.index.ensures)
    c.if-place-end.false
