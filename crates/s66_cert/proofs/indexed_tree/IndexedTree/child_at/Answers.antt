use Rattle.std.proofs.Common.{◌≡◌, ◌∷◌, ◌+◌, ℕ, List, length, drop, get_or, ap, subst, arith, rules}
use Rattle.std.proofs.lemmas.List.{drop_more}
use Rattle.s66_cert.specs.{AreTreeEnds}
use Rattle.s66_cert.proofs.NodePlaces.{IsOnTheWay, way-found, way-past, way-later, end-read}
use Rattle.s66_cert.proofs.indexed_tree.IndexedTree.child_at.Goals as goal

pub returns-then-sibling-len : goal.returns-then-sibling-len
returns-then-sibling-len c =
    let l = c.loop-last in
    let numbers : List ℕ = c.in-Split.numbers.now in
    let next : drop l.last-index numbers ≡ get_or numbers l.last-index 0 ∷ drop (l.last-index + 1) numbers = drop_more numbers l.last-index 0 c.loop-last-test.true in
    way-past c.args.self.now c.args.place c.args.number _ l.sibling _ (omega (arith, c.if-sibling-len.true, c.len.ensures, ap length c.self.view_is)) (subst (λ ns. IsOnTheWay c.args.self.now c.args.place c.args.number ns l.sibling) next l.invariant)

pub returns-then-last-number : goal.returns-then-last-number
returns-then-last-number c =
    let l = c.loop-last in
    let numbers : List ℕ = c.in-Split.numbers.now in
    let next : drop l.last-index numbers ≡ get_or numbers l.last-index 0 ∷ drop (l.last-index + 1) numbers = drop_more numbers l.last-index 0 c.loop-last-test.true in
    way-found c.args.self.now c.args.place c.args.number _ l.sibling _ (omega (arith, c.if-sibling-len.false, c.len.ensures, ap length c.self.view_is)) (search rules)
    (subst (λ ns. IsOnTheWay c.args.self.now c.args.place c.args.number ns l.sibling) next l.invariant)

pub loop-last-preserved : goal.loop-last-preserved
loop-last-preserved c =
    let l = c.loop-last in
    let numbers : List ℕ = c.in-Split.numbers.now in
    let next : drop l.last-index numbers ≡ get_or numbers l.last-index 0 ∷ drop (l.last-index + 1) numbers = drop_more numbers l.last-index 0 c.loop-last-test.true in
    way-later c.args.self.now c.args.place c.args.number _ l.sibling c.index.result.now _
    (end-read c.self.inside.ends.items c.args.self.now l.sibling c.index.result.now (subst (AreTreeEnds 0 c.self.inside.ends.items) c.self.view_is c.self.invariant) (omega (arith, c.if-sibling-len.false, c.len.ensures, ap length c.self.view_is)) c.index.ensures)
    (λ e. c.if-last-number.false e)
    (subst (λ ns. IsOnTheWay c.args.self.now c.args.place c.args.number ns l.sibling) next l.invariant)
