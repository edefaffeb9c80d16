use Rattle.std.proofs.Common.{ℕ, ◌∙◌, ◌<◌, ◌++◌, [], ◌∷◌, List, ap, arith, length, length-take, reverse, take, sym}
use Rattle.std.proofs.lemmas.List.{reverse-append, length-reverse}
use Rattle.s66_model.specs.{Point, points_of}
use Rattle.s66_model.proofs.PointTimes.{points_after-length}
use Rattle.s66_time.specs.Ordered.{Ordered}
use Rattle.s66_time.proofs.Positions.{points-push, point-at}
use Rattle.s66_why.proofs.points.points_of.Goals as goal

pub push-requires : goal.push-requires
push-requires c =
    let t = c.args.timed.now in
    let i = c.loop-position.position in
    let len = ap (λ (s : List Point). length s) c.loop-position.invariant in (
      omega arith,
      omega (arith, len, length-reverse (points_of t.problem (take i t.numbers)), points_after-length t.problem [] (take i t.numbers), length-take i t.numbers, c.numbers-position-end.ensures.few, ap (λ (ns : List ℕ). length ns) c.numbers-position-end.ensures.value, ap (λ (o : Ordered). length o.numbers) c.order.ensures.value),
    )

pub loop-position-preserved : goal.loop-position-preserved
loop-position-preserved c =
    let t = c.args.timed.now in
    let i = c.loop-position.position in
    let s = points_of t.problem (take i t.numbers) in
    let p = c.placed-point.result in
    let within : i < length t.numbers = omega (arith, c.loop-position-test.true, ap (λ (ns : List ℕ). length ns) c.numbers-position-end.ensures.value, ap (λ (o : Ordered). length o.numbers) c.order.ensures.value) in
    c.push.ensures.items ∙ ap (λ (ps : List Point). ps ++ p ∷ []) c.loop-position.invariant
    ∙ sym (ap reverse (points-push t.problem t.numbers i within ∙ ap (λ (q : Point). q ∷ s) (sym (c.placed-point.ensures ∙ point-at t i within))) ∙ reverse-append (p ∷ []) s)
