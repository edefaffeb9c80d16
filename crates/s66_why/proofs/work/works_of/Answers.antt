use Rattle.std.proofs.Common.{ℕ, ◌≡◌, ◌<◌, ◌∙◌, ◌++◌, [], ◌∷◌, List, ap, arith, length, length-take, map, reverse, sym, take, take_all}
use Rattle.std.proofs.lemmas.List.{length-map, map_more}
use Rattle.s66_model.specs.{Point, points_of}
use Rattle.s66_time.specs.Ordered.{Ordered}
use Rattle.s66_time.specs.{no_point}
use Rattle.s66_why.specs.{Work, work}
use Rattle.s66_why.proofs.PointCount.{points_length}
use Rattle.s66_why.proofs.work.works_of.Goals as goal

pub work_at-requires-clause-position : goal.work_at-requires-clause-position
work_at-requires-clause-position c =
    omega (arith, c.loop-position-test.true, ap (λ (ns : List ℕ). length ns) c.numbers-position-end.ensures.value, ap (λ (o : Ordered). length o.numbers) c.order.ensures.value)

pub push-requires : goal.push-requires
push-requires c =
    let t = c.args.timed.now in
    let points : List Point = take c.loop-position.position (reverse (points_of t.problem t.numbers)) in
    let len : length (map work points) ≡ length points = length-map points work in (
      omega arith,
      omega (arith, ap (λ (ws : List Work). length ws) c.loop-position.invariant, len, length-take c.loop-position.position (reverse (points_of t.problem t.numbers)), c.loop-position-test.true, c.numbers-position-end.ensures.few),
    )

pub loop-position-preserved : goal.loop-position-preserved
loop-position-preserved c =
    let t = c.args.timed.now in
    let points = reverse (points_of t.problem t.numbers) in
    let i = c.loop-position.position in
    let within : i < length points =
    omega (arith, points_length t, c.loop-position-test.true, ap (λ (ns : List ℕ). length ns) c.numbers-position-end.ensures.value, ap (λ (o : Ordered). length o.numbers) c.order.ensures.value) in
    c.push.ensures.items ∙ ap (λ (ws : List Work). ws ++ c.work_at.result ∷ []) c.loop-position.invariant ∙ ap (λ (w : Work). map work (take i points) ++ w ∷ []) c.work_at.ensures ∙ sym (map_more work points i (no_point t.problem.profile) within)

pub returns : goal.returns
returns c =
    let t = c.args.timed.now in
    let points = reverse (points_of t.problem t.numbers) in
    c.loop-position.invariant
    ∙ ap (map work) (take_all c.loop-position.position points (omega (arith, points_length t, c.loop-position-test.false, ap (λ (ns : List ℕ). length ns) c.numbers-position-end.ensures.value, ap (λ (o : Ordered). length o.numbers) c.order.ensures.value)))
