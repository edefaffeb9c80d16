use Rattle.std.proofs.Common.{◌≡◌, ◌+◌, ◌*◌, ◌^◌, ◌++◌, ◌∙◌, List, ap, arith, reverse, sym, take}
use Rattle.s66_model.specs.{Point}
use Rattle.s66_why.specs.{Stretch, stretches, stretches_at, lost, sum_of}
use Rattle.s66_why.proofs.Earlier.{earlier-more}
use Rattle.s66_why.proofs.Lines.{lost-more}
use Rattle.s66_views.proofs.PointTexts.{points-more}
use Rattle.s66_views.proofs.json_lines.order.push_points.Goals as goal

pub loop-position-preserved : goal.loop-position-preserved
loop-position-preserved c =
    let ps = c.args.points.now in
    let i = c.loop-position.position in
    let s : List Point = reverse (take i ps) in
    let p = c.index-points-position.result in
    let waits : c.as_slice.result.now ≡ stretches_at s p = c.as_slice.ensures.value ∙ c.waits_of-waits.ensures in
    let more : stretches (reverse (take (i + 1) ps)) ≡ stretches s ++ stretches_at s p = ap stretches (earlier-more ps i p c.loop-position-test.true c.index-points-position.is) in
    let few = c.add_all.ensures.at_most (2 ^ 34 * i) c.loop-position.invariant.at_most in
    record {
      text = points-more ps i p c.as_slice-in-loop-position.result.now c.args.out.now.items c.loop-position.out.items c.push_comma.new.out.items _ c.loop-position-test.true c.index-points-position.is
          (c.as_slice-in-loop-position.ensures.value ∙ c.waits_of-waits.ensures) c.loop-position.invariant.text c.in_ok-push_comma.ensures c.in_ok-push_point.ensures;
      sums = λ conflict.
          let before : sum_of c.loop-position.sums conflict ≡ 0 + lost conflict (stretches s) = omega (arith, c.loop-position.invariant.sums conflict) in
          lost-more conflict 0 (sum_of c.loop-position.sums conflict) _ (stretches s) (stretches_at s p) before
          (c.add_all.ensures.sums conflict ∙ ap (λ (xs : List Stretch). sum_of c.loop-position.sums conflict + lost conflict xs) waits)
          ∙ ap (λ (xs : List Stretch). 0 + lost conflict xs) (sym more) ∙ omega arith;
      at_most = (omega (arith, few), omega (arith, few), omega (arith, few));
    }
