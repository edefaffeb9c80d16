use Rattle.std.proofs.Common.{◌≡◌, ◌+◌, ◌*◌, ◌^◌, ◌++◌, ◌∙◌, List, ap, arith, flat_map, reverse, subst, sym, take}
use Rattle.s66_isa.specs.{Among}
use Rattle.s66_model.specs.{Point}
use Rattle.s66_why.specs.{Stretch, sum_of, stretches, stretches_at, stretch_line, lost}
use Rattle.s66_why.proofs.Earlier.{earlier-more}
use Rattle.s66_why.proofs.Lines.{lines-more, lost-more}
use Rattle.s66_why.proofs.Numbers.{among-stretches}
use Rattle.s66_why.proofs.text.push_all_lines.Goals as goal

pub push_lines-requires-clause-numbers : goal.push_lines-requires-clause-numbers
push_lines-requires-clause-numbers c =
    let ps = c.args.points.now in
    let i = c.loop-position.position in
    let p = c.index-points-position.result in
    let waits = c.as_slice-in-loop-position.ensures.value ∙ c.waits_of-waits.ensures in
    λ x among.
    c.requires.numbers x (among-stretches ps i p c.loop-position-test.true c.index-points-position.is x (subst (λ (xs : List Stretch). Among x xs) waits among))

pub loop-position-preserved : goal.loop-position-preserved
loop-position-preserved c =
    let ps = c.args.points.now in
    let i = c.loop-position.position in
    let s : List Point = reverse (take i ps) in
    let p = c.index-points-position.result in
    let line = stretch_line c.args.texts c.args.block.now in
    let more : stretches (reverse (take (i + 1) ps)) ≡ stretches s ++ stretches_at s p =
    ap stretches (earlier-more ps i p c.loop-position-test.true c.index-points-position.is) in
    let few = c.add_all.ensures.at_most (2 ^ 34 * i) c.loop-position.invariant.at_most in
    record {
      lines =
          lines-more line _ _ _ (stretches s) (stretches_at s p) c.loop-position.invariant.lines
          (c.in_ok-push_lines.ensures ∙ ap (λ (xs : List Stretch). c.loop-position.out.items ++ flat_map line xs) (c.as_slice-in-loop-position.ensures.value ∙ c.waits_of-waits.ensures))
          ∙ ap (λ (xs : List Stretch). c.args.out.now.items ++ flat_map line xs) (sym more);
      sums = λ conflict.
          lost-more conflict 0 _ _ (stretches s) (stretches_at s p) (omega (arith, c.loop-position.invariant.sums conflict))
          (c.add_all.ensures.sums conflict ∙ ap (λ (xs : List Stretch). sum_of c.loop-position.sums conflict + lost conflict xs) (c.as_slice.ensures.value ∙ c.waits_of-waits.ensures))
          ∙ ap (λ (xs : List Stretch). 0 + lost conflict xs) (sym more) ∙ omega arith;
      at_most = (omega (arith, few), omega (arith, few), omega (arith, few));
    }
