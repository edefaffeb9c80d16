use Rattle.std.proofs.Common.{◌+◌, ◌*◌, ◌^◌, ◌++◌, [], ◌∷◌, ◌∙◌, List, ap, arith, sym, take}
use Rattle.std.proofs.lemmas.List.{take_more}
use Rattle.s66_why.specs.{Stretch, lost, sum_of}
use Rattle.s66_why.proofs.Lines.{lost-more}
use Rattle.s66_why.proofs.lost.Lost.add_all.Goals as goal

pub add-requires : goal.add-requires
add-requires c =
    let few = c.loop-stretch.invariant.at_most (2 ^ 62) c.requires.at_most in
    (omega (arith, few, c.requires.few, c.loop-stretch-test.true), omega (arith, few, c.requires.few, c.loop-stretch-test.true), omega (arith, few, c.requires.few, c.loop-stretch-test.true))

pub loop-stretch-preserved : goal.loop-stretch-preserved
loop-stretch-preserved c =
    let xs = c.args.stretches.now in
    let i = c.loop-stretch.stretch-index in
    let x = c.stretch-item.result in
    record {
      sums = λ conflict.
          lost-more conflict (sum_of c.args.self.now conflict) (sum_of c.loop-stretch.self conflict) _ (take i xs) (x ∷ []) (c.loop-stretch.invariant.sums conflict) (c.add.ensures.sums conflict)
          ∙ ap (λ (ys : List Stretch). sum_of c.args.self.now conflict + lost conflict ys) (sym (take_more xs i x c.loop-stretch-test.true ∙ ap (λ (y : Stretch). take i xs ++ y ∷ []) (sym c.stretch-item.is)));
      at_most = λ n few.
          let once = c.add.ensures.at_most (n + 2 ^ 32 * i) (c.loop-stretch.invariant.at_most n few) in
          (omega (arith, once), omega (arith, once), omega (arith, once));
    }

pub returns-clause-at_most : goal.returns-clause-at_most
returns-clause-at_most c = λ n few.
    let all = c.loop-stretch.invariant.at_most n few in
    (omega (arith, all, c.requires.few, c.loop-stretch-test.false), omega (arith, all, c.requires.few, c.loop-stretch-test.false), omega (arith, all, c.requires.few, c.loop-stretch-test.false))
