use Rattle.std.proofs.Common.{◌∙◌, ◌∷◌, [], IfSome, ap, arith, length, refl, subst, sym, length-append, length-set}
use Rattle.s66_answer.specs.{AreMade}
use Rattle.s66_answer.proofs.Places.{made-more, put-more}
use Rattle.s66_answer.proofs.turns.take_all.Goals as goal

pub loop-number-init : goal.loop-number-init
loop-number-init g c =
    record { count = refl; so_far = ap length c.new-all.ensures.items; made = subst (AreMade (g.W.Task.gives c.args.task.now)) (sym c.new-all.ensures.items) (λ i d within. absurd (omega (arith, within))); put = c.requires.put }

pub made_at-requires : goal.made_at-requires
made_at-requires g c = record { accepts = c.requires.accepts c.loop-number.number c.loop-number-test.true; put = c.loop-number.invariant.put c.loop-number.number _ (omega arith) }

pub loop-number-preserved : goal.loop-number-preserved
loop-number-preserved g c =
    let gives = g.W.Task.gives c.args.task.now in
    let last = c.loop-number in
    let value = c.in_ok-value.value in
    record {
      count = length-set last.places last.number c.made_at.new.place ∙ last.invariant.count;
      so_far = omega (arith, ap length c.in_ok-push.ensures.items, length-append last.all.items (value ∷ []), last.invariant.so_far);
      made =
          subst (AreMade gives) (sym c.in_ok-push.ensures.items)
          (made-more gives last.all.items value (subst (λ k. gives k value) (sym last.invariant.so_far) c.in_ok-value.ensures.made) last.invariant.made);
      put = put-more gives last.places last.number c.made_at.new.place (subst (λ p. IfSome p (gives last.number)) (sym c.made_at.ensures.left) tt) last.invariant.put;
    }

pub returns : goal.returns
returns g c = record { count = omega (arith, c.loop-number.invariant.so_far, c.loop-number-test.false, c.loop-number.auto.number-end); made = c.loop-number.invariant.made }
