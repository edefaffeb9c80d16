use Rattle.std.proofs.Common.{◌≡◌, ◌∷◌, [], All, None, Option, ap, arith, length, length-append, refl, subst, sym}
use Rattle.std.proofs.lemmas.List.Elements.{All-nil, All-push}
use Rattle.s66_answer.proofs.turns.places_for.Goals as goal

pub loop-init : goal.loop-init
loop-init g c =
    record { count = ap length c.new-places.ensures.items; empty = subst (All (λ (p : Option g.row.T.Denot). p ≡ None)) (sym c.new-places.ensures.items) (All-nil (λ (p : Option g.row.T.Denot). p ≡ None)) }

pub loop-preserved : goal.loop-preserved
loop-preserved g c = record {
  count = omega (arith, ap length c.in_ok-push.ensures.items, length-append c.loop.places.items (None ∷ []), c.loop.invariant.count);
  empty = subst (All (λ (p : Option g.row.T.Denot). p ≡ None)) (sym c.in_ok-push.ensures.items) (All-push (λ (p : Option g.row.T.Denot). p ≡ None) c.loop.places.items None c.loop.invariant.empty refl);
}

pub returns : goal.returns
returns g c = record { count = omega (arith, c.loop.invariant.count, c.loop-test.false, c.loop.auto.counter-end); empty = c.loop.invariant.empty }
