use Rattle.std.proofs.Common.{◌<◌, ◌∙◌, Some, arith, length, refl, length-set}
use Rattle.std.proofs.lemmas.List.Elements.{All-pop}
use Rattle.s66_answer.specs.{Made}
use Rattle.s66_answer.proofs.Places.{put-more}
use Rattle.s66_answer.proofs.turns.put_share.Goals as goal

pub loop-made-init : goal.loop-made-init
loop-made-init g c = record { count = refl; within = c.requires.within; put = c.requires.put }

pub bounds-places-made : goal.bounds-places-made
bounds-places-made g c =
    let taken = All-pop (λ (m : Made g.row.T.Denot). (m.number < length c.args.places.now) × g.W.Task.gives c.args._task.now m.number m.value) _ _ (Some c.in-Some.made) c.in-Some.ensures.items c.loop-made.invariant.within in
    omega (arith, taken.1.0, c.loop-made.invariant.count)

pub loop-made-preserved : goal.loop-made-preserved
loop-made-preserved g c =
    let m = c.in-Some.made in
    let gives = g.W.Task.gives c.args._task.now in
    let taken = All-pop (λ (m : Made g.row.T.Denot). (m.number < length c.args.places.now) × gives m.number m.value) _ _ (Some m) c.in-Some.ensures.items c.loop-made.invariant.within in
    record {
      count = length-set c.loop-made.places m.number (Some m.value) ∙ c.loop-made.invariant.count;
      within = taken.0;
      put = put-more gives c.loop-made.places m.number (Some m.value) taken.1.1 c.loop-made.invariant.put;
    }

pub loop-made-smaller : goal.loop-made-smaller
loop-made-smaller g c = omega (arith, c.in-Some.ensures.len)

pub returns : goal.returns
returns g c = record { count = c.loop-made.invariant.count; put = c.loop-made.invariant.put }
