use Rattle.std.proofs.Common.{◌<◌, ◌∙◌, All, Global, Some, Vec, arith, length, refl, subst, sym}
use Rattle.std.proofs.lemmas.List.Elements.{All-pop}
use Rattle.s66_answer.specs.{Made}
use Rattle.s66_answer.proofs.turns.put_shares.Goals as goal

pub loop-share-init : goal.loop-share-init
loop-share-init g c = record { count = refl; within = c.requires.within; put = c.requires.put }

pub put_share-requires : goal.put_share-requires
put_share-requires g c =
    let gives = g.W.Task.gives c.args.task.now in
    let taken = All-pop (λ (s : Vec (Made g.row.T.Denot) Global). All (λ (m : Made g.row.T.Denot). (m.number < length c.args.places.now) × gives m.number m.value) s.items) _ _ (Some c.in-Some.share) c.in-Some.ensures.items c.loop-share.invariant.within in
    record {
      within = subst (λ n. All (λ (m : Made g.row.T.Denot). (m.number < n) × gives m.number m.value) c.in-Some.share.items) (sym c.loop-share.invariant.count) taken.1;
      put = c.loop-share.invariant.put;
    }

pub loop-share-preserved : goal.loop-share-preserved
loop-share-preserved g c =
    let gives = g.W.Task.gives c.args.task.now in
    let taken = All-pop (λ (s : Vec (Made g.row.T.Denot) Global). All (λ (m : Made g.row.T.Denot). (m.number < length c.args.places.now) × gives m.number m.value) s.items) _ _ (Some c.in-Some.share) c.in-Some.ensures.items c.loop-share.invariant.within in
    record { count = c.put_share.ensures.count ∙ c.loop-share.invariant.count; within = taken.0; put = c.put_share.ensures.put }

pub loop-share-smaller : goal.loop-share-smaller
loop-share-smaller g c = omega (arith, c.in-Some.ensures.len)

pub returns : goal.returns
returns g c = record { count = c.loop-share.invariant.count; put = c.loop-share.invariant.put }
