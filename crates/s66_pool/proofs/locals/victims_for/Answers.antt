use Rattle.std.proofs.Common.{◌∙◌, All, Vec, Global, length-set, take_at}
use Rattle.std.proofs.lemmas.List.Elements.{All-same}
use Rattle.s66_pool.specs.{VictimOf, MatchesLane}
use Rattle.s66_pool.proofs.Members.{ids-set, new-after}
use Rattle.s66_pool.proofs.locals.victims_for.Goals as goal

pub returns-in_err-deal-clause-lanes : goal.returns-in_err-deal-clause-lanes
returns-in_err-deal-clause-lanes c = ids-set _ _ _ _ c.deal.ensures.lane ∙ (c.loop-place.invariant.ids ∙ c.requires.thieves)

pub loop-place-preserved : goal.loop-place-preserved
loop-place-preserved c =
    let i = c.loop-place.invariant in
    record {
      count = i.count;
      lanes = length-set _ _ _ ∙ i.lanes;
      ids = ids-set _ _ _ _ c.deal.ensures.lane ∙ i.ids;
      new = new-after _ _ _ i.new;
      placed = All-same (λ (v : Vec VictimOf Global). All (MatchesLane c.args.thieves.now) v.items) _ _ (take_at c.deal.new.victims _ _ (c.deal.ensures.count ∙ c.as_mut_slice.ensures.len)) c.deal.ensures.placed;
    }
