use Rattle.std.proofs.Common.{◌≡◌}
use Rattle.std.proofs.lemmas.List.Elements.{All-map}
use Rattle.s66_pool.specs.{SeatOf, Member}
use Rattle.s66_pool.proofs.Members.{worked-seats, worked-placed, here-kept}
use Rattle.s66_pool.proofs.crew.work_at_each.Goals as goal

pub returns : goal.returns
returns g c =
    let same = worked-seats _ _ c.run_at_each.ensures.len c.run_at_each.ensures.each in
    record {
      same = same;
      here = here-kept _ _ _ same (All-map (λ (s : SeatOf). s.hub ≡ c.args.hub.now.id) (λ (m : Member). m.seat) _ c.requires.here);
      placed = worked-placed _ _ c.run_at_each.ensures.len c.run_at_each.ensures.each c.requires.placed;
    }
