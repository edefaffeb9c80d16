use Rattle.std.proofs.Common.{◌-◌, get_or, refl, sym}
use Rattle.s66_isa.specs.{weigh}
use Rattle.s66_model.specs.{points_of, next, copies, remaining, rest_busy}
use Rattle.s66_model.proofs.FloorParts.{floor-parts, rest-some, parcels-static, left-sum, leaf-small}
use Rattle.s66_model.proofs.UnitLoad.{load-parts}
use Rattle.s66_model.proofs.tails.floor_parts_law.Goals as goal

pub returns : goal.returns
returns c = record {
  greatest = floor-parts;
  parcels = λ b prefix begins short. parcels-static b prefix (rest-some b prefix begins short);
  loads = λ b prefix words kind known.
      let sum = weigh (λ n. get_or words (n - 1) 0) (remaining b.block prefix) in
      let busy = weigh (rest_busy kind (next (points_of b prefix))) (points_of b prefix) in
      sym (load-parts b prefix kind words (remaining b.block prefix) sum busy (copies b kind) (next (points_of b prefix)) known refl refl refl refl refl);
  sums = λ b prefix words f known. left-sum b prefix f words known;
  fits = leaf-small;
}
