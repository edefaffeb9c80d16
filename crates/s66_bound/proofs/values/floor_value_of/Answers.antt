use Rattle.std.proofs.Common.{refl, arith}
use Rattle.s66_model.specs.{chain}
use Rattle.s66_time.specs.{problem_of}
use Rattle.s66_bound.proofs.ValueBounds.{floor-greatest}
use Rattle.s66_bound.proofs.values.floor_value_of.Goals as goal

pub returns : goal.returns
returns c =
    let t = c.args.clock.now in
    let b = problem_of t in
    omega (
      arith,
      c.least_or_chain.ensures,
      c.max.ensures,
      floor-greatest b t.numbers (chain b t.numbers) c.greatest_load-loads.result c.parcels_of-parcels.result c.requires.rest.begins c.requires.some refl c.greatest_load-loads.ensures c.parcels_of-parcels.ensures,
    )
