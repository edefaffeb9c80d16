use Rattle.std.proofs.Common.{◌==◌, arith}
use Rattle.s66_model.specs.{row_at}
use Rattle.s66_bound.proofs.CostTables.{set-filled}
use Rattle.s66_bound.proofs.tables.long_numbers.Goals as goal

pub returns : goal.returns
returns c = λ b are. set-filled b c.args.costs.now (λ n. (row_at b n).parcels == 2) c.loop-place.long c.loop-place.place are c.requires.few (omega (arith, c.loop-place-test.false, c.loop-place.auto.place-end)) (c.loop-place.invariant b are)
