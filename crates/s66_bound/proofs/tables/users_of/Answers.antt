use Rattle.std.proofs.Common.{arith}
use Rattle.s66_model.specs.{row_at, uses}
use Rattle.s66_bound.proofs.CostTables.{set-filled}
use Rattle.s66_bound.proofs.tables.users_of.Goals as goal

pub returns : goal.returns
returns c = λ b are. set-filled b c.args.costs.now (λ n. uses (row_at b n) c.args.register) c.loop-place.users c.loop-place.place are c.requires.few (omega (arith, c.loop-place-test.false, c.loop-place.auto.place-end)) (c.loop-place.invariant b are)
