use Rattle.std.proofs.Common.{refl}
use Rattle.s66_source.proofs.keeper.Keeper.put_line.Goals as goal

pub push_anew-requires-clause-placed : goal.push_anew-requires-clause-placed
push_anew-requires-clause-placed c = c.requires.placed c.in-Some-Some.placed.now c.in-Some-Some.block.now (rw c.in-Some-Some.is-0 refl) (rw c.in-Some-Some.is-1 refl)
