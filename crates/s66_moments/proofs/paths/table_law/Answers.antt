use Rattle.std.proofs.Common.{arith}
use Rattle.s66_moments.specs.{IsStep}
use Rattle.s66_moments.proofs.Steps.{table-along, table-back}
use Rattle.s66_moments.proofs.paths.table_law.Goals as goal

pub returns-clause-heads : goal.returns-clause-heads
returns-clause-heads c = λ b known reached times kept e f w here (hops, path, le). (let both = table-along (IsStep b known) reached times kept e f hops here path in (both.0, omega (arith, both.1, le)))

pub returns-clause-tails : goal.returns-clause-tails
returns-clause-tails c = λ b known reached times kept e f w there (hops, path, le). (let both = table-back (IsStep b known) reached times kept e f hops there path in (both.0, omega (arith, both.1, le)))
