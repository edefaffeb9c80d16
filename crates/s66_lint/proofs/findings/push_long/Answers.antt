use Rattle.std.proofs.Common.{arith}
use Rattle.s66_lint.proofs.Listings.{order-later}
use Rattle.s66_lint.proofs.findings.push_long.Goals as goal

pub returns-in_default : goal.returns-in_default
returns-in_default c = λ before last below h has. order-later 1 before _ c.args.all.now.items (omega (arith, below)) h
