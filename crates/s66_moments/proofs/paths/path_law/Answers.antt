use Rattle.std.proofs.Common.{arith}
use Rattle.s66_moments.proofs.Steps.{step-so, leads-so}
use Rattle.s66_moments.proofs.paths.path_law.Goals as goal

pub returns-clause-step : goal.returns-clause-step
returns-clause-step c = λ b low known e f w step order legal less so. omega (arith, step-so b known order legal so e w f step)

pub returns-clause-path : goal.returns-clause-path
returns-clause-path c = λ b low known e f w leads order legal less so. omega (arith, leads-so b known order legal so e w f leads)
