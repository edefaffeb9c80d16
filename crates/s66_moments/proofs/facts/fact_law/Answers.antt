use Rattle.std.proofs.Common.{arith}
use Rattle.s66_moments.proofs.FactLaws.{among-so}
use Rattle.s66_moments.proofs.facts.fact_law.Goals as goal

pub returns : goal.returns
returns c = record {
  known = λ b low known fact among order legal less so. among-so b order fact known among so;
  cut = λ b low known fact other first second order legal less so. second order legal less (first order legal less so, so);
  composed = λ b low known e f g w v x y first second order legal less so. (let one = first order legal less so in let two = second order legal less so in omega (arith, one, two));
  shortened = λ b low known e f w v x y arc le order legal less so. (let one = arc order legal less so in omega (arith, one, le));
  lower = λ b low other known fact le follows order legal less so. follows order legal (omega (arith, less, le)) so;
  too_late = λ b low known arc order legal less so. (let one = arc order legal less so in absurd (omega (arith, one, less)));
}
