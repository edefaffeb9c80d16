use Rattle.std.proofs.Common.{arith}
use Rattle.s66_moments.specs.{stage_time}
use Rattle.s66_moments.proofs.FactLaws.{prefix-time_at, prefix-before}
use Rattle.s66_moments.proofs.Soonest.{soonest-le, total-stays}
use Rattle.s66_moments.proofs.facts.prefix_law.Goals as goal

pub returns : goal.returns
returns c = record {
  placed = λ b low known prefix n stage begins there. (
    λ order legal less so. (let (rest, is) = begins order legal less so in omega (arith, prefix-time_at b order legal prefix rest is n (stage_time stage) there)),
    λ order legal less so. (let (rest, is) = begins order legal less so in omega (arith, prefix-time_at b order legal prefix rest is n (stage_time stage) there)),
  );
  soonest = λ b low known prefix n stage begins remains order legal less so. (let (rest, is) = begins order legal less so in omega (arith, soonest-le b order legal prefix rest is n stage remains));
  later = λ b low known prefix m n begins first number order legal less so. (let (rest, is) = begins order legal less so in prefix-before b order legal prefix rest is m n first.0 first.1 number.0 number.1);
  total = λ b low known prefix begins order legal less so. (let (rest, is) = begins order legal less so in omega (arith, total-stays b order legal prefix rest is));
}
