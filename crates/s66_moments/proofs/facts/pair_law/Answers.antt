use Rattle.std.proofs.Common.{sym}
use Rattle.s66_moments.proofs.FactLaws.{before-transitive, before-itself, forced, forced-parcels, forced-unit}
use Rattle.s66_moments.proofs.Steps.{precedes-so}
use Rattle.s66_moments.proofs.facts.pair_law.Goals as goal

pub returns : goal.returns
returns c = record {
  precedes = λ b low known m n precedes order legal less so. precedes-so b known order legal so m n precedes;
  transitive = λ b low known m k n first second order legal less so. before-transitive b order legal m k n (first order legal less so) (second order legal less so);
  ring = λ b low known n ring order legal less so. before-itself b order legal n (ring order legal less so);
  forced = λ b low known m n differ is_m is_n none. forced b low known n m (λ e. differ (sym e)) is_n is_m none;
  forced_by_parcels = λ b low known m n h t differ is_m is_n head tail late. forced-parcels b low known n m (λ e. differ (sym e)) is_n is_m h t head tail late;
  forced_by_unit = λ b low known m n h t differ is_m is_n one head tail late. forced-unit b low known n m (λ e. differ (sym e)) is_n is_m h t one.0 one.1 head tail late;
}
