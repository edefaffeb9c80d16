use Rattle.std.proofs.Common.{refl}
use Rattle.s66_checker.proofs.GrantedClaims.{verdict-yes, verdict-claims, claim-bound}
use Rattle.s66_checker.proofs.laws.yes_law.Goals as goal

pub returns : goal.returns
returns c = record {
  stated = verdict-claims;
  yes = λ limit d is none claim. (verdict-yes limit d d.time d.bound is none).1 (refl, refl, claim);
  bound = claim-bound;
}
