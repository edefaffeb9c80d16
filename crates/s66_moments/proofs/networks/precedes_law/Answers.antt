use Rattle.s66_moments.proofs.Preceders.{precedes-near, precedes-far, precedes-cases, precedes-known, precedes-transitive, precedes-no_ring, precedes-placed}
use Rattle.s66_moments.proofs.networks.precedes_law.Goals as goal

pub returns : goal.returns
returns c = record {
  near = precedes-near;
  far = precedes-far;
  cases = precedes-cases;
  known = λ b known. precedes-known b known;
  transitive = precedes-transitive;
  no_ring = precedes-no_ring;
  places = precedes-placed;
}
