use Rattle.s66_moments.proofs.MoreArcs.{pair-known}
use Rattle.s66_moments.proofs.Rings.{places, pair-transitive, pair-no_ring}
use Rattle.s66_moments.proofs.networks.more_pairs_law.Goals as goal

pub returns : goal.returns
returns c = record {
  known = λ b known before j k is is_j is_k among. pair-known b known before j k is is_j is_k among;
  transitive = λ b before j k is_j is_k through. pair-transitive b before j k is_j is_k through;
  no_ring = λ b before j k is_j is_k through none differ off. pair-no_ring b before j k is_j is_k through none differ off;
  places = places;
}
