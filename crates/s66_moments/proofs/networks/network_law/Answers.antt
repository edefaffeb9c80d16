use Rattle.s66_moments.proofs.Tails.{network-steps, network-follows, network-rises_by, network-own}
use Rattle.s66_moments.proofs.networks.network_law.Goals as goal

pub returns : goal.returns
returns c = record {
  steps = λ b known before is. network-steps b before known is;
  arcs = λ b low known before is. network-follows b before low known is;
  rising = λ b before place placed. network-rises_by b before place placed;
  own = network-own;
}
