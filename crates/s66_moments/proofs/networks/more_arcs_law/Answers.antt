use Rattle.s66_moments.proofs.MoreArcs.{with-steps, with-there, with-follows, with-rises, with-own, with-longer_tail}
use Rattle.s66_moments.proofs.networks.more_arcs_law.Goals as goal

pub returns : goal.returns
returns c = record {
  there = λ arcs e f w. with-there arcs e w f;
  steps = λ b known arcs e f w steps among. with-steps b known arcs e w f steps among;
  arcs = λ b low known arcs e f w follow more. with-follows arcs e w f b low known follow more;
  rising = λ b arcs e f w rank rises among up high. with-rises arcs e w f b rank rises among up high;
  own = λ b arcs e f w own. with-own arcs e w f b own;
  longer = λ b arcs e f m w. with-longer_tail arcs e w f b m;
}
