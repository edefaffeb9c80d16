use Rattle.std.proofs.Common.{[]}
use Rattle.s66_moments.proofs.Tails.{greatest-follows, dependence-below, value-le, greatest-is_path}
use Rattle.s66_moments.proofs.Preceders.{precedes-known}
use Rattle.s66_moments.proofs.networks.greatest_path_law.Goals as goal

pub returns : goal.returns
returns c = record {
  below = λ b low known arcs prefix follow. greatest-follows b arcs low known follow prefix;
  by_dependence = λ b prefix rest legal. dependence-below b prefix rest (precedes-known b []) legal;
  greatest = λ b arcs prefix n stage hops f rises remains path. value-le b arcs rises prefix n stage hops f remains.0 remains.1 path;
  reached = λ b arcs prefix m remains. greatest-is_path b arcs prefix m remains;
}
