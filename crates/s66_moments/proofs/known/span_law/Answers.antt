use Rattle.s66_moments.specs.{waits, span}
use Rattle.s66_moments.proofs.Spans.{some-height, span-path, span-high, span-from_front, span-from_back}
use Rattle.s66_moments.proofs.known.span_law.Goals as goal

pub returns : goal.returns
returns c = record {
  path = λ b arcs e f w is. span-path b arcs e f w is;
  longest = λ b arcs e f hops rises path. some-height (span b arcs e f) (waits hops) (span-high b arcs rises e hops f path);
  from_the_front = λ b arcs e f rises. span-from_front b arcs rises e f;
  from_the_back = λ b arcs e f rises. span-from_back b arcs rises e f;
}
