use Rattle.std.proofs.Common.{◌≡◌, ◌<◌, All, length, vec_len}
use Rattle.s66_answer.specs.{ArePut}
use Rattle.s66_answer.proofs.turns.put_share.Given as goal

abbrev pub invariant-loop-made : goal.invariant-loop-made
invariant-loop-made g l = record {
  count : length l.places ≡ length l.fn.places;
  within : All (λ m. (m.number < length l.fn.places) × g.W.Task.gives l._task m.number m.value) l.share.items;
  put : ArePut (g.W.Task.gives l._task) l.places;
}

abbrev pub decreases-loop-made : goal.decreases-loop-made
decreases-loop-made g l = vec_len l.share
