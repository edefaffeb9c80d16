use Rattle.std.proofs.Common.{◌≡◌, ◌<◌, All, length, vec_len}
use Rattle.s66_answer.specs.{ArePut}
use Rattle.s66_answer.proofs.turns.put_shares.Given as goal

abbrev pub invariant-loop-share : goal.invariant-loop-share
invariant-loop-share g l = record {
  count : length l.places ≡ length l.fn.places;
  within : All (λ s. All (λ m. (m.number < length l.fn.places) × g.W.Task.gives l.task m.number m.value) s.items) l.shares.items;
  put : ArePut (g.W.Task.gives l.task) l.places;
}

abbrev pub decreases-loop-share : goal.decreases-loop-share
decreases-loop-share g l = vec_len l.shares
