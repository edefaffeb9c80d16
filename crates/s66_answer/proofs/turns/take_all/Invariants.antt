use Rattle.std.proofs.Common.{◌≡◌, length}
use Rattle.s66_answer.specs.{AreMade, ArePut}
use Rattle.s66_answer.proofs.turns.take_all.Given as goal

abbrev pub invariant-loop-number : goal.invariant-loop-number
invariant-loop-number g l = record {
  count : length l.places ≡ length l.fn.places;
  so_far : length l.all.items ≡ l.number;
  made : AreMade (g.W.Task.gives l.task) l.all.items;
  put : ArePut (g.W.Task.gives l.task) l.places;
}
