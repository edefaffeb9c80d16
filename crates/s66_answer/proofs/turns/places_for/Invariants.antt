use Rattle.std.proofs.Common.{◌≡◌, All, None, length}
use Rattle.s66_answer.proofs.turns.places_for.Given as goal

abbrev pub invariant-loop : goal.invariant-loop
invariant-loop g l = record {
  count : length l.places.items ≡ l.counter;
  empty : All (λ p. p ≡ None) l.places.items;
}
