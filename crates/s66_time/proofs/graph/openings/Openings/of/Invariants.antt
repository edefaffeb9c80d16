use Rattle.std.proofs.Common.{ℕ, ◌≡◌, ◌+◌, ◌<◌, length, map, get_or}
use Rattle.s66_isa.specs.{has, rising, numbers_in, no_set}
use Rattle.s66_time.specs.{is_direct, opens}
use Rattle.s66_time.proofs.graph.openings.Openings.of.Given as goal

abbrev pub invariant-loop-position : goal.invariant-loop-position
invariant-loop-position l = record {
  direct : (i : ℕ) → i < l.position → (m : ℕ) → has m (numbers_in (get_or l.direct.items i no_set)) ≡ is_direct l.dependences m (i + 1);
  count : length l.direct.items ≡ l.position;
}

abbrev pub invariant-loop-position-2 : goal.invariant-loop-position-2
invariant-loop-position-2 l = record {
  opened : map numbers_in l.opened.items ≡ map (opens l.dependences) (rising l.position 1);
  count : length l.opened.items ≡ l.position;
}
