use Rattle.std.proofs.Common.{◌≡◌, ◌≤◌, ◌&&◌, length, filter}
use Rattle.s66_isa.specs.{rising, same_kind}
use Rattle.s66_model.specs.{row_at, is_remaining}
use Rattle.s66_reasons.specs.{AreWithin}
use Rattle.s66_reasons.proofs.units.numbers_of.Given as goal

abbrev pub invariant-loop-position : goal.invariant-loop-position
invariant-loop-position l = record {
  value : l.numbers.items ≡ filter (λ n. is_remaining l.prefix.problem.block l.prefix.numbers n && same_kind (row_at l.prefix.problem n).kind l.kind) (rising l.position 1);
  within : AreWithin (length l.prefix.problem.block) l.numbers.items;
  few : length l.numbers.items ≤ l.position;
}
