use Rattle.std.proofs.Common.{◌≡◌, ◌≤◌, length, min, take}
use Rattle.s66_isa.specs.{tally, weigh, Row, all_kinds, same_kind, Kind, KIND_COUNT}
use Rattle.s66_time.specs.{kept_in}
use Rattle.s66_time.proofs.mark_shape.MarkShape.of.Given as goal

abbrev pub invariant-loop-row : goal.invariant-loop-row
invariant-loop-row l = record {
  counted : (kind : Kind) → kept_in l.kept kind ≡ min (kept_in l.copies.counts kind) (tally (λ (r : Row). same_kind r.kind kind) (take l.row-index l.rows));
  size : length l.kept ≡ KIND_COUNT;
  few : weigh (kept_in l.kept) all_kinds ≤ l.row-index;
}
