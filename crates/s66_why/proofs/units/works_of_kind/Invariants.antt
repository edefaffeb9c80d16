use Rattle.std.proofs.Common.{◌≡◌, ◌≤◌, filter, length, take}
use Rattle.s66_isa.specs.{same_kind}
use Rattle.s66_why.specs.{Work}
use Rattle.s66_why.proofs.units.works_of_kind.Given as goal

abbrev pub invariant-loop-work : goal.invariant-loop-work
invariant-loop-work l = record {
  items : l.same.items ≡ filter (λ (w : Work). same_kind w.kind l.kind) (take l.work-index l.works);
  few : length l.same.items ≤ l.work-index;
}
