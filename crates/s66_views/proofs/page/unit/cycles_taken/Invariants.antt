use Rattle.std.proofs.Common.{◌≡◌, ◌≤◌, ◌*◌, ◌^◌, take}
use Rattle.s66_views.specs.{taken}
use Rattle.s66_views.proofs.page.unit.cycles_taken.Given as goal

abbrev pub invariant-loop-work : goal.invariant-loop-work
invariant-loop-work l = record {
  value : l.cycles ≡ taken (take l.work-index l.works);
  few : l.cycles ≤ 2 ^ 32 * l.work-index;
}
