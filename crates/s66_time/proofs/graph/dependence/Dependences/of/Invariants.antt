use Rattle.std.proofs.Common.{◌≡◌, length, map}
use Rattle.s66_isa.specs.{rising, numbers_in}
use Rattle.s66_model.specs.{needs}
use Rattle.s66_line.specs.{instrs_of}
use Rattle.s66_time.specs.{AreEffectsOf}
use Rattle.s66_time.proofs.graph.dependence.Dependences.of.Given as goal

abbrev pub invariant-loop-position : goal.invariant-loop-position
invariant-loop-position l = record {
  effects : AreEffectsOf l.effects.items (instrs_of l.block);
  needs : map numbers_in l.needs_of_all.items ≡ map (needs (instrs_of l.block)) (rising l.position 1);
  kept : length l.effects.items ≡ l.position;
  count : length l.needs_of_all.items ≡ l.position;
}
