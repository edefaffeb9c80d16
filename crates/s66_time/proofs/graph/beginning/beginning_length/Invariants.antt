use Rattle.std.proofs.Common.{ℕ, ◌≡◌, take}
use Rattle.s66_isa.specs.{has, numbers_in}
use Rattle.s66_model.specs.{IsBeginning}
use Rattle.s66_line.specs.{instrs_of}
use Rattle.s66_time.proofs.graph.beginning.beginning_length.Given as goal

abbrev pub invariant-loop-position : goal.invariant-loop-position
invariant-loop-position l = record {
  placed : (m : ℕ) → has m (numbers_in l.placed) ≡ has m (take l.position l.numbers);
  beginning : IsBeginning (instrs_of l.block) (take l.position l.numbers);
}
