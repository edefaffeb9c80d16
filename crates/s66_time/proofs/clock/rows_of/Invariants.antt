use Rattle.std.proofs.Common.{ℕ, ◌≡◌, ◌<◌, map, take, length, get_or}
use Rattle.s66_isa.specs.{idle_instr, row}
use Rattle.s66_model.specs.{HasDigits}
use Rattle.s66_line.specs.{instrs_of}
use Rattle.s66_time.proofs.clock.rows_of.Given as goal

abbrev pub invariant-loop-position : goal.invariant-loop-position
invariant-loop-position l = record {
  rows : l.rows.items ≡ map (row l.profile) (take l.position (instrs_of l.block));
  count : length l.rows.items ≡ l.position;
  digits : (i : ℕ) → i < l.position → HasDigits (get_or (instrs_of l.block) i idle_instr);
}
