use Rattle.std.proofs.Common.{◌≡◌, drop}
use Rattle.s66_isa.specs.{every}
use Rattle.s66_compare.specs.{is_legal}
use Rattle.s66_compare.proofs.rows.are_legal.Given as goal

abbrev pub invariant-loop-row : goal.invariant-loop-row
invariant-loop-row l = every is_legal (drop l.row-index l.rows) ≡ every is_legal l.rows
