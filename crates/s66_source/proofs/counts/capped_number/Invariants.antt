use Rattle.std.proofs.Common.{◌≡◌, ◌≤◌, drop, min, true}
use Rattle.s66_isa.specs.{every}
use Rattle.s66_line.specs.{is_decimal}
use Rattle.s66_source.specs.{spelled_after, SOURCE_LINES_LIMIT}
use Rattle.s66_source.proofs.counts.capped_number.Given as goal

-- the digits so far, capped, and then those of the rest spell the number of all, capped
abbrev pub invariant-loop-digit : goal.invariant-loop-digit
invariant-loop-digit l = record {
  capped : min (spelled_after l.number (drop l.digit-index l.digits)) SOURCE_LINES_LIMIT ≡ min (spelled_after 0 l.digits) SOURCE_LINES_LIMIT;
  few : l.number ≤ SOURCE_LINES_LIMIT;
  digits : every is_decimal (drop l.digit-index l.digits) ≡ true;
}
