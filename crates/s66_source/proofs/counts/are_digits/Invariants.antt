use Rattle.std.proofs.Common.{◌≡◌, drop}
use Rattle.s66_isa.specs.{every}
use Rattle.s66_line.specs.{is_decimal}
use Rattle.s66_source.proofs.counts.are_digits.Given as goal

abbrev pub invariant-loop-byte : goal.invariant-loop-byte
invariant-loop-byte l = every is_decimal (drop l.byte-index l.bytes) ≡ every is_decimal l.bytes
