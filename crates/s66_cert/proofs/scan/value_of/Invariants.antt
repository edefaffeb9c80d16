use Rattle.std.proofs.Common.{◌≡◌, ◌<◌, ◌^◌, drop}
use Rattle.s66_isa.specs.{every}
use Rattle.s66_line.specs.{is_decimal}
use Rattle.s66_cert.specs.{value_after}
use Rattle.s66_cert.proofs.scan.value_of.Given as goal

-- the value so far, and then that of the rest, is that of all
abbrev pub invariant-loop-byte : goal.invariant-loop-byte
invariant-loop-byte l = record {
  value : value_after l.value (drop l.byte-index l.word) ≡ value_after 0 l.word;
  digits : every is_decimal (drop l.byte-index l.word) ≡ every is_decimal l.word;
  small : l.value < 10 ^ l.byte-index;
}
