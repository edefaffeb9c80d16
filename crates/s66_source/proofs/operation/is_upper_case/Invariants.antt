use Rattle.std.proofs.Common.{◌≡◌, ◌==◌, drop}
use Rattle.s66_isa.specs.{every}
use Rattle.s66_line.specs.{upper_byte}
use Rattle.s66_source.proofs.operation.is_upper_case.Given as goal

abbrev pub invariant-loop-byte : goal.invariant-loop-byte
invariant-loop-byte l = every (λ byte. upper_byte byte == byte) (drop l.byte-index l.bytes) ≡ every (λ byte. upper_byte byte == byte) l.bytes
