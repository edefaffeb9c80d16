use Rattle.std.proofs.Common.{◌≡◌, ◌==◌, ◌||◌, drop}
use Rattle.s66_isa.specs.{every}
use Rattle.s66_line.specs.{is_decimal}
use Rattle.s66_source.specs.{is_letter}
use Rattle.s66_source.proofs.directive.are_name_bytes.Given as goal

abbrev pub invariant-loop-byte : goal.invariant-loop-byte
invariant-loop-byte l =
    every (λ c. is_letter c || (is_decimal c || c == 61)) (drop l.byte-index l.bytes) ≡ every (λ c. is_letter c || (is_decimal c || c == 61)) l.bytes
