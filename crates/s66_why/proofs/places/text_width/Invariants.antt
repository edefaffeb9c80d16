use Rattle.std.proofs.Common.{ℕ, ◌≡◌, ◌≤◌, ◌+◌, ◌-◌, length, max}
use Rattle.s66_isa.specs.{greatest, rising}
use Rattle.s66_line.specs.{instrs_of, text_of, TEXT_LIMIT}
use Rattle.s66_why.specs.{text_width}
use Rattle.s66_why.proofs.places.text_width.Given as goal

abbrev pub invariant-loop-position : goal.invariant-loop-position
invariant-loop-position l = record {
  value : max l.width (greatest (λ (n : ℕ). length (text_of l.block n)) (rising (length (instrs_of l.block) - l.position) (l.position + 1))) ≡ text_width l.block;
  few : l.width ≤ TEXT_LIMIT;
}
