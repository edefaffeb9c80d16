use Rattle.std.proofs.Common.{◌≡◌, ◌++◌, drop}
use Rattle.s66_isa.specs.{after_blanks}
use Rattle.s66_compare.proofs.text.push_numbers.Given as goal

abbrev pub invariant-loop-number : goal.invariant-loop-number
invariant-loop-number l = l.out.items ++ after_blanks (drop l.number-index l.numbers) ≡ l.fn.out.items ++ after_blanks l.numbers
