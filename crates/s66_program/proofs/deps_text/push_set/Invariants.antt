use Rattle.std.proofs.Common.{◌≡◌, ◌++◌, length}
use Rattle.s66_isa.specs.{numbers_in, after_blanks}
use Rattle.s66_program.proofs.deps_text.push_set.Given as goal

abbrev pub invariant-loop-number : goal.invariant-loop-number
invariant-loop-number l = l.out.items ++ after_blanks (numbers_in l.rest) ≡ l.fn.out.items ++ after_blanks (numbers_in l.set)

abbrev pub decreases-loop-number : goal.decreases-loop-number
decreases-loop-number l = length (numbers_in l.rest)
