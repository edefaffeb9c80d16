use Rattle.std.proofs.Common.{◌≡◌, ◌≤◌, ◌+◌, ◌++◌, length}
use Rattle.s66_line.specs.{TEXT_LIMIT}
use Rattle.s66_source.specs.{letters_of}
use Rattle.s66_source.proofs.redefined.push_letters.Given as goal

-- the letters so far, and then those of the rest, are those of all
abbrev pub invariant-loop-rest : goal.invariant-loop-rest
invariant-loop-rest l = record {
  rest : l.form.items ++ letters_of l.rest ≡ l.fn.form.items ++ letters_of l.operand;
  fits : length l.form.items + length l.rest ≤ TEXT_LIMIT;
}

abbrev pub decreases-loop-rest : goal.decreases-loop-rest
decreases-loop-rest l = length l.rest
