use Rattle.std.proofs.Common.{◌≡◌, ◌++◌, drop}
use Rattle.s66_reasons.specs.{then_words}
use Rattle.s66_reasons.proofs.paragraphs.push_then.Given as goal

abbrev pub invariant-loop-n : goal.invariant-loop-n
invariant-loop-n l = l.out.items ++ then_words (drop l.n-index l.numbers) ≡ l.fn.out.items ++ then_words l.numbers
