use Rattle.std.proofs.Common.{◌≡◌, ◌++◌, drop}
use Rattle.s66_reasons.specs.{line_name, listed}
use Rattle.s66_reasons.proofs.path.push_lines.Given as goal

abbrev pub invariant-loop-place : goal.invariant-loop-place
invariant-loop-place l = l.out.items ++ listed line_name (drop l.place l.numbers) ≡ l.fn.out.items ++ listed line_name l.numbers
