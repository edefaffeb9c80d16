use Rattle.std.proofs.Common.{drop, ◌↔◌}
use Rattle.s66_isa.specs.{BLOCK_LIMIT}
use Rattle.s66_cert.specs.{AreIn}
use Rattle.s66_cert.proofs.ranges.are_all_numbers.Given as goal

abbrev pub invariant-loop-n : goal.invariant-loop-n
invariant-loop-n l = AreIn 1 BLOCK_LIMIT (drop l.n-index l.numbers) ↔ AreIn 1 BLOCK_LIMIT l.numbers
