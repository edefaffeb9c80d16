use Rattle.std.proofs.Common.{◌≡◌, ◌++◌, drop}
use Rattle.s66_cert.specs.{instructions_text}
use Rattle.s66_cert.proofs.printing.push_block.Given as goal

abbrev pub invariant-loop-text : goal.invariant-loop-text
invariant-loop-text l = l.out.items ++ instructions_text (drop l.text-index l.block) ≡ l.fn.out.items ++ instructions_text l.block
