-- What was made is the front of the entries, and those of the texts after it still come.
use Rattle.std.proofs.Common.{◌≡◌, ◌++◌, ℕ, suc, length, map, drop, Vec, Global}
use Rattle.s66_line.specs.{entries_of_texts}
use Rattle.s66_line.proofs.block.Block.of.Given as goal

abbrev pub invariant-loop-position : goal.invariant-loop-position
invariant-loop-position l = record {
  rest : l.entries.items ++ entries_of_texts (suc l.position) (map (λ (t : Vec ℕ Global). t.items) (drop l.position l.texts)) ≡ entries_of_texts 1 (map (λ (t : Vec ℕ Global). t.items) l.texts);
  count : length l.entries.items ≡ l.position;
}
