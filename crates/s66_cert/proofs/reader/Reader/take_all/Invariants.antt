use Rattle.std.proofs.Common.{◌≡◌, ◌≤◌, ◌-◌, [], take, drop}
use Rattle.s66_isa.specs.{BLOCK_LIMIT}
use Rattle.s66_cert.specs.{IsFine, SPLIT_LIMIT, steps, whole_lines, last_bytes, state}
use Rattle.s66_cert.proofs.reader.Reader.take_all.Given as goal

-- the lines so far, and then those of the rest, are those of all
abbrev pub invariant-loop-i : goal.invariant-loop-i
invariant-loop-i l = record {
  begun : l.begin ≤ l.i;
  rest : steps BLOCK_LIMIT SPLIT_LIMIT (state l.self) (whole_lines (take (l.i - l.begin) (drop l.begin l.text)) (drop l.i l.text)) ≡ steps BLOCK_LIMIT SPLIT_LIMIT (state l.fn.self) (whole_lines [] l.text);
  last : last_bytes (take (l.i - l.begin) (drop l.begin l.text)) (drop l.i l.text) ≡ last_bytes [] l.text;
  fine : IsFine SPLIT_LIMIT (state l.self);
  lines : l.self.lines ≤ l.i;
}
