use Rattle.std.proofs.Common.{◌≡◌, All, vec_len, vec_capacity}
use Rattle.s66_line.specs.{instrs_of}
use Rattle.s66_pool.proofs.shared_marks.empty_parts.Given as goal

abbrev pub invariant-loop : goal.invariant-loop
invariant-loop l = record {
  count : vec_len l.parts ≡ l.counter;
  room : vec_capacity l.parts ≡ l.count;
  own : All (λ p. p.problem ≡ record { block = instrs_of l.block; profile = l.profile }) l.parts.items;
}
