use Rattle.std.proofs.Common.{ℕ, List, ◌≡◌, ◌≤◌, ◌+◌, ◌*◌, length, drop}
use Rattle.s66_isa.specs.{BLOCK_LIMIT, weigh}
use Rattle.s66_program.proofs.deps_text.pairs.Given as goal

abbrev pub invariant-loop-position : goal.invariant-loop-position
invariant-loop-position l = record {
  sum : l.sum + weigh (λ (ns : List ℕ). length ns) (drop l.position l.dependences) ≡ weigh (λ (ns : List ℕ). length ns) l.dependences;
  few : l.sum ≤ BLOCK_LIMIT * l.position;
}
