use Rattle.std.proofs.Common.{◌≡◌, drop, map, List, ℕ, Bor}
use Rattle.s66_program.specs.{is_named_among}
use Rattle.s66_program.proofs.statement.is_one_of.Given as goal

abbrev pub invariant-loop-known : goal.invariant-loop-known
invariant-loop-known l =
    is_named_among (map (λ (known : Bor (List ℕ)). known.now) (drop l.known-index l.names)) l.name ≡ is_named_among (map (λ (known : Bor (List ℕ)). known.now) l.names) l.name
