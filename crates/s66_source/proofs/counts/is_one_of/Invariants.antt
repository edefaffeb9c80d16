use Rattle.std.proofs.Common.{ℕ, List, ◌≡◌, drop, map, Bor}
use Rattle.s66_source.specs.{is_one_of}
use Rattle.s66_source.proofs.counts.is_one_of.Given as goal

abbrev pub invariant-loop-name : goal.invariant-loop-name
invariant-loop-name l = is_one_of (map (λ (name : Bor (List ℕ)). name.now) (drop l.name-index l.names)) l.word ≡ is_one_of (map (λ (name : Bor (List ℕ)). name.now) l.names) l.word
