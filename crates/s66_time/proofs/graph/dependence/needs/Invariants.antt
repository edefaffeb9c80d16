use Rattle.std.proofs.Common.{ℕ, ◌≡◌, ◌+◌, List, length}
use Rattle.s66_isa.specs.{has, instr_at, numbers_in}
use Rattle.s66_isa.specs.Table.{Instr}
use Rattle.s66_isa.proofs.Sets.{within}
use Rattle.s66_model.specs.{depends}
use Rattle.s66_time.specs.{AreEffects, AreEffectsOf}
use Rattle.s66_time.proofs.graph.dependence.needs.Given as goal

abbrev pub invariant-loop-position : goal.invariant-loop-position
invariant-loop-position l =
    (block : List Instr) → AreEffectsOf l.earlier block → AreEffects l.later (instr_at block (length l.earlier + 1)) →
    (m : ℕ) → has m (numbers_in l.needs) ≡ within (λ a. depends block a (length l.earlier + 1)) (l.position + 1) m
