-- Used by contracts within the crate alone: what is stored of an instruction, in words, to find its dependences.
use Rattle.std.specs.Prelude.{ℕ, ◌+◌, ◌<◌, ◌≡◌, ◌||◌, Bool, List, length, get_or}
use Rattle.s66_isa.specs.Table.{Reg, Instr}
use Rattle.s66_isa.specs.{has_reg, reads_of, results_of, memory_of, memory_pair, instr_at, registers_in}
use Rattle.s66_model.specs.{share}
use Rattle.s66_time.specs.declared.graph.effects.Effects.{Effects}

-- the sets hold the registers that it reads and those that it writes
pub record AreEffects (e : Effects) (n : Instr) : Type 0 where
  pub reads : (r : Reg) → has_reg r (registers_in e.reads) ≡ has_reg r (reads_of n)
  pub results : (r : Reg) → has_reg r (registers_in e.results) ≡ has_reg r (results_of n)
  pub memory : e.memory ≡ memory_of n

-- whether the second, which comes later, must stay after the first
abbrev pub effects_conflict : Effects → Effects → Bool
effects_conflict e f =
    share (registers_in e.results) (registers_in f.reads) || share (registers_in e.reads) (registers_in f.results)
    || share (registers_in e.results) (registers_in f.results) || memory_pair e.memory f.memory

-- those of the first instructions of a block, in order
abbrev pub AreEffectsOf : List Effects → List Instr → Type 0
AreEffectsOf effects block = (i : ℕ) (d : Effects) → i < length effects → AreEffects (get_or effects i d) (instr_at block (i + 1))
