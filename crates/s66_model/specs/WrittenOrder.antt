-- To be believed: a block that is written in an order.
use Rattle.std.specs.Prelude.{ℕ, List, map}
use Rattle.s66_isa.specs.{instr_at}
use Rattle.s66_model.specs.Timing.{Problem}

-- its instructions are those of these numbers in turn
abbrev pub written_in : List ℕ → Problem → Problem
written_in order b = record { block = map (instr_at b.block) order; profile = b.profile }
