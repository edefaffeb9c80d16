-- Used by examples alone: small blocks with their lines, under the standard profile.
use Rattle.std.specs.Prelude.{ℕ, List, [], ◌∷◌, ◌++◌, codes}
use Rattle.s66_isa.specs.{instr}
use Rattle.s66_model.specs.{standard_problem}
use Rattle.s66_line.specs.{Block, instrs_of}
use Rattle.s66_time.specs.TimedOrder.{TimedOrder}

-- a block in an order
abbrev pub in_order : Block → List ℕ → TimedOrder
in_order block numbers = record { problem = standard_problem (instrs_of block); numbers = numbers }

-- its label begins in column 2, and has a quote and a byte that is no ASCII
abbrev pub labelled : Block
labelled = record { label = codes " A\"" ++ 233 ∷ []; entries = record { instr = instr 0o56 6 1 0; line = 3; bytes = codes "sa6 b1" } ∷ [] }

-- a load, one that needs what it fetches, and another one
abbrev pub loads_and_two : Block
loads_and_two = record {
  label = [];
  entries =
      record { instr = instr 0o54 1 1 1; line = 1; bytes = codes "SA1 A1+B1" } ∷ record { instr = instr 0o10 6 1 1; line = 2; bytes = codes "BX6 X1" }
      ∷ record { instr = instr 0o10 7 2 2; line = 3; bytes = codes "BX7 X2" } ∷ [];
}
