-- Used by examples alone: small blocks with their lines, under the standard profile.
use Rattle.std.specs.Prelude.{ℕ, List, [], ◌∷◌, codes}
use Rattle.s66_isa.specs.{Instr, instr}
use Rattle.s66_model.specs.{standard_problem}
use Rattle.s66_line.specs.{Block}
use Rattle.s66_time.specs.TimedOrder.{TimedOrder}
use Rattle.s66_views.specs.FoundOrders.{FoundOrder}

abbrev pub in_order : List Instr → List ℕ → TimedOrder
in_order block numbers = record { problem = standard_problem block; numbers = numbers }

-- BX6 X1
abbrev pub one_boolean : List Instr
one_boolean = instr 0o10 6 1 1 ∷ []

-- with a label and a remark
abbrev pub labelled : Block
labelled = record { label = codes "A&B"; entries = record { instr = instr 0o10 6 1 1; line = 1; bytes = codes "BX6 X1    <2" } ∷ [] }

-- those of third_order
abbrev pub third_order_lines : Block
third_order_lines = record {
  label = [];
  entries =
      record { instr = instr 0o44 1 2 3; line = 1; bytes = codes "FX1 X2/X3" } ∷ record { instr = instr 0o11 4 1 5; line = 2; bytes = codes "BX4 X1*X5" }
      ∷ record { instr = instr 0o76 5 1 0; line = 3; bytes = codes "SX5 B1" } ∷ [];
}

-- for a block that is entered by this name
abbrev pub found_for : List ℕ → FoundOrder
found_for name = record { entry = name; order = record { block = []; numbers = [] }; bound = 0; reasons = [] }
