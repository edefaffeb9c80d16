-- Used by examples alone: small blocks with their lines.
use Rattle.std.specs.Prelude.{[], ◌∷◌, codes}
use Rattle.s66_isa.specs.{instr}
use Rattle.s66_line.specs.{Block}

-- those of one_load
abbrev pub one_load_lines : Block
one_load_lines = record {
  label = [];
  entries =
      record { instr = instr 0o54 1 1 1; line = 1; bytes = codes "SA1 A1+B1  NEXT" } ∷ record { instr = instr 0o10 6 1 0; line = 2; bytes = codes "bx6  X1" }
      ∷ record { instr = instr 0o10 7 2 0; line = 3; bytes = codes "BX7 X2" } ∷ [];
}

-- those of packing_gap
abbrev pub packing_gap_lines : Block
packing_gap_lines = record {
  label = [];
  entries =
      record { instr = instr 0o10 7 2 0; line = 1; bytes = codes "BX7  X2   COPY" } ∷ record { instr = instr 0o20 3 0 0; line = 2; bytes = codes "lx3 1" }
      ∷ record { instr = instr 0o36 4 5 6; line = 3; bytes = codes "IX4 X5+X6" } ∷ record { instr = instr 0o50 1 1 0; line = 4; bytes = codes "SA1 A1+100" } ∷ [];
}
