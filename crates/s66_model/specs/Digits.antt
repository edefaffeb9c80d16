-- To be believed: instructions as code has them: their octal digits are 0 to 7.
use Rattle.std.specs.Prelude.{ℕ, List}
use Rattle.s66_isa.specs.Table.{Instr}
use Rattle.s66_isa.specs.{IsDigit, instr_at}

abbrev pub HasDigits : Instr → Type 0
HasDigits n = IsDigit n.i × IsDigit n.j × IsDigit n.k

-- those of a block, and the one that stands for any other number
abbrev pub HaveDigits : List Instr → Type 0
HaveDigits block = (n : ℕ) → HasDigits (instr_at block n)
