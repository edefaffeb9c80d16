-- To be believed: registers by their indices, and a set of them in one word: a register is there if the bit of its index is set.
use Rattle.std.specs.Prelude.{ℕ, zero, suc, ◌+◌, ◌*◌, ◌/◌, ◌%◌, ◌^◌, ◌==◌, Bool, List, ◌++◌, map, get_or, filter, bit_and}
use Rattle.s66_isa.specs.Lists.{rising}
use Rattle.s66_isa.specs.declared.reg.Bank.{Bank}
use Rattle.s66_isa.specs.declared.reg.Bank.TheVariants.{A, B, X}
use Rattle.s66_isa.specs.Table.{Reg, bank_number, a_reg, b_reg, x_reg}
use Rattle.s66_isa.specs.declared.registers.Registers.{Registers}

-- 0 to 23: A0 to A7, then B0 to B7, then X0 to X7
abbrev pub index_of : Reg → ℕ
index_of r = 8 * bank_number r.bank + r.digit

abbrev pub bank_at : ℕ → Bank
bank_at zero = A
bank_at (suc zero) = B
bank_at (suc (suc more)) = X

-- the register of an index
abbrev pub register_at : ℕ → Reg
register_at index = record { bank = bank_at (index / 8); digit = index % 8 }

-- of a word for each register, by its index, that of this one
abbrev pub word_of : List ℕ → Reg → ℕ
word_of words r = get_or words (index_of r) 0

abbrev pub all_registers : List Reg
all_registers = map a_reg (rising 8 0) ++ map b_reg (rising 8 0) ++ map x_reg (rising 8 0)

abbrev pub is_there : ℕ → Reg → Bool
is_there bits r = bit_and (bits / 2 ^ index_of r) 1 == 1

-- by rising index
unfoldable pub registers_in : Registers → List Reg
registers_in set = filter (is_there set.bits) all_registers
