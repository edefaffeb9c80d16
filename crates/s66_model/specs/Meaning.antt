-- To be believed: what an order of a block computes, over terms: no dependence is in it.
--
-- B0 is zero whenever it is read. If an operation has an X and a B result, X is number 0 and B number 1. The result of a reference to
-- memory is the A register, and its term is the address.
use Rattle.std.specs.Prelude.{ℕ, suc, ◌≡◌, if◌then◌else◌, List, [], ◌∷◌, ◌++◌, map}
use Rattle.s66_isa.specs.{Instr, Memory, Reg, operands_of, held_registers, loaded_registers, memory_of, same_reg, is_b0, x_reg, instr_at, numbers}
use Rattle.s66_isa.specs.declared.instr.Memory.TheVariants as memory

mutual
  -- what a register holds: zero, its initial value, a result of an operation, or what a memory held at an address
  pub data Term : Type 0 where
    Zero : Term
    Initial : Reg → Term
    Computed : (code : ℕ) (constant : List ℕ) (operands : Terms) (which : ℕ) → Term
    Loaded : Storage → (address : Term) → Term

  pub data Terms : Type 0 where
    NoTerms : Terms
    Then : Term → Terms → Terms

  -- what memory holds: what it held at first, or a value stored at an address since
  pub data Storage : Type 0 where
    InitialStorage : Storage
    Stored : Storage → (address value : Term) → Storage

-- what all registers and memory hold
pub record Contents : Type 0 where
  pub registers : Reg → Term
  pub storage : Storage

-- B0 is zero
abbrev pub register_value : (Reg → Term) → Reg → Term
register_value registers r = if is_b0 r then Zero else registers r

abbrev pub values_of : (Reg → Term) → List Reg → Terms
values_of registers [] = NoTerms
values_of registers (r ∷ rs) = Then (register_value registers r) (values_of registers rs)

-- an instruction with the text of its constant
pub record Operation : Type 0 where
  pub instr : Instr
  pub constant : List ℕ

-- the results that the unit makes of these operands; the first of them has the number `which`
abbrev pub results_computed : Operation → Terms → ℕ → List Reg → List (Reg × Term)
results_computed o operands which [] = []
results_computed o operands which (r ∷ rs) = (r, Computed o.instr.op.code o.constant operands which) ∷ results_computed o operands (suc which) rs

-- the address of a load or a store: it is the result in its A register
abbrev pub address_of : Operation → Terms → Term
address_of o operands = Computed o.instr.op.code o.constant operands 0

-- what a load fetches from an address
abbrev pub words_loaded : Memory → Instr → Storage → Term → List (Reg × Term)
words_loaded u n storage address = map (λ r. (r, Loaded storage address)) (loaded_registers u n)

-- all that an instruction writes
abbrev pub writes : Operation → Terms → Storage → List (Reg × Term)
writes o operands storage =
    results_computed o operands 0 (held_registers o.instr) ++ words_loaded (memory_of o.instr) o.instr storage (address_of o operands)

-- the registers after these writes
abbrev pub after_writes : List (Reg × Term) → (Reg → Term) → Reg → Term
after_writes [] registers r = registers r
after_writes (w ∷ ws) registers r = if same_reg w.0 r then w.1 else after_writes ws registers r

abbrev pub storage_after : Memory → Storage → (address value : Term) → Storage
storage_after memory.Store storage address value = Stored storage address value
storage_after memory.Load storage address value = storage
storage_after memory.None storage address value = storage

-- after one instruction; a store stores what its X register held before
abbrev pub after : Contents → Operation → Contents
after c o =
    let operands = values_of c.registers (operands_of o.instr) in
    record {
      registers = after_writes (writes o operands c.storage) c.registers;
      storage = storage_after (memory_of o.instr) c.storage (address_of o operands) (register_value c.registers (x_reg o.instr.i));
    }

-- before the first instruction
abbrev pub at_start : Contents
at_start = record { registers = register_value Initial; storage = InitialStorage }

-- the texts of the constants, by number
abbrev pub operation_at : List Instr → (ℕ → List ℕ) → ℕ → Operation
operation_at block constants n = record { instr = instr_at block n; constant = constants n }

-- after the instructions of these numbers
abbrev pub run : List Instr → (ℕ → List ℕ) → Contents → List ℕ → Contents
run block constants c [] = c
run block constants c (n ∷ ns) = run block constants (after c (operation_at block constants n)) ns

-- what an order leaves in all registers and in memory; the texts of the constants come by number, as `constants_in` gives them
abbrev pub meaning : List Instr → (ℕ → List ℕ) → List ℕ → Contents
meaning block constants order = run block constants at_start order

-- the order leaves what the source order leaves, whatever the texts of the constants
abbrev pub KeepsMeaning : List Instr → List ℕ → Type 0
KeepsMeaning block order = (constants : ℕ → List ℕ) → meaning block constants order ≡ meaning block constants (numbers block)
