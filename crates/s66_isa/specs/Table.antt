-- To be believed: the table of instructions and the standard profile: CDC 6400/6500/6600 Computer Systems Reference Manual, publication 60100000, registers, instruction forms and functional units. The execution times are this project's.
--
-- Octal codes (i, j, k are the digits):
--
-- | Code | Unit | Reads | Writes |
-- |---|---|---|---|
-- | 10, 14 | Boolean | Xj; Xk | Xi |
-- | 11 to 13, 15 to 17 | Boolean | Xj Xk | Xi |
-- | 20, 21 | Shift | Xi | Xi |
-- | 22, 23 | Shift | Bj Xk | Xi |
-- | 24 to 26 | Shift | Xk | Xi Bj |
-- | 27 | Shift | Bj Xk | Xi |
-- | 30 to 35 | Add | Xj Xk | Xi |
-- | 36, 37 | LongAdd | Xj Xk | Xi |
-- | 40 to 42 | Multiply | Xj Xk | Xi |
-- | 43 | Shift | nothing | Xi |
-- | 44, 45 | Divide | Xj Xk | Xi |
-- | 47 | Divide | Xk | Xi |
-- | 50 to 57 | Increment | by form | Ai, and Xi of a load |
-- | 60 to 67 | Increment | by form | Bi |
-- | 70 to 77 | Increment | by form | Xi |
--
-- `SCOREBOARD.md` has the times and copies of the standard profile.
use Rattle.std.specs.Prelude.{◌&&◌, ◌||◌, ◌==◌, if◌then◌else◌, ℕ, zero, suc, Bool, true, false, List, [], ◌∷◌, ◌++◌, ◌%◌, ◌≤◌, ◌≢◌, nat_le, nat_lt, map, get_or, length}
use Rattle.std.proofs.Common.{lit≤}
use Rattle.s66_isa.specs.Lists.{greatest, rising}
use Rattle.s66_isa.specs.declared.reg.Bank.{Bank}
use Rattle.s66_isa.specs.declared.reg.Bank.TheVariants.{A, B, X}
use Rattle.s66_isa.specs.declared.instr.Kind.{Kind}
use Rattle.s66_isa.specs.declared.instr.Kind.TheVariants.{Boolean, Shift, Add, LongAdd, Multiply, Divide, Increment}
use Rattle.s66_isa.specs.declared.instr.Memory.{Memory}
use Rattle.s66_isa.specs.declared.instr.Memory.TheVariants as memory
use Rattle.s66_isa.specs.declared.instr.Operands.{Operands}
use Rattle.s66_isa.specs.declared.instr.Operands.TheVariants as operands
use Rattle.s66_isa.specs.declared.profile.Profile.{Profile}

-- REGISTERS AND INSTRUCTIONS

-- its bank, and its digit, 0 to 7
pub record Reg : Type 0 where
  pub bank : Bank
  pub digit : ℕ

-- an operation, by its octal code
pub record Op : Type 0 where
  pub code : ℕ

-- its operation, and its octal digits, each 0 to 7; a digit that the form lacks is 0 in what is read from a source
pub record Instr : Type 0 where
  pub op : Op
  pub i : ℕ
  pub j : ℕ
  pub k : ℕ

-- by its octal code and its digits
abbrev pub instr : ℕ → ℕ → ℕ → ℕ → Instr
instr code i j k = record { op = record { code = code }; i = i; j = j; k = k }

abbrev pub IsDigit : ℕ → Type 0
IsDigit digit = digit ≤ 7

-- the 55 codes of the table: octal 46 is no instruction
abbrev pub IsCode : ℕ → Type 0
IsCode code = (0o10 ≤ code) × (code ≤ 0o77) × (code ≢ 0o46)

-- REGISTERS

abbrev pub a_reg : ℕ → Reg
a_reg digit = record { bank = A; digit = digit }

abbrev pub b_reg : ℕ → Reg
b_reg digit = record { bank = B; digit = digit }

abbrev pub x_reg : ℕ → Reg
x_reg digit = record { bank = X; digit = digit }

abbrev pub bank_number : Bank → ℕ
bank_number A = 0
bank_number B = 1
bank_number X = 2

abbrev pub same_reg : Reg → Reg → Bool
same_reg r s = bank_number r.bank == bank_number s.bank && r.digit == s.digit

abbrev pub is_b0 : Reg → Bool
is_b0 r = same_reg r (b_reg 0)

abbrev pub has_reg : Reg → List Reg → Bool
has_reg r [] = false
has_reg r (s ∷ ss) = same_reg r s || has_reg r ss

-- B0 is never an operand, a result or a reservation: it is left out
abbrev pub unless_b0 : Reg → List Reg
unless_b0 r = if is_b0 r then [] else r ∷ []

-- a register joins a set of registers: B0 never does, and none is there twice
abbrev pub insert : List Reg → Reg → List Reg
insert set r = if is_b0 r || has_reg r set then set else set ++ r ∷ []

abbrev pub insert_all : List Reg → List Reg → List Reg
insert_all set [] = set
insert_all set (r ∷ rs) = insert_all (insert set r) rs

-- KINDS, PARCELS, MEMORY

abbrev pub kind_of : ℕ → Kind
kind_of code =
    if nat_lt code 0o20 then Boolean
    else (if nat_lt code 0o30 then Shift
    else (if nat_lt code 0o36 then Add
    else (if nat_lt code 0o40 then LongAdd
    else (if nat_lt code 0o43 then Multiply
    else (if code == 0o43 then Shift
    else (if nat_lt code 0o50 then Divide else Increment))))))

abbrev pub kind_number : Kind → ℕ
kind_number Boolean = 0
kind_number Shift = 1
kind_number Add = 2
kind_number LongAdd = 3
kind_number Multiply = 4
kind_number Divide = 5
kind_number Increment = 6

abbrev pub same_kind : Kind → Kind → Bool
same_kind a b = kind_number a == kind_number b

-- in the order of the list of copies
abbrev pub all_kinds : List Kind
all_kinds = Boolean ∷ Shift ∷ Add ∷ LongAdd ∷ Multiply ∷ Divide ∷ Increment ∷ []

-- 2 if there is a constant of 18 bits: the set instructions of last digit 0 to 2
abbrev pub parcels_of : ℕ → ℕ
parcels_of code = if nat_le 0o50 code && nat_lt (code % 8) 3 then 2 else 1

-- SA1 to SA5 load, SA6 and SA7 store
abbrev pub memory_of : Instr → Memory
memory_of n =
    if nat_le 0o50 n.op.code && nat_lt n.op.code 0o60 && nat_lt 0 n.i
    then (if nat_lt n.i 6 then memory.Load else memory.Store)
    else memory.None

abbrev pub touches : Memory → Bool
touches memory.None = false
touches memory.Load = true
touches memory.Store = true

abbrev pub stores : Memory → Bool
stores memory.None = false
stores memory.Load = false
stores memory.Store = true

-- both reference memory, and one is a store
abbrev pub memory_pair : Memory → Memory → Bool
memory_pair m n = touches m && touches n && (stores m || stores n)

-- WHAT IS READ

-- which registers the operand of a code names
abbrev pub shape_of : ℕ → Operands
shape_of code =
    if code == 0o10 then operands.Xj
    else (if code == 0o14 || code == 0o47 then operands.Xk
    else (if nat_lt code 0o20 then operands.XjXk
    else (if nat_lt code 0o22 then operands.Xi
    else (if nat_lt code 0o24 || code == 0o27 then operands.BjXk
    else (if nat_lt code 0o27 then operands.Xk
    else (if code == 0o43 then operands.Constant
    else (if nat_lt code 0o50 then operands.XjXk
    else (set_form (code % 8)))))))))
  where
    set_form : ℕ → Operands
    set_form last =
        if last == 0 then operands.Aj
        else (if last == 1 then operands.Bj
        else (if last == 2 then operands.Xj
        else (if last == 3 then operands.XjBk
        else (if nat_lt last 6 then operands.AjBk else operands.BjBk))))

-- the registers of the operand, B0 among them
abbrev pub operand_registers : Operands → Instr → List Reg
operand_registers operands.Constant n = []
operand_registers operands.Xi n = x_reg n.i ∷ []
operand_registers operands.Xj n = x_reg n.j ∷ []
operand_registers operands.Xk n = x_reg n.k ∷ []
operand_registers operands.Aj n = a_reg n.j ∷ []
operand_registers operands.Bj n = b_reg n.j ∷ []
operand_registers operands.XjXk n = x_reg n.j ∷ x_reg n.k ∷ []
operand_registers operands.BjXk n = b_reg n.j ∷ x_reg n.k ∷ []
operand_registers operands.XjBk n = x_reg n.j ∷ b_reg n.k ∷ []
operand_registers operands.AjBk n = a_reg n.j ∷ b_reg n.k ∷ []
operand_registers operands.BjBk n = b_reg n.j ∷ b_reg n.k ∷ []

abbrev pub operands_of : Instr → List Reg
operands_of n = operand_registers (shape_of n.op.code) n

-- what a store stores
abbrev pub stored_registers : Memory → Instr → List Reg
stored_registers memory.Store n = x_reg n.i ∷ []
stored_registers memory.Load n = []
stored_registers memory.None n = []

-- the registers that are read, each once
abbrev pub reads_of : Instr → List Reg
reads_of n = insert_all [] (operands_of n ++ stored_registers (memory_of n) n)

-- WHAT IS WRITTEN

-- the results that the unit holds
abbrev pub held_registers : Instr → List Reg
held_registers n =
    if nat_lt n.op.code 0o50 then x_reg n.i ∷ (if nat_le 0o24 n.op.code && nat_lt n.op.code 0o27 then unless_b0 (b_reg n.j) else [])
    else (if nat_lt n.op.code 0o60 then a_reg n.i ∷ []
    else (if nat_lt n.op.code 0o70 then unless_b0 (b_reg n.i) else x_reg n.i ∷ []))

-- what a load fetches, which no unit holds
abbrev pub loaded_registers : Memory → Instr → List Reg
loaded_registers memory.Load n = x_reg n.i ∷ []
loaded_registers memory.Store n = []
loaded_registers memory.None n = []

abbrev pub results_of : Instr → List Reg
results_of n = held_registers n ++ loaded_registers (memory_of n) n

-- PROFILE

-- how long the unit works
abbrev pub hold_of : Profile → ℕ → ℕ
hold_of p code =
    if nat_lt code 0o20 then p.boolean
    else (if code == 0o24 || code == 0o25 then p.normalise
    else (if nat_lt code 0o30 then p.shift
    else (if nat_lt code 0o36 then p.add
    else (if nat_lt code 0o40 then p.longadd
    else (if nat_lt code 0o43 then p.multiply
    else (if code == 0o43 then p.shift
    else (if code == 0o47 then p.population
    else (if nat_lt code 0o50 then p.divide else p.increment))))))))

-- the registers that are written, each with its latency
abbrev pub writes_of : Profile → Instr → List (Reg × ℕ)
writes_of p n = map (λ r. (r, hold_of p n.op.code)) (held_registers n) ++ map (λ r. (r, p.load)) (loaded_registers (memory_of n) n)

abbrev pub copies_of : Profile → Kind → ℕ
copies_of p Boolean = p.units_boolean
copies_of p Shift = p.units_shift
copies_of p Add = p.units_add
copies_of p LongAdd = p.units_longadd
copies_of p Multiply = p.units_multiply
copies_of p Divide = p.units_divide
copies_of p Increment = p.units_increment

-- its seventeen numbers: ten times, then the copies of the seven kinds
abbrev pub entries : Profile → List ℕ
entries p =
    p.boolean ∷ p.shift ∷ p.normalise ∷ p.add ∷ p.longadd ∷ p.multiply ∷ p.divide ∷ p.population ∷ p.increment ∷ p.load
    ∷ p.units_boolean ∷ p.units_shift ∷ p.units_add ∷ p.units_longadd ∷ p.units_multiply ∷ p.units_divide ∷ p.units_increment ∷ []

abbrev pub standard : Profile
standard = record {
  boolean = 3;
  shift = 3;
  normalise = 4;
  add = 4;
  longadd = 3;
  multiply = 10;
  divide = 29;
  population = 8;
  increment = 3;
  load = 8;
  units_boolean = 1;
  units_shift = 1;
  units_add = 1;
  units_longadd = 1;
  units_multiply = 2;
  units_divide = 1;
  units_increment = 2;
  least = (lit≤ tt, lit≤ tt, lit≤ tt, lit≤ tt, lit≤ tt, lit≤ tt, lit≤ tt, lit≤ tt, lit≤ tt, lit≤ tt);
  greatest = (lit≤ tt, lit≤ tt, lit≤ tt, lit≤ tt, lit≤ tt, lit≤ tt, lit≤ tt, lit≤ tt, lit≤ tt, lit≤ tt);
  units = (lit≤ tt, lit≤ tt, lit≤ tt, lit≤ tt, lit≤ tt, lit≤ tt, lit≤ tt);
  few = (lit≤ tt, lit≤ tt, lit≤ tt, lit≤ tt, lit≤ tt, lit≤ tt, lit≤ tt);
}

-- THE ROW OF AN INSTRUCTION: all that its timing knows of it

-- a result: its register, its latency, and whether the unit holds it
pub record Write : Type 0 where
  pub reg : Reg
  pub latency : ℕ
  pub held : Bool

abbrev pub register_latency : Write → Reg × ℕ
register_latency w = (w.reg, w.latency)

pub record Row : Type 0 where
  pub kind : Kind
  pub parcels : ℕ
  pub reads : List Reg
  pub writes : List Write
  pub hold : ℕ
  pub memory : Memory

-- all of this for one instruction, as timing sees it
unfoldable pub row : Profile → Instr → Row
row p n =
    record {
      kind = kind_of n.op.code;
      parcels = parcels_of n.op.code;
      reads = reads_of n;
      writes =
          map (λ r. record { reg = r; latency = hold_of p n.op.code; held = true }) (held_registers n)
          ++ map (λ r. record { reg = r; latency = p.load; held = false }) (loaded_registers (memory_of n) n);
      hold = hold_of p n.op.code;
      memory = memory_of n;
    }

-- the greatest latency of its results, or the hold if nothing is written
abbrev pub latency_of : Row → ℕ
latency_of r = longest r.writes
  where
    longest : List Write → ℕ
    longest [] = r.hold
    longest (w ∷ ws) = greatest (λ (v : Write). v.latency) (w ∷ ws)

-- AN INSTRUCTION BY ITS NUMBER, from 1; any other number has SB0 B0+B0, which reads and writes nothing

abbrev pub idle_instr : Instr
idle_instr = instr 0o66 0 0 0

abbrev pub instr_at : List Instr → ℕ → Instr
instr_at block zero = idle_instr
instr_at block (suc n) = get_or block n idle_instr

-- the numbers of a block, rising: the source order
abbrev pub numbers : List Instr → List ℕ
numbers block = rising (length block) 1
