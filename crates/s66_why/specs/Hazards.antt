-- To be believed: by which registers, or by memory, an instruction depends on an earlier one, in the words of textbooks.
use Rattle.std.specs.Prelude.{ℕ, List, [], ◌∷◌, ◌++◌, codes, filter, flat_map, map}
use Rattle.s66_isa.specs.{Memory, has_reg, memory_of, reads_of, results_of}
use Rattle.s66_isa.specs.declared.instr.Memory.TheVariants as memory
use Rattle.s66_isa.specs.Table.{Instr, Reg}
use Rattle.s66_why.specs.declared.hazard.Access.{Access}
use Rattle.s66_why.specs.declared.hazard.Access.TheVariants.{ReadAfterWrite, WriteAfterRead, WriteAfterWrite}
use Rattle.s66_why.specs.declared.hazard.Hazard.{Hazard}
use Rattle.s66_why.specs.declared.hazard.Place.{Place}
use Rattle.s66_why.specs.declared.hazard.Place.TheVariants.{Register, Memory as InMemory}
use Rattle.s66_why.specs.Why.{register_name}

-- WHICH

-- the registers that are in both lists, in the order of the first
abbrev pub common : List Reg → List Reg → List Reg
common rs ss = filter (λ r. has_reg r ss) rs

-- n, which comes later, reads what m writes, or writes what m reads, or writes what m writes
abbrev pub registers_between : Access → (m n : Instr) → List Reg
registers_between ReadAfterWrite m n = common (results_of m) (reads_of n)
registers_between WriteAfterRead m n = common (reads_of m) (results_of n)
registers_between WriteAfterWrite m n = common (results_of m) (results_of n)

-- a load after a store reads after a write, whatever the addresses are
abbrev pub accesses_of_memory : (earlier later : Memory) → List Access
accesses_of_memory memory.Store memory.Load = ReadAfterWrite ∷ []
accesses_of_memory memory.Load memory.Store = WriteAfterRead ∷ []
accesses_of_memory memory.Store memory.Store = WriteAfterWrite ∷ []
accesses_of_memory earlier later = []

abbrev pub register_hazards : Access → (m n : Instr) → List Hazard
register_hazards access m n = map (λ r. record { place = Register r; access = access }) (registers_between access m n)

abbrev pub memory_hazards : (m n : Instr) → List Hazard
memory_hazards m n = map (λ access. record { place = InMemory; access = access }) (accesses_of_memory (memory_of m) (memory_of n))

-- all because of which n must stay after m
abbrev pub hazards : (m n : Instr) → List Hazard
hazards m n = register_hazards ReadAfterWrite m n ++ register_hazards WriteAfterRead m n ++ register_hazards WriteAfterWrite m n ++ memory_hazards m n

-- IN WORDS

abbrev pub access_name : Access → List ℕ
access_name ReadAfterWrite = codes "RAW"
access_name WriteAfterRead = codes "WAR"
access_name WriteAfterWrite = codes "WAW"

abbrev pub place_name : Place → List ℕ
place_name (Register r) = register_name r
place_name InMemory = codes "MEMORY"

abbrev pub hazard_text : Hazard → List ℕ
hazard_text h = place_name h.place ++ codes " " ++ access_name h.access

-- a comma between two
abbrev pub hazards_text : List Hazard → List ℕ
hazards_text [] = []
hazards_text (h ∷ hs) = hazard_text h ++ flat_map (λ other. codes ", " ++ hazard_text other) hs
