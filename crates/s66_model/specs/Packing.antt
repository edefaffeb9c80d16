-- To be believed: how instructions are packed into words of four parcels of 15 bits (Reference Manual, instruction formats).
use Rattle.std.specs.Prelude.{ℕ, ◌+◌, ◌%◌, ◌==◌, ◌&&◌, if◌then◌else◌, List, [], ◌∷◌, ◌++◌}
use Rattle.s66_isa.specs.{Instr, parcels_of, instr_at}

-- where an instruction of len parcels begins when the parcels from q on are empty: one of two parcels doesn't begin in the last parcel of a word
abbrev pub fits_at : ℕ → ℕ → ℕ
fits_at q len = if len == 2 && q % 4 == 3 then q + 1 else q

-- the parcel of each instruction by the parcels that each takes, the first of them from q on
abbrev pub parcels_from : ℕ → List ℕ → List ℕ
parcels_from q [] = []
parcels_from q (len ∷ lens) = fits_at q len ∷ parcels_from (fits_at q len + len) lens

-- the parcels that a NO fills: those that are passed over
abbrev pub fillers : ℕ → List ℕ → List ℕ
fillers q [] = []
fillers q (len ∷ lens) = (if fits_at q len == q then [] else q ∷ []) ++ fillers (fits_at q len + len) lens

-- how many parcels the instruction of a number takes
abbrev pub len_at : List Instr → ℕ → ℕ
len_at block n = parcels_of (instr_at block n).op.code
