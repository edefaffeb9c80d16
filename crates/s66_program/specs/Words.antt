-- To be believed: how many words of 60 bits an order of a block takes, from the first parcel of the block on.
use Rattle.std.specs.Prelude.{ℕ, ◌+◌, ◌/◌, List, length, map}
use Rattle.s66_isa.specs.{Instr, weigh}
use Rattle.s66_model.specs.{fillers, len_at}

-- the parcel behind an order that begins with a parcel: the parcels of its instructions, and the NOs that fill up words
abbrev pub parcel_after : List Instr → ℕ → List ℕ → ℕ
parcel_after block q order = q + (weigh (len_at block) order + length (fillers q (map (len_at block) order)))

-- how many words this many parcels take, of which the last may be begun only
abbrev pub words_for : (parcels : ℕ) → ℕ
words_for parcels = (parcels + 3) / 4

abbrev pub words_of : List Instr → List ℕ → ℕ
words_of block order = words_for (parcel_after block 0 order)
