-- Used by contracts within the crate alone: where the words of a clock are.
use Rattle.std.specs.Prelude.{ℕ, ◌*◌, List, [], ◌∷◌, set, take, drop}
use Rattle.s66_isa.specs.{kind_number, copies_of, Kind, Profile}
use Rattle.s66_time.specs.declared.limits.TheConstants.{COPIES_LIMIT}
use Rattle.s66_time.specs.declared.step.Saved.{Saved}

-- what was saved is put back, the last first
abbrev pub put_back : List Saved → List ℕ → List ℕ
put_back [] words = words
put_back (w ∷ ws) words = set (put_back ws words) w.place w.word

abbrev pub first_unit : Kind → ℕ
first_unit kind = kind_number kind * COPIES_LIMIT

-- the words of the units of a kind
abbrev pub units_of : Profile → Kind → List ℕ → List ℕ
units_of p kind words = take (copies_of p kind) (drop (first_unit kind) words)
