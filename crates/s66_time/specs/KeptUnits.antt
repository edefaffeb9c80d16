-- Used by contracts: how many free times of each kind of unit a mark keeps, and where they are among its words.
use Rattle.std.specs.Prelude.{ℕ, ◌+◌, min, take}
use Rattle.s66_isa.specs.{tally, weigh, all_kinds, kind_number, kind_of, same_kind, Kind}
use Rattle.s66_isa.specs.Table.{Instr}
use Rattle.s66_model.specs.{Problem, copies}
use Rattle.s66_time.specs.declared.limits.TheConstants.{UNITS_AT}

-- one for each copy, but no more than the block has instructions of the kind
abbrev pub kept_of : Problem → Kind → ℕ
kept_of b kind = min (copies b kind) (tally (λ (i : Instr). same_kind (kind_of i.op.code) kind) b.block)

-- where those of a kind begin, if this many of each kind are kept
abbrev pub first_kept : (Kind → ℕ) → Kind → ℕ
first_kept kept kind = UNITS_AT + weigh kept (take (kind_number kind) all_kinds)

-- how many words there are then
abbrev pub word_count : (Kind → ℕ) → ℕ
word_count kept = UNITS_AT + weigh kept all_kinds
