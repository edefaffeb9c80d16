-- Used by contracts within the crate alone: the rule of the parts of a search's marks, and what is learnt from each of its steps.
-- A part's word is 0 while it is at home, and else 1.
use mathlib.Core.Option.{some}
use lib.ListN.{get_elem?}
use Rattle.std.specs.Prelude.{ℕ, ◌≡◌, ◌≢◌, ◌<◌, ◌∷◌, length, slice_index, []}
use Rattle.atomic_table.specs.Table.{State, Me, Step, rest}
use Rattle.atomic_table.specs.Seated.{TableId}
use Rattle.atomic_table.specs.declared.shared.Seat.{Seat}
use Rattle.s66_node.specs.{MarkTable}

-- there is a word for each part; each part whose word is 0 is at home with marks of the key's problem, and each seat knows the key
pub record ArePartsOf (key : MarkTable) (s : State MarkTable MarkTable) : Type 0 where
  pub count : length s.words ≡ length s.homes
  pub home : (i : ℕ) → i < length s.homes → slice_index s.words i ≡ 0 → (x : MarkTable) × (get_elem? s.homes i ≡ some (some x)) × (x.problem ≡ key.problem)
  pub views : (seat : ℕ) (v : MarkTable) → get_elem? s.views seat ≡ some v → v ≡ key

-- A STEP

-- a new seat knows the key
abbrev pub Entered : Step MarkTable → Me MarkTable MarkTable → ℕ → Me MarkTable MarkTable → Type 0
Entered st me word after = after ≡ me

-- the part was at home, and the seat has it; or another has it, and nothing changed
abbrev pub Took : Step MarkTable → Me MarkTable MarkTable → ℕ → Me MarkTable MarkTable → Type 0
Took st me word after =
    (word ≡ 0 → (x : MarkTable) × (x.problem ≡ me.0.problem) × (after ≡ (me.0, (st.word, x) ∷ me.1)))
    × (word ≢ 0 → after ≡ me)

-- the part is at home again
abbrev pub Gave : Step MarkTable → Me MarkTable MarkTable → ℕ → Me MarkTable MarkTable → Type 0
Gave st me word after = after ≡ (me.0, rest me.1)

-- A TOKEN

module _ (table : TableId) (key : MarkTable) where
  -- it has no part
  abbrev pub IsAt : Seat MarkTable MarkTable → Type 0
  IsAt token = (token.table_id ≡ table) × (token.me ≡ (key, []))

  -- it has this part alone
  abbrev pub HasPart : ℕ → Seat MarkTable MarkTable → Type 0
  HasPart part token = (token.table_id ≡ table) × ((x : MarkTable) × (x.problem ≡ key.problem) × (token.me ≡ (key, (part, x) ∷ [])))
