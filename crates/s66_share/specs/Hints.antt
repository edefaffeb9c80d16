-- To be believed: what contracts see of a seat at a hint.
use mathlib.Core.Option.{some}
use lib.ListN.{get_elem?}
use Rattle.std.specs.Prelude.{ℕ, ◌≡◌, ◌≤◌, [], ◌∷◌, min}
use Rattle.atomic_table.specs.Table.{State, Me, Step}
use Rattle.atomic_table.specs.Seated.{TableId}

-- at which hint, and the least word that the seat opened with, read or lowered to
pub record HintSeatOf : Type 0 where
  pub hint : TableId
  pub kept : ℕ

-- USED WITHIN THE CRATE ALONE

-- The rule of a hint's word: it is the least of what the seats keep
pub record IsLowest (s : State Unit ℕ) : Type 0 where
  pub word : ℕ
  pub one_word : s.words ≡ word ∷ []
  pub keeper : ℕ
  pub at : get_elem? s.views keeper ≡ some word
  pub least : (seat kept : ℕ) → get_elem? s.views seat ≡ some kept → word ≤ kept

-- A STEP: the word that a seat found isn't above what the seat kept

-- it keeps that word
abbrev pub Read : Step Unit → Me Unit ℕ → ℕ → Me Unit ℕ → Type 0
Read st me word after = (word ≤ me.0) × (after.0 ≡ word)

-- it keeps the lesser of that word and the one to which it lowered
abbrev pub Lowered : Step Unit → Me Unit ℕ → ℕ → Me Unit ℕ → Type 0
Lowered st me word after = (word ≤ me.0) × (after.0 ≡ min word st.first)
