-- To be believed: what is seen of a reader and of a writer, and what calls of theirs leave.
use Rattle.std.specs.Prelude.{◌≡◌, ◌+◌, ◌^◌, ◌<◌, ℕ, min, max, List, take, Option, Result, MatchResult}
use Rattle.std.specs.Io.KnownBytes.{Appends, Keeps}

-- READERS

-- a reader: its bytes that are left, if they are known; how many of its calls gave bytes, gave none, and failed; and the least
-- and the most room of those that didn't fail
pub record Reader : Type 0 where
  pub bytes : Option (List ℕ)
  pub reads : ℕ
  pub ends : ℕ
  pub failures : ℕ
  pub least_room : ℕ
  pub most_room : ℕ

-- a count is n more, as long as a u64 holds it
abbrev pub Grows : (n old new : ℕ) → Type 0
Grows n old new = old + n < 2 ^ 64 → new ≡ old + n

-- a call with this room gave n bytes, or none
abbrev pub Feeds : (room n : ℕ) → Reader → Reader → Type 0
Feeds room n old new =
    (0 < n → Grows 1 old.reads new.reads × (new.ends ≡ old.ends))
    × (n ≡ 0 → (new.reads ≡ old.reads) × Grows 1 old.ends new.ends)
    × (new.least_room ≡ min old.least_room room) × (new.most_room ≡ max old.most_room room)
    × (new.failures ≡ old.failures)

-- a call failed
abbrev pub FeedFails : Reader → Reader → Type 0
FeedFails old new =
    (new.failures ≡ old.failures + 1)
    × (new.reads ≡ old.reads) × (new.ends ≡ old.ends) × (new.least_room ≡ old.least_room) × (new.most_room ≡ old.most_room)

-- WRITERS

-- a writer: its bytes that were taken, if they are known, and how many of its calls have failed
pub record Writer : Type 0 where
  pub bytes : Option (List ℕ)
  pub failures : ℕ

-- text was written
abbrev pub Writes : Writer → Writer → List ℕ → Type 0
Writes old new text = Appends old.bytes new.bytes text × (new.failures ≡ old.failures)

-- a call failed after a beginning of text was written
abbrev pub WriteFails : Writer → Writer → List ℕ → Type 0
WriteFails old new text = ((k : ℕ) × Appends old.bytes new.bytes (take k text)) × (new.failures ≡ old.failures + 1)

-- text was written, or that failed
abbrev pub Written : {A E : Type 0} → Writer → Writer → List ℕ → Result A E → Type 0
Written old new text result = MatchResult result (λ _. Writes old new text) (λ _. WriteFails old new text)

abbrev pub IsUntouched : Writer → Writer → Type 0
IsUntouched old new = Keeps old.bytes new.bytes × (new.failures ≡ old.failures)
