-- To be believed: what reading an input to its end leaves of a reader, and printing a text of a writer.
use Rattle.std.specs.Prelude.{◌≡◌, ◌⊎◌, ◌+◌, ◌<◌, ◌≤◌, ℕ, List, length}
use Rattle.std.specs.Io.KnownBytes.{Consumes, IsAtEnd}
use Rattle.s66_device.specs.{Grows, Reader, WriteFails, Writer, Writes}
use Rattle.s66_program.specs.declared.limits.TheConstants.{FEED_CALLS, FEED_ROOM}

-- each call that didn't fail had room for 65,536 bytes
abbrev pub HasRoom : Reader → Type 0
HasRoom reader = (FEED_ROOM ≤ reader.least_room) × (reader.most_room ≤ FEED_ROOM)

-- this many calls gave bytes and this many gave none, with room for 65,536 bytes each, if those before them had it
abbrev pub Calls : (reads ends : ℕ) → Reader → Reader → Type 0
Calls reads ends old new = Grows reads old.reads new.reads × Grows ends old.ends new.ends × (HasRoom old → HasRoom new)

-- input was read by 16,777,216 calls at most, one of which gave none, and it was all
abbrev pub ReadsAll : Reader → Reader → List ℕ → Type 0
ReadsAll old new input =
    Consumes old.bytes new.bytes input × IsAtEnd new.bytes × (new.failures ≡ old.failures)
    × ((reads : ℕ) × (reads < FEED_CALLS) × Calls reads 1 old new)

-- 16,777,216 calls gave a byte at least, and none gave none
abbrev pub IsEndless : Reader → Reader → Type 0
IsEndless old new =
    ((input : List ℕ) × Consumes old.bytes new.bytes input × (FEED_CALLS ≤ length input))
    × Calls FEED_CALLS 0 old new
    × (new.failures ≡ old.failures)

-- a call failed, the 16,777,216th at the latest, or none gave the end
abbrev pub ReadFails : Reader → Reader → Type 0
ReadFails old new =
    ((new.failures ≡ old.failures + 1) × ((reads : ℕ) × (reads < FEED_CALLS) × Calls reads 0 old new))
    ⊎ IsEndless old new

-- memory ran out after 16,777,216 calls at most, of which none failed and one at most gave none
abbrev pub ReadsSome : Reader → Reader → Type 0
ReadsSome old new =
    (new.failures ≡ old.failures)
    × ((reads : ℕ) × (ends : ℕ) × (reads + ends ≤ FEED_CALLS) × (ends ≤ 1) × Calls reads ends old new)

-- a text was printed: it was written, or writing it failed
abbrev pub Tells : Writer → Writer → List ℕ → Type 0
Tells old new text = Writes old new text ⊎ WriteFails old new text
