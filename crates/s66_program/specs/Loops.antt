-- To be believed: the loops of a source that branches behind its blocks close, and how many words each takes.
use Rattle.std.specs.Prelude.{ℕ, suc, Bool, true, false, not, ◌+◌, ◌-◌, ◌*◌, ◌||◌, ◌==◌, if◌then◌else◌, List, [], ◌∷◌, Option, None, Some, drop, get_or, nat_lt, reverse, slice_get, take}
use Rattle.s66_isa.specs.{numbers}
use Rattle.s66_model.specs.{fits_at}
use Rattle.s66_line.specs.{Block, instrs_of}
use Rattle.s66_source.specs.{FramePart, frame_of, Reading, Placed}
use Rattle.s66_program.specs.Statement.{begins_word, is_end_step, is_same, name_of_part, step_of, target_of, is_passed_by_loops}
use Rattle.s66_program.specs.Words.{parcel_after, words_for}
use Rattle.s66_program.specs.declared.limits.TheConstants.{LOOP_LIMIT}
use Rattle.s66_program.specs.declared.loops.Loop.{Loop}
use Rattle.s66_program.specs.declared.loops.Start.{Start}
use Rattle.s66_program.specs.declared.statement.Step.{Step}
use Rattle.s66_program.specs.declared.statement.Step.TheVariants.{Nothing, Word, Branch, Jump, End}

-- some blocks of a source, how many come before them, and the order that was found for each
pub record Orders : Type 0 where
  pub before : ℕ
  pub blocks : List Block
  pub found : List Placed

-- HOW MANY WORDS

-- the first parcel of the next word, or this one if it is that
abbrev pub word_from : ℕ → ℕ
word_from q = 4 * words_for q

-- where a block or a line begins that would begin with this parcel
abbrev pub begin_at : ℕ → FramePart → ℕ
begin_at q p = if begins_word p then word_from q else q

-- the parcel behind a line that begins with this one; a branch takes two
abbrev pub step_after : Step → ℕ → ℕ
step_after Nothing q = q
step_after Word q = word_from q
step_after Branch q = fits_at q 2 + 2
step_after Jump q = word_from (fits_at q 2 + 2)
step_after End q = q

-- behind a block, as it is written or in the order that was found for it
abbrev pub block_after : (as_found : Bool) → ℕ → Option Block → Option Placed → ℕ
block_after as_found q (Some block) (Some p) = parcel_after (instrs_of block) q (if as_found then p.order else numbers (instrs_of block))
block_after as_found q block p = q

-- behind a part that would begin with this parcel; of blocks the one at this place comes next
abbrev pub part_after : Orders → (as_found : Bool) → (place q : ℕ) → FramePart → ℕ
part_after o as_found place q p =
    if p.is_block then block_after as_found (begin_at q p) (slice_get o.blocks place) (slice_get o.found place) else step_after (step_of p.bytes) (begin_at q p)

abbrev pub counted : ℕ → FramePart → ℕ
counted blocks p = if p.is_block then suc blocks else blocks

-- behind all these parts
abbrev pub parcels_through : Orders → (as_found : Bool) → (place q : ℕ) → List FramePart → ℕ
parcels_through o as_found place q [] = q
parcels_through o as_found place q (p ∷ parts) = parcels_through o as_found (counted place p) (part_after o as_found place q p) parts

abbrev pub loop_through : Orders → (place : ℕ) → List FramePart → Loop
loop_through o place parts =
    record { source_words = words_for (parcels_through o false place 0 parts); words = words_for (parcels_through o true place 0 parts) }

-- WHERE A LOOP BEGINS

-- of the parts before a branch, the nearest first, those from the nearest with this name on, if a loop may go through all of them, that
-- one too: how many they are, after so many, and how many of them are blocks
abbrev pub loop_start_before : (name : List ℕ) (parts blocks : ℕ) → List FramePart → Option Start
loop_start_before name parts blocks [] = None
loop_start_before name parts blocks (p ∷ earlier) =
    if not (is_passed_by_loops p) then None
    else (
    if is_same (name_of_part p) name then Some (record { parts = suc parts; blocks = counted blocks p })
    else loop_start_before name (suc parts) (counted blocks p) earlier
    )

-- the parts from a place to before another one
abbrev pub parts_between : (from to : ℕ) → List FramePart → List FramePart
parts_between from to parts = take (to - from) (drop from parts)

-- where the loop begins that the line at a place closes, if it goes back to a name
abbrev pub loop_start_of : List FramePart → (at : ℕ) → (target : List ℕ) → Option Start
loop_start_of parts at [] = None
loop_start_of parts at (b ∷ target) = loop_start_before (b ∷ target) 0 0 (reverse (parts_between (at - LOOP_LIMIT) at parts))

-- WHICH LOOPS

-- the loop that begins there, if it has a block, and none but those whose orders are known; so many come before the branch
abbrev pub loop_from : Orders → List FramePart → (at blocks : ℕ) → Option Start → Option Loop
loop_from o parts at blocks None = None
loop_from o parts at blocks (Some s) =
    if s.blocks == 0 || nat_lt blocks (o.before + s.blocks) then None
    else Some (loop_through o (blocks - (o.before + s.blocks)) (parts_between (at - s.parts) (at + 1) parts))

abbrev pub loop_closed : Orders → List FramePart → (at blocks : ℕ) → FramePart → Option Loop
loop_closed o parts at blocks p = loop_from o parts at blocks (loop_start_of parts at (target_of p))

abbrev pub loop_or_else : Option Loop → Option Loop → Option Loop
loop_or_else None other = other
loop_or_else (Some l) other = Some l

-- the last loop that a line behind a block closes: of these from a place on, those before the next block and before a line that ends it
abbrev pub loop_behind : Orders → List FramePart → (blocks at : ℕ) → Option Loop → List FramePart → Option Loop
loop_behind o parts blocks at closed [] = closed
loop_behind o parts blocks at closed (p ∷ rest) =
    if p.is_block || is_end_step (step_of p.bytes) then closed
    else loop_behind o parts blocks (suc at) (loop_or_else (loop_closed o parts at blocks p) closed) rest

-- of each block among these parts from a place on, before which so many blocks come
abbrev pub loops_from : Orders → List FramePart → (blocks at : ℕ) → List FramePart → List (Option Loop)
loops_from o parts blocks at [] = []
loops_from o parts blocks at (p ∷ rest) =
    if p.is_block then loop_behind o parts (suc blocks) (suc at) None rest ∷ loops_from o parts (suc blocks) (suc at) rest
    else loops_from o parts blocks (suc at) rest

-- of each block of a source
abbrev pub loops_of : Orders → Reading → List (Option Loop)
loops_of o source = loops_from o (frame_of source) 0 0 (frame_of source)

-- of the n-th block, from 1
abbrev pub loop_at : List (Option Loop) → ℕ → Option Loop
loop_at loops n = get_or loops (n - 1) None
