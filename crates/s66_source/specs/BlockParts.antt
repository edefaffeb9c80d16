-- To be believed: how the instruction lines of a source are cut into blocks, said without the way in which it is done; the runs are those of the lines.
use Rattle.std.specs.Prelude.{◌≡◌, ◌≤◌, List, [], ◌∷◌, ◌++◌, length}
use Rattle.s66_isa.specs.{Among, BLOCK_LIMIT}
use Rattle.s66_source.specs.Source.{Line, instructions}

abbrev pub all_of : List (List Line) → List Line
all_of [] = []
all_of (part ∷ parts) = part ++ all_of parts

-- a part has BLOCK_LIMIT lines if the next part goes on with its run
abbrev pub AreFull : List (List Line) → Type 0
AreFull [] = Unit {0}
AreFull (part ∷ []) = Unit {0}
AreFull (part ∷ (next ∷ parts)) = ((l m : Line) → Among l part → Among m next → l.run ≡ m.run → length part ≡ BLOCK_LIMIT) × AreFull (next ∷ parts)

-- the parts are the instruction lines, cut into runs and these into parts of BLOCK_LIMIT lines and what is left
pub record AreParts (lines : List Line) (parts : List (List Line)) : Type 0 where
  -- each instruction line is in exactly one part, and they are in order
  pub whole : all_of parts ≡ instructions lines
  pub sizes : (part : List Line) → Among part parts → (1 ≤ length part) × (length part ≤ BLOCK_LIMIT)
  -- the lines of a part are of one run
  pub runs : (part : List Line) → Among part parts → (l m : Line) → Among l part → Among m part → l.run ≡ m.run
  pub full : AreFull parts
