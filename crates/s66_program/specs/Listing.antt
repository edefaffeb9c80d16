-- To be believed: what is written of a source's blocks as they were written, one after the other, and how it ends.
use Rattle.std.specs.Prelude.{ℕ, ◌+◌, ◌≡◌, List, [], ◌∷◌, ◌++◌, Option, Ok}
use Rattle.s66_line.specs.{Block}
use Rattle.s66_source.specs.{Reading, source_of}
use Rattle.s66_answer.specs.{before, shown, Status, Done}

-- by the lines of the n-th block, from 1: those of these blocks, before which n blocks come
abbrev pub lines_of_blocks : (ℕ → Block → List ℕ) → ℕ → List Block → List ℕ
lines_of_blocks lines n [] = []
lines_of_blocks lines n (block ∷ blocks) = lines (n + 1) block ++ lines_of_blocks lines (n + 1) blocks

-- the text is that of the source's blocks that are shown, and it is done
abbrev pub IsListing : (ℕ → Block → List ℕ) → (only : Option ℕ) (source : Reading) (text : List ℕ) → Status → Type 0
IsListing lines only source text status =
    (blocks : List Block) × (source_of source ≡ Ok blocks) × (text ≡ lines_of_blocks lines (before only) (shown only blocks)) × (status ≡ Done)
