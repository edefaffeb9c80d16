-- To be believed: which instruction of an old block each instruction of a new one is: instructions are the same if their texts are, with all
-- characters of their operands, and equal texts are the same in order.
use Rattle.std.specs.Prelude.{ℕ, ◌≤◌, Bool, ◌&&◌, ◌==◌, not, if◌then◌else◌, List, [], ◌∷◌, ◌++◌, bytes_eq, map}
use Rattle.s66_isa.specs.{first_that, has, numbers}
use Rattle.s66_line.specs.{Block, instrs_of, whole_text_of}

abbrev pub texts_of : Block → List (List ℕ)
texts_of block = map (whole_text_of block) (numbers (instrs_of block))

-- of a number: it isn't among these, and its instruction has this text
abbrev pub is_untaken : Block → (taken : List ℕ) (text : List ℕ) → ℕ → Bool
is_untaken old taken text n = bytes_eq (whole_text_of old n) text && not (has n taken)

-- the first number that is so; 0 if none is
abbrev pub partner : Block → (taken : List ℕ) (text : List ℕ) → ℕ
partner old taken text = first_that (is_untaken old taken text) (numbers (instrs_of old))

-- each text takes its partner, as long as there is one
abbrev pub partners : Block → (taken : List ℕ) → List (List ℕ) → List ℕ
partners old taken [] = taken
partners old taken (text ∷ texts) =
    if partner old taken text == 0 then taken else partners old (taken ++ partner old taken text ∷ []) texts

-- the numbers that the old block's instructions have, in the order of the new one, up to the first that the old one lacks
abbrev pub paired : (old new : Block) → List ℕ
paired old new = partners old [] (texts_of new)

-- the first number of the old block that isn't among these; 0 if all are
abbrev pub first_left : Block → List ℕ → ℕ
first_left old taken = first_that (λ n. not (has n taken)) (numbers (instrs_of old))

-- USED WITHIN THE CRATE ALONE

-- each is from 1 to a count
abbrev pub AreWithin : ℕ → List ℕ → Type 0
AreWithin count [] = Unit {0}
AreWithin count (n ∷ ns) = (1 ≤ n) × (n ≤ count) × AreWithin count ns
