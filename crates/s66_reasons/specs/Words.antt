-- To be believed: words of which sentences are made, and rows.
-- the examples open it, to compute numbers
unfoldable pub use Rattle.std.specs.Fmt.{digits}
use Rattle.std.specs.Prelude.{ℕ, zero, suc, ◌+◌, ◌-◌, ◌*◌, if◌then◌else◌, ◌==◌, List, [], ◌∷◌, ◌++◌, codes, decimal, flat_map, get_or, length}
use Rattle.s66_isa.specs.{Kind, Boolean, Shift, Add, LongAdd, Multiply, Divide, Increment, greatest}
use Rattle.s66_model.specs.{Problem, row_at}
use Rattle.s66_cert.specs.{Document}
use Rattle.s66_why.specs.{on_right}

-- WORDS

-- an instruction: its number, and its text as the document has it
abbrev pub instruction : Document → ℕ → List ℕ
instruction d n = decimal n ++ codes " " ++ get_or d.block (n - 1) []

abbrev pub unit_name : Kind → List ℕ
unit_name Boolean = codes "Boolean"
unit_name Shift = codes "Shift"
unit_name Add = codes "Add"
unit_name LongAdd = codes "Long Add"
unit_name Multiply = codes "Multiply"
unit_name Divide = codes "Divide"
unit_name Increment = codes "Increment"

-- what comes after one of some, by how many come later
abbrev pub separator : ℕ → List ℕ
separator zero = []
separator (suc zero) = codes " and "
separator (suc (suc more)) = codes ", "

-- one after the other
abbrev pub listed : (ℕ → List ℕ) → List ℕ → List ℕ
listed words [] = []
listed words (n ∷ ns) = words n ++ separator (length ns) ++ listed words ns

-- so many, in the plural unless it is one
abbrev pub counted : ℕ → List ℕ → List ℕ
counted n word = decimal n ++ codes " " ++ word ++ (if n == 1 then [] else codes "s")

-- for how long one of these needs its unit at most
abbrev pub longest_use : Problem → List ℕ → ℕ
longest_use b ns = greatest (λ n. (row_at b n).hold + 1) ns

-- for how long each of so many needs it, by what all need and what one does at most
abbrev pub each_words : (count total most : ℕ) → List ℕ
each_words count total most =
    if count == 1 then decimal total
    else (if total == count * most then decimal most ++ codes " each" else codes "up to " ++ decimal most)

-- ROWS: a minor cycle, right in four places, and what can't be sooner

pub record Reason : Type 0 where
  pub number : ℕ
  pub words : List ℕ

abbrev pub row_text : Reason → List ℕ
row_text r = on_right 4 r.number ++ codes "  " ++ r.words ++ codes "\n"

abbrev pub rows_text : List Reason → List ℕ
rows_text rows = flat_map row_text rows
