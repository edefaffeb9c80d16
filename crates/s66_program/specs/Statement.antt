-- To be believed: what the lines beside the blocks of a source are, for who goes through its loops. Lines have no blanks at their end.
use Rattle.std.specs.Prelude.{ℕ, Bool, true, false, not, ◌&&◌, ◌||◌, ◌==◌, if◌then◌else◌, List, [], ◌∷◌, codes, bytes_eq, length, nat_lt}
use Rattle.std.specs.Str.{str_eq_ignore_ascii_case}
use Rattle.s66_isa.specs.{some_of}
use Rattle.s66_line.specs.{location, operand, operation}
use Rattle.s66_source.specs.{FramePart, has_operation}
use Rattle.s66_program.specs.declared.statement.Step.{Step}
use Rattle.s66_program.specs.declared.statement.Step.TheVariants.{Nothing, Word, Branch, Jump, End}

-- NAMES

-- in upper or in lower case
abbrev pub is_same : List ℕ → List ℕ → Bool
is_same a b = str_eq_ignore_ascii_case a b

-- what a location field names: `+` and `-` alone only say whether a word begins
abbrev pub name_in : List ℕ → List ℕ
name_in [] = []
name_in (b ∷ []) = if b == 43 || b == 45 then [] else b ∷ []
name_in (b ∷ (c ∷ bytes)) = b ∷ (c ∷ bytes)

-- the location field of a block, or of a line; a comment and a continuation have none
abbrev pub location_of : FramePart → List ℕ
location_of p = if p.is_block then p.bytes else (if has_operation p.bytes then location p.bytes else [])

abbrev pub name_of_part : FramePart → List ℕ
name_of_part p = name_in (location_of p)

-- what has a location begins a word, unless that is `-`
abbrev pub begins_word : FramePart → Bool
begins_word p = nat_lt 0 (length (location_of p)) && not (bytes_eq (location_of p) (codes "-"))

-- BRANCHES

-- where a branch goes: what follows the last comma of its operand, or all of it
abbrev pub behind_commas : (found rest : List ℕ) → List ℕ
behind_commas found [] = found
behind_commas found (b ∷ bytes) = if b == 44 then behind_commas bytes bytes else behind_commas found bytes

abbrev pub target_in : (operand : List ℕ) → List ℕ
target_in text = behind_commas text text

-- something comes before the last comma
abbrev pub compares : (operand : List ℕ) → Bool
compares text = nat_lt (length (target_in text)) (length text)

-- those after which the next instruction may be executed, but for an EQ, which its operand tells
abbrev pub conditional_branches : List (List ℕ)
conditional_branches =
    codes "ZR" ∷ codes "NZ" ∷ codes "PL" ∷ codes "NG" ∷ codes "MI" ∷ codes "IR" ∷ codes "OR" ∷ codes "DF" ∷ codes "ID" ∷ codes "NE" ∷ codes "GE"
    ∷ codes "GT" ∷ codes "LT" ∷ codes "LE" ∷ []

abbrev pub is_named_among : List (List ℕ) → List ℕ → Bool
is_named_among names name = some_of (λ known. is_same known name) names

abbrev pub is_conditional : (operation operand : List ℕ) → Bool
is_conditional name text = is_named_among conditional_branches name || (is_same (codes "EQ") name && compares text)

-- LINES

-- by its operation
abbrev pub step_by : (operation operand : List ℕ) → Step
step_by name text =
    if length name == 0 || (is_same (codes "BSS") name && bytes_eq text (codes "0")) then Word
    else (if is_conditional name text then Branch else (if is_same (codes "EQ") name || is_same (codes "JP") name then Jump else End))

abbrev pub step_of : (line : List ℕ) → Step
step_of line = if has_operation line then step_by (operation line) (operand line) else Nothing

abbrev pub is_end_step : Step → Bool
is_end_step End = true
is_end_step step = false

-- a loop may go through it
abbrev pub is_passed_by_loops : FramePart → Bool
is_passed_by_loops p = p.is_block || not (is_end_step (step_of p.bytes))

abbrev pub branches : Step → Bool
branches Branch = true
branches Jump = true
branches step = false

-- where a line goes to, if it is a branch
abbrev pub target_of : FramePart → List ℕ
target_of p = if branches (step_of p.bytes) then target_in (operand p.bytes) else []
