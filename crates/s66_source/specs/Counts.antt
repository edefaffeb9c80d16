-- To be believed: which lines an operation of the assembler covers that counts the lines after it.
use Rattle.std.specs.Prelude.{ℕ, zero, suc, Bool, true, false, not, ◌&&◌, ◌||◌, ◌==◌, ◌+◌, ◌*◌, ◌-◌, if◌then◌else◌, min, max, List, [], ◌∷◌, Option, None, Some, codes, length, nat_lt, bytes_eq}
use Rattle.std.specs.Prelude.{is_some}
use Rattle.s66_isa.specs.{every, some_of}
use Rattle.s66_line.specs.{is_decimal, from_operand, is_blank, word}
use Rattle.s66_source.specs.declared.cover.Cover.{Cover}
use Rattle.s66_source.specs.declared.cover.Cover.TheVariants.{Nothing, Lines, ToItsEnd}
use Rattle.s66_source.specs.declared.cover.Covered.{Covered}
use Rattle.s66_source.specs.declared.limits.TheConstants.{SOURCE_LINES_LIMIT}

-- NAMES, in upper case

abbrev pub is_one_of : List (List ℕ) → List ℕ → Bool
is_one_of names word = some_of (λ name. bytes_eq word name) names

-- those that end a part which an IF, a SKIP, an ELSE, a DUP or an ECHO covers
abbrev pub range_ends : List (List ℕ)
range_ends = codes "ENDD" ∷ codes "ENDIF" ∷ codes "END" ∷ codes "IDENT" ∷ []

-- COUNT
abbrev pub counted_alone : List (List ℕ)
counted_alone =
    codes "SKIP" ∷ codes "ELSE" ∷ codes "IFCP" ∷ codes "IFCP6" ∷ codes "IFCP7" ∷ codes "IFPP" ∷ codes "IFPP6" ∷ codes "IFPP7" ∷ []

-- REPETITIONS,COUNT or EXPRESSION,COUNT
abbrev pub counted_after_one : List (List ℕ)
counted_after_one = codes "DUP" ∷ codes "IFPL" ∷ codes "IFMI" ∷ []

-- EXPRESSION,EXPRESSION,COUNT or ATTRIBUTE,SYMBOL,COUNT
abbrev pub counted_after_two : List (List ℕ)
counted_after_two =
    codes "IF" ∷ codes "IFEQ" ∷ codes "IFNE" ∷ codes "IFGT" ∷ codes "IFGE" ∷ codes "IFLT" ∷ codes "IFLE" ∷ []

-- COUNTS

-- one digit or more, and nothing else
abbrev pub is_numeral : List ℕ → Bool
is_numeral [] = false
is_numeral (b ∷ bytes) = every is_decimal (b ∷ bytes)

-- the number that digits spell after those that spell n
abbrev pub spelled_after : ℕ → List ℕ → ℕ
spelled_after n [] = n
spelled_after n (b ∷ bytes) = spelled_after (10 * n + (b - 48)) bytes

abbrev pub lines_covered : ℕ → Cover
lines_covered zero = Nothing
lines_covered (suc n) = Lines (suc n)

-- an absent count, or 0, covers nothing; one that is no numeral is not known
abbrev pub cover_by_count : List ℕ → Cover
cover_by_count [] = Nothing
cover_by_count (b ∷ bytes) =
    if is_numeral (b ∷ bytes) then lines_covered (min (spelled_after 0 (b ∷ bytes)) SOURCE_LINES_LIMIT) else ToItsEnd

-- what is no numeral covers nothing
abbrev pub cover_by_numeral : List ℕ → Cover
cover_by_numeral count = if is_numeral count then cover_by_count count else Nothing

-- PARTS OF AN OPERAND

-- those before the first such byte, or all
abbrev pub before_byte : ℕ → List ℕ → List ℕ
before_byte d [] = []
before_byte d (b ∷ bytes) = if b == d then [] else b ∷ before_byte d bytes

-- those after the first comma
abbrev pub after_comma : List ℕ → List ℕ
after_comma [] = []
after_comma (b ∷ bytes) = if b == 44 then bytes else after_comma bytes

-- those after the first such byte, if there is one
abbrev pub after_byte : ℕ → List ℕ → Option (List ℕ)
after_byte d [] = None
after_byte d (b ∷ bytes) = if b == d then Some bytes else after_byte d bytes

-- of the word that follows the strings of an IFC
abbrev pub cover_after_third : List ℕ → Cover
cover_after_third [] = Nothing
cover_after_third (b ∷ count) = if b == 44 then cover_by_count count else ToItsEnd

abbrev pub cover_after_strings : Option (List ℕ) → Cover
cover_after_strings None = ToItsEnd
cover_after_strings (Some rest) = cover_after_third (word rest)

-- of what follows the first string, whose ends this byte marks
abbrev pub cover_after_string : ℕ → Option (List ℕ) → Cover
cover_after_string d None = ToItsEnd
cover_after_string d (Some rest) = cover_after_strings (after_byte d rest)

-- OPERATOR,/STRING/STRING/,COUNT, in which another byte but a blank may be in the place of the three that are alike; the strings may
-- hold blanks
abbrev pub cover_by_strings : List ℕ → Cover
cover_by_strings [] = ToItsEnd
cover_by_strings (d ∷ rest) = if is_blank d then ToItsEnd else cover_after_string d (after_byte d rest)

-- what follows the first comma of the word in front
abbrev pub strings_in : List ℕ → List ℕ
strings_in text = if is_some (after_byte 44 (word text)) then after_comma text else []

-- a line from its operand on, if that begins before column 30, in which a remark may begin
abbrev pub counting_text : List ℕ → List ℕ
counting_text line = if nat_lt (length line - length (from_operand line)) 29 then from_operand line else []

-- WHAT AN OPERATION COVERS, by its name in upper case and the text from its operand on

-- what an operation covers, by its name in upper case and the text from its operand on: nothing, a number of lines, or all lines to the
-- next `ENDD`, `ENDIF`, `END` or `IDENT`
abbrev pub cover_of : List ℕ → List ℕ → Cover
cover_of name text =
    if is_one_of counted_alone name then cover_by_count (word text)
    else (if is_one_of counted_after_one name then cover_by_count (after_comma (word text))
    else (if is_one_of counted_after_two name then cover_by_count (after_comma (after_comma (word text)))
    else (if bytes_eq name (codes "ECHO") then cover_by_count (before_byte 44 (word text))
    else (if bytes_eq name (codes "IFC") then cover_by_strings (strings_in text)
    else Nothing))))

abbrev pub is_counting : Cover → Bool
is_counting Nothing = false
is_counting cover = true

-- WHAT IS STILL COVERED after one line more

abbrev pub nothing_covered : Covered
nothing_covered = record { lines = 0; to_end = false; repetitions = 0 }

abbrev pub is_covering : Covered → Bool
is_covering c = nat_lt 0 c.lines || (c.to_end || nat_lt 0 c.repetitions)

-- after a line, by whether its operation ends a part
abbrev pub count_down : Covered → Bool → Covered
count_down c ends = record { lines = c.lines - 1; to_end = c.to_end && not ends; repetitions = c.repetitions }

-- with what an operation covers
abbrev pub with_cover : Covered → Cover → Covered
with_cover c Nothing = c
with_cover c (Lines n) = record { lines = max c.lines n; to_end = c.to_end; repetitions = c.repetitions }
with_cover c ToItsEnd = record { lines = c.lines; to_end = true; repetitions = c.repetitions }

-- how many repetitions without a count are open after an operation, from the outermost ECHO on, which repeats lines with names in the
-- places of others; no more than a source has lines
abbrev pub repetitions_after : ℕ → List ℕ → Bool → ℕ
repetitions_after zero name counts = if bytes_eq name (codes "ECHO") && not counts then 1 else 0
repetitions_after (suc n) name counts =
    if (bytes_eq name (codes "ECHO") || bytes_eq name (codes "DUP")) && not counts then min (suc (suc n)) SOURCE_LINES_LIMIT
    else (if bytes_eq name (codes "ENDD") then n else suc n)

-- after an operation outside of definitions, which covers this
abbrev pub covered_after : Covered → List ℕ → Cover → Covered
covered_after c name cover =
    let counted = with_cover (count_down c (is_one_of range_ends name)) cover in
    record { lines = counted.lines; to_end = counted.to_end; repetitions = repetitions_after c.repetitions name (is_counting cover) }
