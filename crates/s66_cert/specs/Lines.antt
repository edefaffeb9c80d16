-- Used by contracts: the lines of a document, what each says, how it is written, and what bytes are read as. A block has at most limit instructions.
use Rattle.std.specs.Prelude.{◌≡◌, ◌≤◌, ◌+◌, ◌*◌, ◌-◌, ◌==◌, ◌&&◌, if◌then◌else◌, ℕ, Bool, true, false, not, List, [], ◌∷◌, ◌++◌, Option, None, Some, nat_le, is_some, length, codes, decimal}
use Rattle.std.specs.Prelude.{option_map, bytes_eq}
use Rattle.s66_isa.specs.{Kind, Boolean, Shift, Add, LongAdd, Multiply, Divide, Increment, every, after_blanks, PROFILE_LENGTH, PROFILE_LIMIT}
use Rattle.s66_model.specs.{Whole, Chain, Load, Parcels, Vertex, AtTerminal, AtSplit, Ending, Bounding, Dominated, Factual, Next, Turned, AtLine, LoadFrom}
use Rattle.s66_moments.specs.{Issue, Start, Moment, Origin, At, FactStep}
use Rattle.s66_moments.specs.declared.moment.Moment.TheVariants as moment
use Rattle.s66_moments.specs.declared.fact_line.FactLine.TheVariants as fact
use Rattle.s66_moments.specs.declared.fact_line.FactStep.TheVariants as step
use Rattle.s66_line.specs.{is_decimal, spelling, operation_in, operand_in, IsInstruction, instr_of, TEXT_LIMIT}
use Rattle.s66_cert.specs.Documents.{AreIn, AreNumbers, IsLeafLine, IsFactStep, step_line, vertex_line}
use Rattle.s66_cert.specs.declared.version.Version.{Version}
use Rattle.s66_cert.specs.declared.version.Version.TheVariants.{BoundsAlone, EarlierNodes, StandingNodes, FactLines, Suppositions}
use Rattle.s66_cert.specs.Versions.{version_number}
use Rattle.s66_cert.specs.declared.limits.TheConstants.{TIME_LIMIT, LINE_LIMIT}

pub data DocumentLine : Type 0 where
  Header : (version : Version) → DocumentLine
  Profile : (numbers : List ℕ) → DocumentLine
  Block : (count : ℕ) → DocumentLine
  Instruction : (text : List ℕ) → DocumentLine
  Time : (time : ℕ) → DocumentLine
  Bound : (bound : ℕ) → DocumentLine
  Order : (numbers : List ℕ) → DocumentLine
  OfFact : (step : FactStep) → DocumentLine
  OfTree : (vertex : Vertex Ending) → DocumentLine
  End : DocumentLine

-- ITS BYTES, without the newline

abbrev pub line_bytes : DocumentLine → List ℕ
line_bytes (Header version) = codes "S66 CERTIFICATE " ++ decimal (version_number version)
line_bytes (Profile numbers) = codes "PROFILE" ++ after_blanks numbers
line_bytes (Block count) = codes "BLOCK " ++ decimal count
line_bytes (Instruction text) = codes "I " ++ text
line_bytes (Time time) = codes "TIME " ++ decimal time
line_bytes (Bound bound) = codes "BOUND " ++ decimal bound
line_bytes (Order numbers) = codes "ORDER" ++ after_blanks numbers
line_bytes (OfFact step) = step_line step
line_bytes (OfTree vertex) = vertex_line vertex
line_bytes End = codes "END"

-- ITS RANGES

abbrev pub IsVertex : ℕ → Vertex Ending → Type 0
IsVertex limit (AtTerminal leaf) = IsLeafLine limit leaf
IsVertex limit (AtSplit numbers) = AreNumbers limit numbers

abbrev pub IsLineInRange : ℕ → DocumentLine → Type 0
IsLineInRange limit (Header version) = Unit {0}
IsLineInRange limit (Profile numbers) = (length numbers ≡ PROFILE_LENGTH) × AreIn 1 PROFILE_LIMIT numbers
IsLineInRange limit (Block count) = (1 ≤ count) × (count ≤ limit)
IsLineInRange limit (Instruction text) = IsInstruction text
IsLineInRange limit (Time time) = time ≤ TIME_LIMIT
IsLineInRange limit (Bound bound) = bound ≤ TIME_LIMIT
IsLineInRange limit (Order numbers) = AreNumbers limit numbers
IsLineInRange limit (OfFact step) = IsFactStep limit step
IsLineInRange limit (OfTree vertex) = IsVertex limit vertex
IsLineInRange limit End = Unit {0}

-- WORDS, with one blank between two

abbrev pub first_word : List ℕ → List ℕ
first_word [] = []
first_word (b ∷ bytes) = if b == 32 then [] else b ∷ first_word bytes

-- what comes after the first blank, if there is one
abbrev pub after_first_word : List ℕ → Option (List ℕ)
after_first_word [] = None
after_first_word (b ∷ bytes) = if b == 32 then Some bytes else after_first_word bytes

-- the next word, if there is one, and what comes after its blank
abbrev pub word_in : Option (List ℕ) → Option (List ℕ)
word_in None = None
word_in (Some bytes) = Some (first_word bytes)

abbrev pub rest_in : Option (List ℕ) → Option (List ℕ)
rest_in None = None
rest_in (Some bytes) = after_first_word bytes

-- a byte in front of the first word
abbrev pub put_front : ℕ → List (List ℕ) → List (List ℕ)
put_front b [] = (b ∷ []) ∷ []
put_front b (word ∷ words) = (b ∷ word) ∷ words

abbrev pub words_of : List ℕ → List (List ℕ)
words_of [] = [] ∷ []
words_of (b ∷ bytes) = if b == 32 then [] ∷ words_of bytes else put_front b (words_of bytes)

abbrev pub words_in : Option (List ℕ) → List (List ℕ)
words_in None = []
words_in (Some bytes) = words_of bytes

-- NUMBERS

-- the number that these digits write after those of n
abbrev pub value_after : ℕ → List ℕ → ℕ
value_after n [] = n
value_after n (d ∷ ds) = value_after (n * 10 + (d - 48)) ds

-- there is a digit, and no zero leads another
abbrev pub has_no_leading_zero : List ℕ → Bool
has_no_leading_zero [] = false
has_no_leading_zero (d ∷ []) = true
has_no_leading_zero (d ∷ e ∷ ds) = not (d == 48)

abbrev pub is_number : List ℕ → Bool
is_number word = has_no_leading_zero word && every is_decimal word

abbrev pub number_in : ℕ → ℕ → List ℕ → Option ℕ
number_in low high word =
    if is_number word && nat_le low (value_after 0 word) && nat_le (value_after 0 word) high then Some (value_after 0 word) else None

abbrev pub consed : ℕ → Option (List ℕ) → Option (List ℕ)
consed n None = None
consed n (Some ns) = Some (n ∷ ns)

abbrev pub consed_if : Option ℕ → Option (List ℕ) → Option (List ℕ)
consed_if None ns = None
consed_if (Some n) ns = consed n ns

abbrev pub numbers_in : ℕ → ℕ → List (List ℕ) → Option (List ℕ)
numbers_in low high [] = Some []
numbers_in low high (word ∷ words) = consed_if (number_in low high word) (numbers_in low high words)

abbrev pub if_count : ℕ → ℕ → Option (List ℕ) → Option (List ℕ)
if_count low high None = None
if_count low high (Some ns) = if nat_le low (length ns) && nat_le (length ns) high then Some ns else None

-- numbers of instructions of a block
abbrev pub block_numbers : ℕ → Option (List ℕ) → Option (List ℕ)
block_numbers limit rest = if_count 1 limit (numbers_in 1 limit (words_in rest))

abbrev pub profile_in : Option (List ℕ) → Option (List ℕ)
profile_in rest = if_count PROFILE_LENGTH PROFILE_LENGTH (numbers_in 1 PROFILE_LIMIT (words_in rest))

abbrev pub one_number : ℕ → ℕ → Option (List ℕ) → Option ℕ
one_number low high None = None
one_number low high (Some bytes) = number_in low high bytes

-- TWO NUMBERS

abbrev pub two_numbers : ℕ → Option (List ℕ) → Option (List ℕ)
two_numbers limit rest = if_count 2 2 (numbers_in 1 limit (words_in rest))

-- of these numbers, if there are two
abbrev pub pair_with : (ℕ → ℕ → DocumentLine) → Option (List ℕ) → Option DocumentLine
pair_with f None = None
pair_with f (Some []) = None
pair_with f (Some (n ∷ [])) = None
pair_with f (Some (n ∷ m ∷ [])) = Some (f n m)
pair_with f (Some (n ∷ m ∷ k ∷ ns)) = None

-- MOMENTS

-- an issue or a start
abbrev pub stage_in : ℕ → List ℕ → Option Moment
stage_in limit [] = None
stage_in limit (b ∷ digits) =
    if b == 73 then option_map (λ n. At n Issue) (number_in 1 limit digits)
    else (if b == 83 then option_map (λ n. At n Start) (number_in 1 limit digits)
    else None)

abbrev pub front_in : ℕ → Option (List ℕ) → Option Moment
front_in limit None = None
front_in limit (Some word) = if bytes_eq word (codes "0") then Some Origin else stage_in limit word

abbrev pub back_in : ℕ → Option (List ℕ) → Option Moment
back_in limit None = None
back_in limit (Some word) = if bytes_eq word (codes "END") then Some moment.End else stage_in limit word

-- LOADS

abbrev pub load_with : Option Moment → Option Moment → Option ℕ → Option ℕ → Option (List ℕ) → Option DocumentLine
load_with (Some from) (Some to) (Some after) (Some wait) (Some numbers) =
    Some (OfFact (step.Fact (fact.Load (record { from = from; to = to; after = after; wait = wait; numbers = record { items = numbers } }))))
load_with from to after wait numbers = None

-- after these words
abbrev pub load_after : ℕ → (from to after wait : Option (List ℕ)) → Option (List ℕ) → Option DocumentLine
load_after limit from to after wait rest =
    load_with (front_in limit from) (back_in limit to) (one_number 0 TIME_LIMIT after) (one_number 0 TIME_LIMIT wait) (block_numbers limit rest)

abbrev pub load_in : ℕ → Option (List ℕ) → Option DocumentLine
load_in limit rest =
    load_after limit (word_in rest) (word_in (rest_in rest)) (word_in (rest_in (rest_in rest))) (word_in (rest_in (rest_in (rest_in rest))))
    (rest_in (rest_in (rest_in (rest_in rest))))

-- of a leaf: a minor cycle, and numbers
abbrev pub load_from_with : Option ℕ → Option (List ℕ) → Option DocumentLine
load_from_with (Some after) (Some numbers) = Some (OfTree (AtTerminal (Factual (LoadFrom after numbers))))
load_from_with after numbers = None

abbrev pub load_from_in : ℕ → Option (List ℕ) → Option DocumentLine
load_from_in limit rest = load_from_with (one_number 0 TIME_LIMIT (word_in rest)) (block_numbers limit (rest_in rest))

-- INSTRUCTIONS

abbrev pub is_instruction_text : List ℕ → Bool
is_instruction_text text =
    nat_le (length text) TEXT_LIMIT && is_some (instr_of (operation_in text) (operand_in text))
    && bytes_eq text (spelling (operation_in text) (operand_in text))

abbrev pub instruction_in : Option (List ℕ) → Option DocumentLine
instruction_in None = None
instruction_in (Some text) = if is_instruction_text text then Some (Instruction text) else None

-- KINDS

abbrev pub kind_in : Option (List ℕ) → Option Kind
kind_in None = None
kind_in (Some name) =
    if bytes_eq name (codes "BOOLEAN") then Some Boolean
    else (if bytes_eq name (codes "SHIFT") then Some Shift
    else (if bytes_eq name (codes "ADD") then Some Add
    else (if bytes_eq name (codes "LONGADD") then Some LongAdd
    else (if bytes_eq name (codes "MULTIPLY") then Some Multiply
    else (if bytes_eq name (codes "DIVIDE") then Some Divide
    else (if bytes_eq name (codes "INCREMENT") then Some Increment
    else None))))))

-- LINES

-- nothing follows the word
abbrev pub alone : DocumentLine → Option (List ℕ) → Option DocumentLine
alone line None = Some line
alone line (Some rest) = None

abbrev pub header_in : Option (List ℕ) → Option DocumentLine
header_in None = None
header_in (Some rest) =
    if bytes_eq rest (codes "CERTIFICATE 1") then Some (Header BoundsAlone)
    else (if bytes_eq rest (codes "CERTIFICATE 2") then Some (Header EarlierNodes)
    else (if bytes_eq rest (codes "CERTIFICATE 3") then Some (Header StandingNodes)
    else (if bytes_eq rest (codes "CERTIFICATE 4") then Some (Header FactLines)
    else (if bytes_eq rest (codes "CERTIFICATE 5") then Some (Header Suppositions)
    else None))))

-- what a line says whose first word is this, and what comes after its blank
abbrev pub line_with : ℕ → List ℕ → Option (List ℕ) → Option DocumentLine
line_with limit name rest =
    if bytes_eq name (codes "T") then alone (OfTree (AtTerminal (Bounding Whole))) rest
    else (if bytes_eq name (codes "S") then option_map (λ ns. OfTree (AtSplit ns)) (block_numbers limit rest)
    else (if bytes_eq name (codes "C") then option_map (λ ns. OfTree (AtTerminal (Bounding (Chain ns)))) (block_numbers limit rest)
    else (if bytes_eq name (codes "D") then option_map (λ ns. OfTree (AtTerminal (Dominated ns))) (block_numbers limit rest)
    else (if bytes_eq name (codes "U") then option_map (λ kind. OfTree (AtTerminal (Bounding (Load kind)))) (kind_in rest)
    else (if bytes_eq name (codes "P") then alone (OfTree (AtTerminal (Bounding Parcels))) rest
    else (if bytes_eq name (codes "E") then option_map (λ n. OfTree (AtTerminal (Factual (Next n)))) (one_number 1 limit rest)
    else (if bytes_eq name (codes "R") then pair_with (λ n m. OfTree (AtTerminal (Factual (Turned n m)))) (two_numbers limit rest)
    else (if bytes_eq name (codes "N") then option_map (λ n. OfTree (AtTerminal (Factual (AtLine n)))) (one_number 1 LINE_LIMIT rest)
    else (if bytes_eq name (codes "L") then load_from_in limit rest
    else (if bytes_eq name (codes "F") then pair_with (λ n m. OfFact (step.Fact (fact.Pair n m))) (two_numbers limit rest)
    else (if bytes_eq name (codes "A") then load_in limit rest
    else (if bytes_eq name (codes "B") then pair_with (λ n m. OfFact (step.Suppose n m)) (two_numbers limit rest)
    else (if bytes_eq name (codes "Q") then alone (OfFact step.Refuted) rest
    else (if bytes_eq name (codes "I") then instruction_in rest
    else (if bytes_eq name (codes "S66") then header_in rest
    else (if bytes_eq name (codes "PROFILE") then option_map Profile (profile_in rest)
    else (if bytes_eq name (codes "BLOCK") then option_map Block (one_number 1 limit rest)
    else (if bytes_eq name (codes "TIME") then option_map Time (one_number 0 TIME_LIMIT rest)
    else (if bytes_eq name (codes "BOUND") then option_map Bound (one_number 0 TIME_LIMIT rest)
    else (if bytes_eq name (codes "ORDER") then option_map Order (block_numbers limit rest)
    else (if bytes_eq name (codes "END") then alone End rest
    else None)))))))))))))))))))))

-- what a line says, or that it's no line of a document
abbrev pub line_read : ℕ → List ℕ → Option DocumentLine
line_read limit bytes = line_with limit (first_word bytes) (after_first_word bytes)
