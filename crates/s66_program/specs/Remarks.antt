-- To be believed: what is told of an input after a success, what standard error gets of that, and the status by it.
use Rattle.std.specs.Prelude.{ℕ, ◌≡◌, ◌+◌, ◌==◌, ◌&&◌, Bool, true, false, if◌then◌else◌, List, [], ◌∷◌, ◌++◌, Option, None, Some, Result, Ok, Err, codes, decimal, length, nat_lt, option_map, unwrap_or}
use Rattle.std.specs.Prelude.{is_some}
use Rattle.s66_command.specs.{Command, Asked, Guard, Reads, Documents, Sources, Strategy, reads_cut, reads_of, strategy_of}
use Rattle.s66_device.specs.{IsUntouched, Writer}
use Rattle.s66_line.specs.{Block, lines_of}
use Rattle.s66_source.specs.{SourceError, halves_of, Reading, source_of}
use Rattle.s66_source.specs.Halves.{Halves}
use Rattle.s66_lint.specs.{IsGuard, IsFindings}
use Rattle.s66_answer.specs.{Status, Bounded, Denied, Done, Listed}
use Rattle.s66_program.specs.declared.remark.Ended.{Ended}
use Rattle.s66_program.specs.declared.remark.Missing.{Missing}
use Rattle.s66_program.specs.declared.remark.Missing.TheVariants as missing
use Rattle.s66_program.specs.declared.remark.Remark.{Remark}
use Rattle.s66_program.specs.Device.{Tells}
use Rattle.s66_program.specs.Output.{shows_blocks, source_in}

-- WHAT STANDARD ERROR GETS

abbrev pub lines_word : ℕ → List ℕ
lines_word count = if count == 1 then codes " line" else codes " lines"

-- what `lint` lists: with `--cut`, what `guard` puts switches around
abbrev pub found_words : (cut : Bool) (count : ℕ) → List ℕ
found_words false count = lines_word count ++ codes " that order may harm\n"
found_words true count =
    (if count == 1 then codes " finding" else codes " findings") ++ codes "; s66 guard puts switches around the code\n"

-- how `lint` is called that lists what is counted
abbrev pub lint_words : (cut : Bool) → List ℕ
lint_words false = codes "s66 lint lists "
lint_words true = codes "s66 lint --cut lists "

-- how many lines it lists; nothing if there is none
abbrev pub listed_line : (cut : Bool) (count : ℕ) → List ℕ
listed_line cut count = if count == 0 then [] else (lint_words cut ++ decimal count ++ found_words cut count)

-- how many regions `guard` put between switches, and how many lines they have; nothing if there is none
abbrev pub regions_line : (regions lines : ℕ) → List ℕ
regions_line regions lines =
    if regions == 0 then []
    else (
    decimal regions ++ (if regions == 1 then codes " place with " else codes " places with ") ++ decimal lines ++ lines_word lines
    ++ (if regions == 1 then codes " is left alone\n" else codes " are left alone\n")
    )

-- what an input lacks; nothing if it lacks nothing
abbrev pub missing_line : Missing → List ℕ
missing_line missing.Nothing = []
missing_line missing.Lines = codes "no block: the source is empty\n"
missing_line missing.Blocks = codes "no block: an instruction's operation begins in column 3 or later\n"
missing_line (missing.Block number last) = codes "no block " ++ decimal number ++ codes ": the last is " ++ decimal last ++ codes "\n"
missing_line missing.Documents = codes "no document: s66 check reads what s66 prove prints\n"

abbrev pub remark_text : Remark → List ℕ
remark_text r = missing_line r.missing ++ listed_line r.cut r.listed ++ regions_line r.regions r.lines

-- it asks for a search by facts
abbrev pub asks_for_facts : Command → Bool
asks_for_facts command = unwrap_or (option_map (λ (s : Strategy). s.deep) (strategy_of command.asked)) false

-- that so many of so many blocks are only bounded, and what may decide them
abbrev pub bounded_line : Status → List ℕ
bounded_line (Bounded blocks of) =
    decimal blocks ++ codes " of " ++ decimal of ++ (if of == 1 then codes " block" else codes " blocks")
    ++ (if blocks == 1 then codes " is only bounded; --deep may decide it\n" else codes " are only bounded; --deep decides most of these\n")
bounded_line status = []

-- what is told of the input, and without `--deep` of what is only bounded
abbrev pub told_text : Command → Ended → List ℕ
told_text command ended = remark_text ended.remark ++ (if asks_for_facts command then [] else bounded_line ended.status)

-- a text was printed; without one the writer isn't called
abbrev pub IsTold : List ℕ → Writer → Writer → Type 0
IsTold [] old new = IsUntouched old new
IsTold (b ∷ text) old new = Tells old new (b ∷ text)

-- WHAT IS TOLD

-- it prints orders that were looked for, or their times: what `lint` lists may be harmed by them
abbrev pub prints_orders : Command → Bool
prints_orders command = is_some (strategy_of command.asked)

-- what a source of this text lacks that has no block: a line, or an instruction among its lines
abbrev pub without_blocks : (text : List ℕ) → Missing
without_blocks [] = missing.Lines
without_blocks (b ∷ text) = missing.Blocks

-- what a source lacks whose last block has this number, if one block alone is asked for or all are
abbrev pub without_block : (only : Option ℕ) (last : ℕ) → Missing
without_block None last = missing.Nothing
without_block (Some number) last = if nat_lt last number then missing.Block number last else missing.Nothing

-- what a source of this text lacks, by its blocks if it is accepted
abbrev pub missing_of_source : (only : Option ℕ) (text : List ℕ) → Result (List Block) SourceError → Missing
missing_of_source only text (Ok []) = without_blocks text
missing_of_source only text (Ok (block ∷ blocks)) = without_block only (length (block ∷ blocks))
missing_of_source only text (Err e) = missing.Nothing

-- what a text of documents lacks
abbrev pub missing_of_documents : (text : List ℕ) → Missing
missing_of_documents [] = missing.Documents
missing_of_documents (b ∷ text) = missing.Nothing

abbrev pub is_documents : Reads → Bool
is_documents Documents = true
is_documents reads = false

-- what an input lacks of which blocks or documents are shown
abbrev pub missing_in : Command → (input : List ℕ) → Missing
missing_in command input =
    if shows_blocks command.asked then missing_of_source command.block input (source_of (source_in command input))
    else (if is_documents (reads_of command.asked) then missing_of_documents input else missing.Nothing)

abbrev pub are_sources : Reads → Bool
are_sources Sources = true
are_sources reads = false

-- of two sources the old one, and with `--strict` the new one too
abbrev pub counted_halves : Command → Option Halves → List Reading
counted_halves command (Some halves) =
    source_in command halves.old ∷ (if command.strict then source_in command halves.new ∷ [] else [])
counted_halves command None = []

-- the sources that `lint` may list lines of: the one whose best orders are looked for or, of two, those
abbrev pub counted_sources : Command → (input : List ℕ) → List Reading
counted_sources command input =
    if prints_orders command then source_in command input ∷ []
    else (if are_sources (reads_of command.asked) then counted_halves command (halves_of input) else [])

-- how many lines a text has that `lint` may write for a source, with `--cut` or without
abbrev pub IsCount : Reading → (listed : ℕ) → Type 0
IsCount source listed = (text : List ℕ) × IsFindings source text × (listed ≡ length (lines_of text))

-- how many lines there are of all these sources
abbrev pub AreCounts : List Reading → (listed : ℕ) → Type 0
AreCounts [] listed = listed ≡ 0
AreCounts (source ∷ sources) listed =
    (own others : ℕ) × IsCount source own × AreCounts sources others × (listed ≡ own + others)

-- how many regions of an input `guard` put between switches in the text that it wrote, and how many lines they have; of others none
abbrev pub AreRegions : Asked → (input text : List ℕ) → (regions lines : ℕ) → Type 0
AreRegions Guard input text regions lines = IsGuard input text regions lines
AreRegions asked input text regions lines = (regions ≡ 0) × (lines ≡ 0)

-- what is told after a command has written this text for this input
abbrev pub IsRemark : Command → (input text : List ℕ) → Remark → Type 0
IsRemark command input text r =
    (r.missing ≡ missing_in command input) × (r.cut ≡ reads_cut command) × AreCounts (counted_sources command input) r.listed
    × AreRegions command.asked input text r.regions r.lines

-- THE STATUS

abbrev pub lacks_documents : Missing → Bool
lacks_documents missing.Documents = true
lacks_documents lacking = false

-- how a command ends that is done when its text is written, by what is told: with `--some` it is denied if there is no document, and with
-- `--strict` lines that `lint` lists are its status
abbrev pub raised : Command → Remark → Status → Status
raised command r Done =
    if command.some && lacks_documents r.missing then Denied else (if command.strict && nat_lt 0 r.listed then Listed else Done)
raised command r status = status
