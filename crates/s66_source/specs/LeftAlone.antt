-- To be believed: which lines of a source are left alone. Such a line is an Other line, whatever it holds.
use Rattle.std.specs.Prelude.{ℕ, zero, suc, Bool, true, false, not, ◌&&◌, ◌||◌, ◌==◌, ◌-◌, if◌then◌else◌, List, [], ◌∷◌, Option, None, Some, codes, drop, length, nat_le, nat_lt, bytes_eq, take}
use Rattle.s66_isa.specs.{every}
use Rattle.s66_line.specs.{class_of, after_word, body, continues, from_operand, from_operation, is_blank, is_comment, label_bytes, lines_of, operation, skip_blanks, upper, word, Class, Instruction}
use Rattle.s66_line.specs.{Other, Pad, Refused, is_decimal, is_filled}
use Rattle.s66_source.specs.Counts.{after_byte, after_comma, before_byte, count_down, counting_text, cover_by_numeral, cover_of, covered_after, is_covering, is_numeral, is_one_of, nothing_covered}
use Rattle.s66_source.specs.Counts.{range_ends, with_cover}
use Rattle.s66_source.specs.declared.cover.Cover.{Cover}
use Rattle.s66_source.specs.declared.cover.Cover.TheVariants.{Nothing}
use Rattle.s66_source.specs.declared.limits.TheConstants.{DIRECTIVE_LIMIT}
use Rattle.s66_source.specs.declared.cover.Covered.{Covered}
use Rattle.s66_source.specs.Redefinitions.{Redefined, is_redefined, nothing_redefined, redefined_in}

-- a text, and whether it is read with `--cut`
pub record Reading : Type 0 where
  pub cut : Bool
  pub text : List ℕ

-- without `--cut`
abbrev pub plain : List ℕ → Reading
plain text = record { cut = false; text = text }

-- LINES without the carriage returns at their end

-- a comment from column 1 whose first words are these, in upper or in lower case
abbrev pub is_switch : List ℕ → List ℕ → Bool
is_switch second line = bytes_eq (upper (word line)) (codes "*S66") && bytes_eq (upper (word (skip_blanks (after_word line)))) second

abbrev pub is_off_switch : List ℕ → Bool
is_off_switch line = is_switch (codes "OFF") line

abbrev pub is_on_switch : List ℕ → Bool
is_on_switch line = is_switch (codes "ON") line

-- DIRECTIVES to programs that keep libraries of sources, as UPDATE and MODIFY, by what follows the star of a comment in upper case

-- their names and short forms; a directive that isn't among them is told by its form
abbrev pub directives : List (List ℕ)
directives =
    codes "ADDFILE" ∷ codes "BEFORE" ∷ codes "CALL" ∷ codes "CALLALL" ∷ codes "CALLC" ∷ codes "CHANGE" ∷ codes "COMDECK" ∷ codes "COMPILE"
    ∷ codes "COPY" ∷ codes "CSET" ∷ codes "CWEOR" ∷ codes "DECK" ∷ codes "DECLARE" ∷ codes "DEFINE" ∷ codes "DELETE" ∷ codes "DO" ∷ codes "DONT"
    ∷ codes "EDIT" ∷ codes "ELSE" ∷ codes "ENDIF" ∷ codes "ENDTEXT" ∷ codes "IDENT" ∷ codes "IF" ∷ codes "IFCALL" ∷ codes "IFDEF"
    ∷ codes "INSERT" ∷ codes "LIMIT" ∷ codes "LIST" ∷ codes "MOVE" ∷ codes "NIFCALL" ∷ codes "NOABBREV" ∷ codes "NOLIST" ∷ codes "PULLMOD"
    ∷ codes "PURDECK" ∷ codes "PURGE" ∷ codes "READ" ∷ codes "RESTORE" ∷ codes "REWIND" ∷ codes "SELPURGE" ∷ codes "SELYANK" ∷ codes "SEQUENCE"
    ∷ codes "SKIP" ∷ codes "TEXT" ∷ codes "UNYANK" ∷ codes "WEOR" ∷ codes "WIDTH" ∷ codes "YANK" ∷ codes "YANKDECK" ∷ codes "AF" ∷ codes "CA"
    ∷ codes "CD" ∷ codes "CH" ∷ codes "CW" ∷ codes "CY" ∷ codes "DC" ∷ codes "DF" ∷ codes "DK" ∷ codes "DT" ∷ codes "EI" ∷ codes "ET"
    ∷ codes "ID" ∷ codes "LT" ∷ codes "NA" ∷ codes "NL" ∷ codes "PD" ∷ codes "PM" ∷ codes "RD" ∷ codes "RW" ∷ codes "SK" ∷ codes "SP"
    ∷ codes "SY" ∷ codes "YD" ∷ []

abbrev pub is_letter : ℕ → Bool
is_letter b = nat_le 65 b && nat_le b 90

-- the name of a correction
abbrev pub is_correction : List ℕ → Bool
is_correction [] = false
is_correction (b ∷ bytes) = is_letter b && every (λ c. is_letter c || (is_decimal c || c == 61)) bytes

-- such a name and the number of a line, behind a period
abbrev pub is_numbered : List ℕ → Option (List ℕ) → Bool
is_numbered name None = false
is_numbered name (Some number) = is_correction name && is_numeral number

-- where to correct: `83`, `COMCRDW.41`
abbrev pub is_place : List ℕ → Bool
is_place word = is_numeral word || is_numbered (before_byte 46 word) (after_byte 46 word)

abbrev pub is_place_if : Option (List ℕ) → Bool
is_place_if None = true
is_place_if (Some word) = is_place word

-- one place, or two with a comma between
abbrev pub are_places : List ℕ → Bool
are_places word = is_place (before_byte 44 word) && is_place_if (after_byte 44 word)

abbrev pub separates : ℕ → Bool
separates b = is_blank b || b == 44

-- without the blanks and commas in front
abbrev pub skip_separators : List ℕ → List ℕ
skip_separators [] = []
skip_separators (b ∷ bytes) = if separates b then skip_separators bytes else b ∷ bytes

-- `*I 83`, `*D COMCRDW.41,COMCRDW.43`: a letter, and where to correct
abbrev pub corrects : List ℕ → Bool
corrects (letter ∷ b ∷ bytes) = separates b && are_places (word (skip_separators bytes))
corrects text = false

-- two words at most: prose has more, so that as a line it would have an operand
abbrev pub is_brief : List ℕ → Bool
is_brief text = not (is_filled (from_operand text))

-- a letter directly behind the star, and a directive's name, form or length; but not the star of a switch
abbrev pub directs : List ℕ → Bool
directs [] = false
directs (b ∷ text) =
    is_letter b
    && (not (bytes_eq (word (b ∷ text)) (codes "S66")) && (is_one_of directives (before_byte 44 (word (b ∷ text))) || (corrects (b ∷ text) || is_brief (b ∷ text))))

-- a comment with a star in column 1 is one, by its first 72 bytes
abbrev pub is_directive : List ℕ → Bool
is_directive [] = false
is_directive (s ∷ line) = s == 42 && directs (upper (take DIRECTIVE_LIMIT line))

-- the operand behind a name
abbrev pub operand_behind : List ℕ → List ℕ → List ℕ
operand_behind name text = word (skip_separators (drop (length name) text))

-- `*IF ATTRIBUTE,NAME,COUNT` and `*ELSE COUNT` cover lines, too
abbrev pub directive_cover : List ℕ → Cover
directive_cover text =
    let name = before_byte 44 (word text) in
    if bytes_eq name (codes "IF") then cover_by_numeral (after_comma (after_comma (operand_behind name text)))
    else (if bytes_eq name (codes "ELSE") then cover_by_numeral (operand_behind name text) else Nothing)

-- neither a comment nor a continuation, so that it may have an operation
abbrev pub has_operation : List ℕ → Bool
has_operation line = not (is_comment line || continues line)

-- WHAT STANDS from one line to the next

pub record Standing : Type 0 where
  -- a switch `*S66 OFF` came before, and no switch `*S66 ON` after it
  pub off : Bool
  -- how many definitions are open
  pub bodies : ℕ
  -- what is still covered by counts and repetitions
  pub cover : Covered
  -- what the source redefines, before or after
  pub redefined : Redefined

-- at the beginning of a source
abbrev pub at_first : Redefined → Standing
at_first redefined = record { off = false; bodies = 0; cover = nothing_covered; redefined = redefined }

-- the operations that begin a definition
abbrev pub definitions : List (List ℕ)
definitions = codes "MACRO" ∷ codes "MACROE" ∷ codes "OPDEF" ∷ []

-- how many definitions are open after an operation
abbrev pub bodies_after : ℕ → List ℕ → ℕ
bodies_after zero name = if is_one_of definitions name then 1 else 0
bodies_after (suc n) name = if is_one_of definitions name then suc (suc n) else (if bytes_eq name (codes "ENDM") then n else suc n)

-- after an operation and the text from its operand on; what a definition holds covers nothing yet
abbrev pub after_operation : Standing → List ℕ → List ℕ → Standing
after_operation s name text =
    record s {
      bodies = bodies_after s.bodies name;
      cover = if s.bodies == 0 then covered_after s.cover name (cover_of name text) else count_down s.cover (is_one_of range_ends name);
    }

abbrev pub off_after : Bool → List ℕ → Bool
off_after off line = if is_on_switch line then false else (off || is_off_switch line)

-- after a directive outside of definitions
abbrev pub after_directive : Standing → Cover → Standing
after_directive s cover = if s.bodies == 0 then record s { cover = with_cover s.cover cover } else s

-- after a line without an operation
abbrev pub with_directive : Bool → Standing → List ℕ → Standing
with_directive cut s line = if cut && is_directive line then after_directive s (directive_cover (upper (drop 1 line))) else s

-- after the operation of a line; the text after it is in upper case too, since letters may end the strings of an IFC
abbrev pub with_operation : Bool → Standing → List ℕ → Standing
with_operation cut s line =
    if cut && has_operation line then after_operation s (upper (operation line)) (upper (counting_text line)) else with_directive cut s line

-- after a line without the carriage returns at its end
abbrev pub after_body : Bool → Standing → List ℕ → Standing
after_body cut s line = record (with_operation cut s line) { off = off_after s.off line }

-- after a line
abbrev pub after_line : Bool → Standing → List ℕ → Standing
after_line cut s line = after_body cut s (body line)

-- LINES THAT ARE LEFT ALONE

-- the next line that is no comment has a comma in column 1
abbrev pub is_continued : List (List ℕ) → Bool
is_continued [] = false
is_continued (next ∷ lines) = if is_comment (body next) then is_continued lines else continues next

-- whatever it holds: from a switch `*S66 OFF` to a switch `*S66 ON`; with `--cut` also in a definition, covered by a count, continued, or
-- a directive
abbrev pub is_held : Bool → Standing → List ℕ → Bool → Bool
is_held cut s line continued =
    s.off || (is_off_switch (body line) || (cut && (nat_lt 0 s.bodies || (is_covering s.cover || (continued || is_directive (body line))))))

-- how far behind the begin of an operation its operand begins, in bytes
abbrev pub distance : List ℕ → ℕ
distance bytes = length bytes - length (skip_blanks (after_word bytes))

-- COMPASS sees no operand that begins in column 30 or later. This one does, or would where the operation is put into column 11. What
-- has a label of ten bytes or more, for which there is no place before column 11, is told by the second alone
abbrev pub is_far : List ℕ → Bool
is_far line =
    is_filled (from_operand line)
    && (nat_le 19 (distance (from_operation line)) || (nat_lt (length (label_bytes line)) 10 && nat_le 29 (length line - length (from_operand line))))

-- refused, at least after code; or COMPASS may take it for something else
abbrev pub is_doubtful : Redefined → Class → List ℕ → Bool
is_doubtful redefined Refused line = true
is_doubtful redefined (Pad located) line = is_redefined redefined (from_operation line)
is_doubtful redefined (Instruction located n) line = is_redefined redefined (from_operation line) || is_far line
is_doubtful redefined class line = false

-- or, with `--cut`, what is in doubt; the line is between switches, or one; or with `--cut` in a definition, covered by a count or an
-- `ECHO`, continued, a directive, refused, with an operand that isn't seen, or redefined
abbrev pub is_alone : Bool → Standing → List ℕ → Bool → Bool
is_alone cut s line continued = is_held cut s line continued || (cut && is_doubtful s.redefined (class_of true line) (body line))

-- a line, and whether it is left alone
pub record Flagged : Type 0 where
  pub alone : Bool
  pub bytes : List ℕ

abbrev pub flagged_from : Bool → Standing → List (List ℕ) → List Flagged
flagged_from cut s [] = []
flagged_from cut s (line ∷ lines) = record { alone = is_alone cut s line (is_continued lines); bytes = line } ∷ flagged_from cut (after_line cut s line) lines

-- without `--cut` no line is asked for it
abbrev pub redefined_by : Reading → Redefined
redefined_by source = if source.cut then redefined_in (lines_of source.text) else nothing_redefined

-- the lines of a source
abbrev pub flagged_lines : Reading → List Flagged
flagged_lines source = flagged_from source.cut (at_first (redefined_by source)) (lines_of source.text)

-- after: the line directly before is an Instruction or a Pad
abbrev pub class_at : Bool → Flagged → Class
class_at after line = if line.alone then Other else class_of after line.bytes
