-- The comments `*S66 OFF` and `*S66 ON` around each line that `--cut` leaves alone do without it what it does.
use Rattle.std.proofs.Common.{◌≡◌, ◌||◌, ◌==◌, ℕ, suc, Bool, true, false, not, cond, if◌then◌else◌, List, [], ◌∷◌, ◌++◌, codes, map, refl, sym, ap, ap₂, ◌∙◌, Ok}
use Rattle.std.proofs.lemmas.Bool.{and_parts, and_from, or_parts}
use Rattle.s66_isa.specs.{every}
use Rattle.s66_line.specs.{Entry, Block, by_operation, class_of, is_code, is_instruction, is_located, body, continues, is_comment, is_newline, lines_of, with_newlines, from_operation, Class, Comment}
use Rattle.s66_line.specs.{Other, Refused, Pad, Instruction}
use Rattle.s66_line.proofs.Wholes.{AreLines-lines_of}
use Rattle.s66_source.specs.{Flagged, after_line, at_first, flagged_from, flagged_lines, is_alone, is_continued, is_held, is_doubtful, is_off_switch, is_on_switch, plain, Redefined, nothing_redefined}
use Rattle.s66_source.specs.{redefined_in, Line, begins_block, block_of, classed_lines, classes_from, entry_of, instructions, label_after, label_at, parts_of, place_after, place_at, put_before}
use Rattle.s66_source.specs.{run_after, run_at, source_of, Standing}
use Rattle.s66_source.proofs.FlaggedLines.{bytes-flagged}
use Rattle.s66_source.proofs.PrintedLines.{accepted-is}
use Rattle.s66_source.proofs.ReadBack.{lines_of-line}
use Rattle.s66_lint.specs.{between_switches, switched, switched_lines, unnumbered, unnumbered_entry, is_refused}

abbrev off_line : List ℕ
off_line = codes "*S66 OFF"

abbrev on_line : List ℕ
on_line = codes "*S66 ON"

abbrev bytes_of : List Flagged → List (List ℕ)
bytes_of lines = map (λ (m : Flagged). m.bytes) lines

-- WHICH LINES ARE LEFT ALONE

-- a line that isn't left alone is no switch OFF
no-switch : (s : Standing) (line : List ℕ) (continued : Bool) → is_alone true s line continued ≡ false → is_off_switch (body line) ≡ false
no-switch s line continued h =
    let (not_held, _) = or_parts (is_held true s line continued) (is_doubtful s.redefined (class_of true line) (body line)) h in
    let (_, more) = or_parts s.off _ not_held in
    (or_parts (is_off_switch (body line)) _ more).0

-- what stands at first where nothing is redefined
abbrev pub at_plain : Standing
at_plain = at_first nothing_redefined

-- what stands outside of definitions and counts, after a switch or not
abbrev pub standing : Bool → Standing
standing off = record at_plain { off = off }

-- after the line, by whether it is a switch ON
after-on : (on : Bool) (more : List (List ℕ)) →
    flagged_from false (standing (if on then false else true)) (on_line ∷ more) ≡ record { alone = not on; bytes = on_line } ∷ flagged_from false at_plain more
after-on true more = refl
after-on false more = refl

-- after a line that isn't left alone, by whether it is a switch ON or OFF
after-plain : (on off : Bool) (line : List ℕ) (more : List (List ℕ)) → off ≡ false →
    record { alone = (off || false) || false; bytes = line } ∷ flagged_from false (standing (if on then false else off)) more
    ≡ record { alone = false; bytes = line } ∷ flagged_from false at_plain more
after-plain true false line more h = refl
after-plain false false line more h = refl
after-plain on true line more h = cc

-- one line more, by whether it is left alone
flags-line : (alone : Bool) (s : Standing) (line : List ℕ) (continued : Bool) (rest : List Flagged) → is_alone true s line continued ≡ alone → flagged_from false at_plain (bytes_of rest) ≡ rest →
    flagged_from false at_plain (bytes_of (between_switches (record { alone = alone; bytes = line }) ++ rest)) ≡ between_switches (record { alone = alone; bytes = line }) ++ rest
flags-line true s line continued rest is same =
    ap (λ ls. record { alone = true; bytes = off_line } ∷ record { alone = true; bytes = line } ∷ ls)
    (after-on (is_on_switch (body line)) (bytes_of rest) ∙ ap (λ ls. record { alone = not (is_on_switch (body line)); bytes = on_line } ∷ ls) same)
flags-line false s line continued rest is same =
    after-plain (is_on_switch (body line)) (is_off_switch (body line)) line (bytes_of rest) (no-switch s line continued is)
    ∙ ap (λ ls. record { alone = false; bytes = line } ∷ ls) same

flags-from : (s : Standing) (lines : List (List ℕ)) →
    flagged_from false at_plain (bytes_of (switched_lines (flagged_from true s lines))) ≡ switched_lines (flagged_from true s lines)
flags-from s [] = refl
flags-from s (line ∷ lines) = flags-line (is_alone true s line (is_continued lines)) s line (is_continued lines) _ refl (flags-from (after_line true s line) lines)

-- THE TEXT has these lines

abbrev pub is_one_line : List ℕ → Bool
is_one_line line = every (λ b. not (is_newline b)) line

pub lines_of-with_newlines : (lines : List (List ℕ)) → every is_one_line lines ≡ true → lines_of (with_newlines lines) ≡ lines
lines_of-with_newlines [] h = refl
lines_of-with_newlines (line ∷ lines) h =
    let (here, rest) = and_parts (is_one_line line) (every is_one_line lines) h in
    lines_of-line line (with_newlines lines) here ∙ ap (λ ls. line ∷ ls) (lines_of-with_newlines lines rest)

one-line-more : (alone : Bool) (line : List ℕ) (rest : List Flagged) → is_one_line line ≡ true → every is_one_line (bytes_of rest) ≡ true →
    every is_one_line (bytes_of (between_switches (record { alone = alone; bytes = line }) ++ rest)) ≡ true
one-line-more true line rest here h = and_from (is_one_line line) (every is_one_line (on_line ∷ bytes_of rest)) here h
one-line-more false line rest here h = and_from (is_one_line line) (every is_one_line (bytes_of rest)) here h

one-line-each : (lines : List Flagged) → every is_one_line (bytes_of lines) ≡ true → every is_one_line (bytes_of (switched_lines lines)) ≡ true
one-line-each [] h = refl
one-line-each (line ∷ lines) h =
    let (here, rest) = and_parts (is_one_line line.bytes) (every is_one_line (bytes_of lines)) h in
    one-line-more line.alone line.bytes (switched_lines lines) here (one-line-each lines rest)

pub same-flags : (text : List ℕ) → flagged_lines (plain (switched text)) ≡ switched_lines (flagged_lines (record { cut = true; text = text }))
same-flags text =
    let flags : List Flagged = flagged_lines (record { cut = true; text = text }) in
    let one : every is_one_line (bytes_of flags) ≡ true = ap (every is_one_line) (bytes-flagged true (at_first (redefined_in (lines_of text))) (lines_of text)) ∙ (AreLines-lines_of text).no_newline in
    ap (flagged_from false at_plain) (lines_of-with_newlines (bytes_of (switched_lines flags)) (one-line-each flags one)) ∙ flags-from (at_first (redefined_in (lines_of text))) (lines_of text)

-- THE CLASS of a line that isn't left alone is the same after each line, and not Refused

same-by : (after comment comma : Bool) (c : Class) → is_refused (if comment then Comment else (if comma then Refused else c)) ≡ false →
    (if comment then Comment else (if comma then (if after then Refused else Other) else c)) ≡ (if comment then Comment else (if comma then Refused else c))
same-by after true comma c h = refl
same-by after false true c h = cc
same-by after false false c h = refl

same-class : (after : Bool) (line : List ℕ) → is_refused (class_of true line) ≡ false → class_of after line ≡ class_of true line
same-class after line h =
    same-by after (is_comment (body line)) (continues (body line)) (by_operation (is_located (body line)) (from_operation (body line))) h

not-refused : (s : Standing) (line : List ℕ) (continued : Bool) → is_alone true s line continued ≡ false → is_refused (class_of true line) ≡ false
not-refused s line continued h = undoubted s.redefined (class_of true line) (body line) (or_parts (is_held true s line continued) (is_doubtful s.redefined (class_of true line) (body line)) h).1
  where
    undoubted : (known : Redefined) (c : Class) (line : List ℕ) → is_doubtful known c line ≡ false → is_refused c ≡ false
    undoubted known Comment line h = refl
    undoubted known Other line h = refl
    undoubted known Refused line h = cc
    undoubted known (Pad located) line h = refl
    undoubted known (Instruction located n) line h = refl

-- NO LINE IS REFUSED

abbrev is_taken : Line → Bool
is_taken line = not (is_refused line.class)

-- the class of the second comment, by whether a switch ON is before it
second-taken : (on after : Bool) → not (is_refused (if not on then Other else class_of after on_line)) ≡ true
second-taken true after = refl
second-taken false after = refl

-- all lines are taken, wherever they stand
abbrev AreTaken : List Flagged → Type 0
AreTaken lines = (number run index : ℕ) (label : List ℕ) (after : Bool) → every is_taken (classes_from number run index label after lines) ≡ true

taken-line : (alone : Bool) (s : Standing) (line : List ℕ) (continued : Bool) (rest : List Flagged) → is_alone true s line continued ≡ alone → AreTaken rest →
    AreTaken (between_switches (record { alone = alone; bytes = line }) ++ rest)
taken-line true s line continued rest is h number run index label after =
    and_from (not (is_refused (if not (is_on_switch (body line)) then Other else class_of false on_line))) _ (second-taken (is_on_switch (body line)) false) (h _ _ _ _ _)
taken-line false s line continued rest is h number run index label after =
    let none : is_refused (class_of true line) ≡ false = not-refused s line continued is in
    and_from (not (is_refused (class_of after line))) _ (ap (λ c. not (is_refused c)) (same-class after line none) ∙ ap not none) (h _ _ _ _ _)

all-taken : (s : Standing) (lines : List (List ℕ)) → AreTaken (switched_lines (flagged_from true s lines))
all-taken s [] = λ number run index label after. refl
all-taken s (line ∷ lines) =
    taken-line (is_alone true s line (is_continued lines)) s line (is_continued lines) (switched_lines (flagged_from true (after_line true s line) lines)) refl (all-taken (after_line true s line) lines)

pub taken : (text : List ℕ) → every is_taken (classed_lines (plain (switched text))) ≡ true
taken text = ap (λ lines. every is_taken (classes_from 1 0 0 [] false lines)) (same-flags text) ∙ all-taken (at_first (redefined_in (lines_of text))) (lines_of text) 1 0 0 [] false

-- THE INSTRUCTIONS, but for the numbers of their lines and runs

abbrev unnumbered_line : Line → Line
unnumbered_line l = record { number = 0; bytes = l.bytes; class = l.class; run = 0; index = l.index; label = l.label }

abbrev code_from : ℕ → ℕ → ℕ → List ℕ → Bool → List Flagged → List Line
code_from number run index label after lines = map unnumbered_line (instructions (classes_from number run index label after lines))

-- a line and those after it
with-line : (is : Bool) (l m : Line) (ls ms : List Line) → unnumbered_line l ≡ unnumbered_line m → map unnumbered_line ls ≡ map unnumbered_line ms →
    map unnumbered_line (cond is (l ∷ ls) ls) ≡ map unnumbered_line (cond is (m ∷ ms) ms)
with-line true l m ls ms here rest = ap₂ (λ k ks. k ∷ ks) here rest
with-line false l m ls ms here rest = rest

-- the code of a line of this class and of those after it
abbrev code_by : ℕ → ℕ → ℕ → List ℕ → Class → List ℕ → List Flagged → List Line
code_by number run index label c line lines =
    map unnumbered_line (instructions (record { number = number; bytes = line; class = c; run = run_at run c; index = place_at index c; label = label_at label c line }
    ∷ classes_from (suc number) (run_after run c) (place_after index c) (label_after label c line) (is_code c) lines))

-- two sources have the same code, with lines and runs of other numbers
abbrev HaveSameCode : (lines others : List Flagged) → Type 0
HaveSameCode lines others =
    (number run other_number other_run index : ℕ) (label : List ℕ) (after other_after : Bool) → code_from number run index label after lines ≡ code_from other_number other_run index label other_after others

-- after the second comment, by whether a switch ON is before it
second-same : (on : Bool) (rest : List Flagged) (others : List Flagged) → HaveSameCode rest others → (number run other_number other_run : ℕ) →
    code_from number run 0 [] false (record { alone = not on; bytes = on_line } ∷ rest) ≡ code_from other_number other_run 0 [] false others
second-same true rest others same number run other_number other_run = same (suc number) run other_number other_run 0 [] false false
second-same false rest others same number run other_number other_run = same (suc number) (suc run) other_number other_run 0 [] false false

class-same : (c : Class) (line : List ℕ) (rest others : List Flagged) → HaveSameCode rest others → (number run other_number other_run index : ℕ) (label : List ℕ) →
    code_by number run index label c line rest ≡ code_by other_number other_run index label c line others
class-same c line rest others same number run other_number other_run index label =
    with-line (is_instruction c)
    (record { number = number; bytes = line; class = c; run = run_at run c; index = place_at index c; label = label_at label c line })
    (record { number = other_number; bytes = line; class = c; run = run_at other_run c; index = place_at index c; label = label_at label c line })
    (instructions (classes_from (suc number) (run_after run c) (place_after index c) (label_after label c line) (is_code c) rest))
    (instructions (classes_from (suc other_number) (run_after other_run c) (place_after index c) (label_after label c line) (is_code c) others))
    refl
    (same (suc number) (run_after run c) (suc other_number) (run_after other_run c) (place_after index c) (label_after label c line) (is_code c) (is_code c))

line-same : (alone : Bool) (s : Standing) (line : List ℕ) (continued : Bool) (rest others : List Flagged) → is_alone true s line continued ≡ alone → HaveSameCode rest others →
    HaveSameCode (between_switches (record { alone = alone; bytes = line }) ++ rest) (record { alone = alone; bytes = line } ∷ others)
line-same true s line continued rest others is same number run other_number other_run index label after other_after =
    second-same (is_on_switch (body line)) rest others same (suc (suc number)) (suc (suc run)) (suc other_number) (suc other_run)
line-same false s line continued rest others is same number run other_number other_run index label after other_after =
    let none : is_refused (class_of true line) ≡ false = not-refused s line continued is in
    ap (λ c. code_by number run index label c line rest) (same-class after line none)
    ∙ class-same (class_of true line) line rest others same number run other_number other_run index label
    ∙ ap (λ c. code_by other_number other_run index label c line others) (sym (same-class other_after line none))

same-code : (s : Standing) (lines : List (List ℕ)) → HaveSameCode (switched_lines (flagged_from true s lines)) (flagged_from true s lines)
same-code s [] = λ number run other_number other_run index label after other_after. refl
same-code s (line ∷ lines) =
    let rest : List Flagged = flagged_from true (after_line true s line) lines in
    line-same (is_alone true s line (is_continued lines)) s line (is_continued lines) (switched_lines rest) rest refl (same-code (after_line true s line) lines)

-- THE BLOCKS of instructions

put-unnumbered : (l : Line) (parts : List (List Line)) → put_before (unnumbered_line l) (map (map unnumbered_line) parts) ≡ map (map unnumbered_line) (put_before l parts)
put-unnumbered l [] = refl
put-unnumbered l ([] ∷ parts) = refl
put-unnumbered l ((next ∷ more) ∷ parts) =
    elim (begins_block next) as (λ t.
    (if t then (unnumbered_line l ∷ []) ∷ map (map unnumbered_line) ((next ∷ more) ∷ parts) else (unnumbered_line l ∷ map unnumbered_line (next ∷ more)) ∷ map (map unnumbered_line) parts)
    ≡ map (map unnumbered_line) (if t then (l ∷ []) ∷ (next ∷ more) ∷ parts else (l ∷ next ∷ more) ∷ parts))
    [ true ↦ refl | false ↦ refl ]

parts-unnumbered : (lines : List Line) → parts_of (map unnumbered_line lines) ≡ map (map unnumbered_line) (parts_of lines)
parts-unnumbered [] = refl
parts-unnumbered (l ∷ lines) = ap (put_before (unnumbered_line l)) (parts-unnumbered lines) ∙ put-unnumbered l (parts_of lines)

entries-unnumbered : (lines : List Line) → map entry_of (map unnumbered_line lines) ≡ map unnumbered_entry (map entry_of lines)
entries-unnumbered [] = refl
entries-unnumbered (l ∷ lines) = ap (λ es. unnumbered_entry (entry_of l) ∷ es) (entries-unnumbered lines)

block-unnumbered : (part : List Line) → block_of (map unnumbered_line part) ≡ unnumbered (block_of part)
block-unnumbered [] = refl
block-unnumbered (l ∷ lines) = ap (λ (es : List Entry). record { label = if l.index == 0 then l.label else []; entries = es }) (entries-unnumbered (l ∷ lines))

each-unnumbered : (parts : List (List Line)) → map block_of (map (map unnumbered_line) parts) ≡ map unnumbered (map block_of parts)
each-unnumbered [] = refl
each-unnumbered (part ∷ parts) = ap₂ (λ b bs. b ∷ bs) (block-unnumbered part) (each-unnumbered parts)

blocks-unnumbered : (lines : List Line) → map block_of (parts_of (map unnumbered_line lines)) ≡ map unnumbered (map block_of (parts_of lines))
blocks-unnumbered lines = ap (map block_of) (parts-unnumbered lines) ∙ each-unnumbered (parts_of lines)

pub same-blocks : (text : List ℕ) (blocks again : List Block) → source_of (record { cut = true; text = text }) ≡ Ok blocks → source_of (plain (switched text)) ≡ Ok again → map unnumbered again ≡ map unnumbered blocks
same-blocks text blocks again accepted accepted_again =
    let code : List Flagged → List Line = λ lines. instructions (classes_from 1 0 0 [] false lines) in
    let flags : List Flagged = flagged_lines (record { cut = true; text = text }) in
    ap (map unnumbered) (sym (accepted-is (plain (switched text)) again accepted_again))
    ∙ ap (λ lines. map unnumbered (map block_of (parts_of (code lines)))) (same-flags text)
    ∙ sym (blocks-unnumbered (code (switched_lines flags)))
    ∙ ap (λ lines. map block_of (parts_of lines)) (same-code (at_first (redefined_in (lines_of text))) (lines_of text) 1 0 1 0 0 [] false false)
    ∙ blocks-unnumbered (code flags)
    ∙ ap (map unnumbered) (accepted-is (record { cut = true; text = text }) blocks accepted)
