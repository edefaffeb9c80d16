-- Letters in upper case leave the classes of lines, and so the blocks of a source, as they are.
use Rattle.std.proofs.Common.{◌≡◌, ◌==◌, ℕ, suc, Bool, true, false, cond, if◌then◌else◌, List, [], ◌∷◌, ◌++◌, map, refl, sym, ap, ap₂, ◌∙◌, lit<, Option, None, Some}
use Rattle.s66_line.specs.{last_line, lines_from, lines_of, upper, body, from_operation, label_bytes, Entry, Block, is_instruction, is_code, begins_run, ends_run, instr_in, Class}
use Rattle.s66_line.proofs.UpperCase.{kept, upper-append, length-upper, upper-trim, upper-if, upper-from_operation, upper-label_bytes}
use Rattle.s66_source.specs.{Reading, Flagged, at_first, class_at, flagged_from, flagged_lines, redefined_by, nothing_redefined, redefined_in, Line, run_at, run_after, place_at, place_after, label_at}
use Rattle.s66_source.specs.{label_after, classes_from, classed_lines, refusal_at, refusal, instructions, begins_block, put_before, parts_of, entry_of, label_in, block_of, blocks_of, unless_refused}
use Rattle.s66_source.specs.{source_of, upper_entry, upper_block, upper_read, SourceError}
use Rattle.s66_source.proofs.RedefinedCase.{redefined-upper_lines}
use Rattle.s66_source.proofs.UpperSwitches.{upper_flagged, same-class_at, upper-flagged}

-- LINES

upper-last : (line : List ℕ) → last_line (upper line) ≡ map upper (last_line line)
upper-last [] = refl
upper-last (b ∷ line) = refl

map-if : (t : Bool) (lines more : List (List ℕ)) → map upper (if t then lines else more) ≡ (if t then map upper lines else map upper more)
map-if true lines more = refl
map-if false lines more = refl

upper-lines : (line text : List ℕ) → lines_from (upper line) (upper text) ≡ map upper (lines_from line text)
upper-lines line [] = upper-last line
upper-lines line (b ∷ text) =
    rw (map-if (b == 10) (line ∷ lines_from [] text) (lines_from (line ++ b ∷ []) text), kept b 10 (lit< tt), ← upper-lines [] text, ← upper-lines (line ++ b ∷ []) text, upper-append line (b ∷ [])) refl

-- a line with its bytes and its label in upper case
abbrev upper_line : Line → Line
upper_line l = record { number = l.number; bytes = upper l.bytes; class = l.class; run = l.run; index = l.index; label = upper l.label }

same-label_at : (label : List ℕ) (c : Class) (line : List ℕ) → label_at (upper label) c (upper line) ≡ upper (label_at label c line)
same-label_at label c line =
    ap (λ bytes. if begins_run c then bytes else upper label) (ap label_bytes (upper-trim line) ∙ upper-label_bytes (body line))
    ∙ sym (upper-if (begins_run c) (label_bytes (body line)) label)

same-label_after : (label : List ℕ) (c : Class) (line : List ℕ) → label_after (upper label) c (upper line) ≡ upper (label_after label c line)
same-label_after label c line =
    ap (λ bytes. if ends_run c then [] else bytes) (same-label_at label c line) ∙ sym (upper-if (ends_run c) [] (label_at label c line))

-- a classed line, and those after it
abbrev before_lines : ℕ → ℕ → ℕ → List ℕ → List Flagged → Class → List ℕ → List ℕ → List Line
before_lines number run index line lines c label after_label =
    record { number = number; bytes = line; class = c; run = run_at run c; index = place_at index c; label = label }
    ∷ classes_from (suc number) (run_after run c) (place_after index c) after_label (is_code c) lines

upper-classed : (lines : List Flagged) (number run index : ℕ) (label : List ℕ) (after : Bool) →
    classes_from number run index (upper label) after (map upper_flagged lines) ≡ map upper_line (classes_from number run index label after lines)
upper-classed [] number run index label after = refl
upper-classed (line ∷ lines) number run index label after =
    let c : Class = class_at after line in
    let bytes : List ℕ = line.bytes in
    let classes = ap (λ d. before_lines number run index (upper bytes) (map upper_flagged lines) d (label_at (upper label) d (upper bytes)) (label_after (upper label) d (upper bytes))) (same-class_at after line) in
    let labels = ap₂ (before_lines number run index (upper bytes) (map upper_flagged lines) c) (same-label_at label c bytes) (same-label_after label c bytes) in
    let rest = ap (λ ls. upper_line (record { number = number; bytes = bytes; class = c; run = run_at run c; index = place_at index c; label = label_at label c bytes }) ∷ ls)
    (upper-classed lines (suc number) (run_after run c) (place_after index c) (label_after label c bytes) (is_code c)) in
    classes ∙ labels ∙ rest

-- WHAT IS MADE OF THEM

same-refusal_at : (l : Line) → refusal_at (upper_line l) ≡ refusal_at l
same-refusal_at l = rw (length-upper l.bytes) refl

same-refusal : (lines : List Line) → refusal (map upper_line lines) ≡ refusal lines
same-refusal [] = refl
same-refusal (l ∷ lines) = rw (same-refusal_at l, same-refusal lines) refl

same-instructions : (lines : List Line) → instructions (map upper_line lines) ≡ map upper_line (instructions lines)
same-instructions [] = refl
same-instructions (l ∷ lines) =
    elim (is_instruction l.class) as (λ t. cond t (upper_line l ∷ instructions (map upper_line lines)) (instructions (map upper_line lines)) ≡ map upper_line (cond t (l ∷ instructions lines) (instructions lines)))
    [ true ↦ ap (λ ls. upper_line l ∷ ls) (same-instructions lines) | false ↦ same-instructions lines ]

same-put : (l : Line) (parts : List (List Line)) → put_before (upper_line l) (map (map upper_line) parts) ≡ map (map upper_line) (put_before l parts)
same-put l [] = refl
same-put l ([] ∷ parts) = refl
same-put l ((next ∷ more) ∷ parts) =
    elim (begins_block next) as (λ t.
    (if t then (upper_line l ∷ []) ∷ map (map upper_line) ((next ∷ more) ∷ parts) else (upper_line l ∷ map upper_line (next ∷ more)) ∷ map (map upper_line) parts)
    ≡ map (map upper_line) (if t then (l ∷ []) ∷ (next ∷ more) ∷ parts else (l ∷ next ∷ more) ∷ parts))
    [ true ↦ refl | false ↦ refl ]

same-parts_of : (lines : List Line) → parts_of (map upper_line lines) ≡ map (map upper_line) (parts_of lines)
same-parts_of [] = refl
same-parts_of (l ∷ lines) = ap (put_before (upper_line l)) (same-parts_of lines) ∙ same-put l (parts_of lines)

abbrev with_bytes : Line → List ℕ → Entry
with_bytes l bytes = record { instr = instr_in l.class; line = l.number; bytes = bytes }

abbrev with_label : List ℕ → List Entry → Block
with_label label entries = record { label = label; entries = entries }

same-entry : (l : Line) → entry_of (upper_line l) ≡ upper_entry (entry_of l)
same-entry l =
    let same : from_operation (body (upper l.bytes)) ≡ upper (from_operation (body l.bytes)) = ap from_operation (upper-trim l.bytes) ∙ upper-from_operation (body l.bytes) in
    ap (with_bytes l) same

same-entries : (lines : List Line) → map entry_of (map upper_line lines) ≡ map upper_entry (map entry_of lines)
same-entries [] = refl
same-entries (l ∷ lines) = ap₂ (λ e es. e ∷ es) (same-entry l) (same-entries lines)

same-label_in : (part : List Line) → label_in (map upper_line part) ≡ upper (label_in part)
same-label_in [] = refl
same-label_in (l ∷ lines) = sym (upper-if (l.index == 0) l.label [])

same-block : (part : List Line) → block_of (map upper_line part) ≡ upper_block (block_of part)
same-block part = ap₂ with_label (same-label_in part) (same-entries part)

same-each : (parts : List (List Line)) → map block_of (map (map upper_line) parts) ≡ map upper_block (map block_of parts)
same-each [] = refl
same-each (part ∷ parts) = ap₂ (λ b bs. b ∷ bs) (same-block part) (same-each parts)

same-blocks : (lines : List Line) → blocks_of (map upper_line lines) ≡ map upper_block (blocks_of lines)
same-blocks lines =
    ap (λ ls. map block_of (parts_of ls)) (same-instructions lines)
    ∙ ap (map block_of) (same-parts_of (instructions lines))
    ∙ same-each (parts_of (instructions lines))

-- its text in upper case
abbrev upper_text : Reading → Reading
upper_text source = record { cut = source.cut; text = upper source.text }

same-redefined : (source : Reading) → redefined_by (upper_text source) ≡ redefined_by source
same-redefined source = ap (λ known. if source.cut then known else nothing_redefined) (ap redefined_in (upper-lines [] source.text) ∙ redefined-upper_lines (lines_of source.text))

same-lines : (source : Reading) → classed_lines (upper_text source) ≡ map upper_line (classed_lines source)
same-lines source =
    ap (λ lines. classes_from 1 0 0 [] false (flagged_from source.cut (at_first (redefined_by (upper_text source))) lines)) (upper-lines [] source.text)
    ∙ ap (λ known. classes_from 1 0 0 [] false (flagged_from source.cut (at_first known) (map upper (lines_of source.text)))) (same-redefined source)
    ∙ ap (classes_from 1 0 0 [] false) (upper-flagged source.cut (at_first (redefined_by source)) (lines_of source.text))
    ∙ upper-classed (flagged_lines source) 1 0 0 [] false

same-read : (e : Option SourceError) (blocks : List Block) → unless_refused e (map upper_block blocks) ≡ upper_read (unless_refused e blocks)
same-read None blocks = refl
same-read (Some e) blocks = refl

same-source : (source : Reading) → source_of (upper_text source) ≡ upper_read (source_of source)
same-source source =
    ap (λ ls. unless_refused (refusal ls) (blocks_of ls)) (same-lines source)
    ∙ ap₂ unless_refused (same-refusal (classed_lines source)) (same-blocks (classed_lines source))
    ∙ same-read (refusal (classed_lines source)) (blocks_of (classed_lines source))

pub either_case : (source other : Reading) → source.cut ≡ other.cut → upper source.text ≡ upper other.text → upper_read (source_of source) ≡ upper_read (source_of other)
either_case source other same e = sym (same-source source) ∙ ap₂ (λ cut text. source_of (record { cut = cut; text = text })) same e ∙ same-source other
