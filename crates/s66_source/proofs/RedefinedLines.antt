-- A printed source redefines what its source does.
use Rattle.std.proofs.Common.{◌≡◌, ◌≤◌, ◌||◌, ◌++◌, ◌-◌, ℕ, suc, Bool, true, false, true≢false, if◌then◌else◌, Option, None, Some, List, [], ◌∷◌, codes, get_or, length, map, is_some, refl, sym, ap}
use Rattle.std.proofs.Common.{ap₂, subst, ◌∙◌, inl, inr, arith, append_assoc, filter, append-nil}
use Rattle.std.proofs.lemmas.Bool.{and_parts}
use Rattle.s66_isa.specs.{Among, every, instr_at, Instr}
use Rattle.s66_line.specs.{Block, bytes_of, instrs_of, class_of, class_of_operand, is_code, is_located, is_pad, whole_instr, ends_run, body, continues, from_operation, is_comment, is_return}
use Rattle.s66_line.specs.{is_trailing, lines_of, trim, operation_in, operation_of, Class, Comment, Other, Refused, Pad, Instruction}
use Rattle.s66_line.proofs.Wholes.{AreLines-lines_of, is_inside}
use Rattle.s66_source.specs.{indented_lines, indents, line_start, is_one_of, Flagged, Reading, at_first, class_at, flagged_lines, redefined_by, Placed, copied_line, notes_text, report, Redefined}
use Rattle.s66_source.specs.{defined_by, forming, own_operation, redefined_in, renaming, is_short, AreGiven, anew_text, begins, line_text, owner, printed_in, replaced, text_for, texts_of}
use Rattle.s66_source.specs.{is_comment_class, is_note_of, Line, blocks_of, classed_lines, classes_from, label_after, place_after, run_after}
use Rattle.s66_source.specs.declared.columns.Columns.{Columns}
use Rattle.s66_source.proofs.DefinedNames.{AreLong, defined_by-append, forming-long, nothing-more, renaming-long}
use Rattle.s66_source.proofs.FlaggedLines.{bytes-flagged}
use Rattle.s66_source.proofs.FarOperands.{read-start}
use Rattle.s66_source.proofs.LineTexts.{other-text, text_at}
use Rattle.s66_source.proofs.PrintedLines.{bytes-classed}
use Rattle.s66_source.proofs.ReadBack.{lines_of-line, trim-twice}
use Rattle.s66_source.proofs.ReadBlock.{IsPrintable, IsSoundBlock, printable-at}
use Rattle.s66_source.proofs.ReadComments.{ArePlainComments, Comments, comments-report, with_newlines, note-comment}
use Rattle.s66_source.proofs.ReadLine.{IsLabel, every-trimmed, inside-start}
use Rattle.s66_source.proofs.SoundBlocks.{AllTexts, AreWithin, all-texts, sound-source}
use Rattle.s66_source.proofs.Classes.{code-operation, code-pad, may_be_code}

-- WHAT A TEXT OF WHOLE LINES DEFINES by these operations, whatever follows it

abbrev defined_in : List (List ℕ) → List ℕ → List (List ℕ)
defined_in names text = defined_by names (map body (lines_of text))

abbrev Defines : List (List ℕ) → List ℕ → List (List ℕ) → Type 0
Defines names text found = (more : List ℕ) → defined_in names (text ++ more) ≡ found ++ defined_in names more

defines-both : (names : List (List ℕ)) (first second : List ℕ) (here there : List (List ℕ)) → Defines names first here → Defines names second there → Defines names (first ++ second) (here ++ there)
defines-both names first second here there p q more =
    ap (defined_in names) (append_assoc first second more) ∙ p (second ++ more) ∙ ap (λ found. here ++ found) (q more) ∙ sym (append_assoc here there (defined_in names more))

defines-line : (names : List (List ℕ)) (line : List ℕ) → every is_inside line ≡ true → Defines names (line ++ codes "\n") (defined_by names (body line ∷ []))
defines-line names line inside more =
    ap (λ lines. defined_by names (map body lines)) (ap lines_of (append_assoc line (10 ∷ []) more) ∙ lines_of-line line more inside)
    ∙ defined_by-append names (body line ∷ []) (map body (lines_of more))

-- nothing
abbrev IsSilent : List (List ℕ) → List ℕ → Type 0
IsSilent names text = Defines names text []

silent-nothing : (names : List (List ℕ)) → IsSilent names []
silent-nothing names more = refl

silent-line : (names : List (List ℕ)) (line : List ℕ) → every is_inside line ≡ true → is_one_of names (own_operation (body line)) ≡ false → IsSilent names (line ++ codes "\n")
silent-line names line inside none = subst (Defines names (line ++ codes "\n")) (nothing-more names (body line) none) (defines-line names line inside)

-- OPERATIONS of lines that aren't Other are short

code-short : (word : List ℕ) → may_be_code word ≡ true → length word ≤ 3
code-short [] h = omega arith
code-short (a ∷ []) h = omega arith
code-short (a ∷ b ∷ []) h = omega arith
code-short (a ∷ b ∷ c ∷ []) h = omega arith
code-short (a ∷ b ∷ c ∷ d ∷ more) h = absurd (true≢false (sym h))

short-by : (comment comma after pad known located : Bool) (n : Option Instr) (word : List ℕ) → (pad ≡ true → length word ≤ 3) → (known ≡ true → length word ≤ 3) →
    ends_run (if comment then Comment else (if comma then (if after then Refused else Other) else (if pad then Pad located else (if known then class_of_operand located n else Other)))) ≡ false →
    length (if comment || comma then [] else word) ≤ 3
short-by true comma after pad known located n word by_pad by_known h = omega arith
short-by false true after pad known located n word by_pad by_known h = omega arith
short-by false false after true known located n word by_pad by_known h = by_pad refl
short-by false false after false true located n word by_pad by_known h = by_known refl
short-by false false after false false located n word by_pad by_known h = absurd (true≢false h)

class-short : (after : Bool) (line : List ℕ) → ends_run (class_of after line) ≡ false → length (own_operation (body line)) ≤ 3
class-short after line h =
    let there : List ℕ = body line in
    let bytes : List ℕ = from_operation there in
    short-by (is_comment there) (continues there) after (is_pad (operation_in bytes)) (is_some (operation_of (operation_in bytes))) (is_located there) (whole_instr bytes) (operation_in bytes)
    (λ pad. code-short (operation_in bytes) (code-pad (operation_in bytes) pad)) (λ known. code-short (operation_in bytes) (code-operation (operation_in bytes) known)) h

comment-short : (line : List ℕ) → is_comment line ≡ true → length (own_operation line) ≤ 3
comment-short line h = rw h (omega arith)

-- LINES WITH THEIR CLASSES, whichever of them are left alone

record IsClassed (l : Line) : Type 0 where
  after : Bool
  alone : Bool
  class : l.class ≡ class_at after (record { alone = alone; bytes = l.bytes })
  inside : every is_inside l.bytes ≡ true

abbrev AreClassed : List Line → Type 0
AreClassed [] = Unit {0}
AreClassed (l ∷ lines) = IsClassed l × AreClassed lines

classed : (lines : List Flagged) (number run index : ℕ) (label : List ℕ) (after : Bool) → every (every is_inside) (map (λ (m : Flagged). m.bytes) lines) ≡ true → AreClassed (classes_from number run index label after lines)
classed [] number run index label after inside = tt
classed (m ∷ lines) number run index label after inside =
    let c : Class = class_at after m in
    let both = and_parts (every is_inside m.bytes) (every (every is_inside) (map (λ (m : Flagged). m.bytes) lines)) inside in (
      record { after = after; alone = m.alone; class = refl; inside = both.0 },
      classed lines (suc number) (run_after run c) (place_after index c) (label_after label c m.bytes) (is_code c) both.1,
    )

-- unless a line is Other, it defines nothing
quiet-class : (names : List (List ℕ)) (after alone : Bool) (line : List ℕ) → AreLong names → ends_run (class_at after (record { alone = alone; bytes = line })) ≡ false → is_one_of names (own_operation (body line)) ≡ false
quiet-class names after true line long h = absurd (true≢false h)
quiet-class names after false line long h = long (own_operation (body line)) (class-short after line h)

quiet : (names : List (List ℕ)) (l : Line) → AreLong names → IsClassed l → ends_run l.class ≡ false → is_one_of names (own_operation (body l.bytes)) ≡ false
quiet names l long is h = quiet-class names is.after is.alone l.bytes long (sym (ap ends_run is.class) ∙ h)

inside-body : (l : Line) → IsClassed l → every is_inside (body l.bytes) ≡ true
inside-body l is = every-trimmed is_inside is_return l.bytes is.inside

defines-copied : (names : List (List ℕ)) (l : Line) → IsClassed l → Defines names (copied_line l) (defined_by names (body l.bytes ∷ []))
defines-copied names l is =
    subst (λ line. Defines names (copied_line l) (defined_by names (line ∷ []))) (trim-twice is_return l.bytes) (defines-line names (body l.bytes) (inside-body l is))

silent-copied : (names : List (List ℕ)) (l : Line) → AreLong names → IsClassed l → ends_run l.class ≡ false → IsSilent names (copied_line l)
silent-copied names l long is h = subst (Defines names (copied_line l)) (nothing-more names (body l.bytes) (quiet names l long is h)) (defines-copied names l is)

-- COMMENTS define nothing

silent-comments : (names : List (List ℕ)) (cut : Bool) (text : List ℕ) → AreLong names → Comments cut text → IsSilent names text
silent-comments names cut text long comments = subst (IsSilent names) (sym comments.whole) (by_line comments.lines comments.are)
  where
    by_line : (lines : List (List ℕ)) → ArePlainComments cut lines → IsSilent names (with_newlines lines)
    by_line [] are = silent-nothing names
    by_line (line ∷ lines) are =
        defines-both names (line ++ codes "\n") (with_newlines lines) [] []
        (silent-line names line are.0.1 (long (own_operation (body line)) (comment-short (body line) are.0.2))) (by_line lines are.1)

no-other : (c : Class) → is_comment_class c ≡ true → ends_run c ≡ false
no-other Comment h = refl
no-other Other h = absurd (true≢false (sym h))
no-other Refused h = refl
no-other (Pad located) h = refl
no-other (Instruction located i) h = refl

silent-notes : (names : List (List ℕ)) (block : Block) (lines : List Line) → AreLong names → AreClassed lines → IsSilent names (notes_text block lines)
silent-notes names block [] long are = silent-nothing names
silent-notes names block (l ∷ lines) long are =
    defines-both names (if is_note_of l block then copied_line l else []) (notes_text block lines) [] [] (by_note (is_note_of l block) refl) (silent-notes names block lines long are.1)
  where
    by_note : (t : Bool) → is_note_of l block ≡ t → IsSilent names (if t then copied_line l else [])
    by_note true stated = silent-copied names l long are.0 (no-other l.class (note-comment l block stated))
    by_note false stated = silent-nothing names

-- INSTRUCTIONS define nothing

silent-instructions : (names : List (List ℕ)) (cut : Bool) (known : Redefined) (blanks : List ℕ) (block : Block) (label : List ℕ) (ns : List ℕ) → AreLong names → IsLabel label → ((n : ℕ) → Among n ns → IsPrintable cut known blanks block n) →
    IsSilent names (indented_lines blanks block label ns)
silent-instructions names cut known blanks block label [] long is sound = silent-nothing names
silent-instructions names cut known blanks block label (n ∷ ns) long is sound =
    let bytes : List ℕ = bytes_of block n in
    let line : List ℕ = line_start label (get_or blanks (n - 1) 0) ++ trim is_trailing bytes in
    let here = sound n (inl refl) in
    let stated = (read-start cut label (get_or blanks (n - 1) 0) bytes (instr_at (instrs_of block) n) is here.1 here.0.0).classed false in
    defines-both names (line ++ codes "\n") (indented_lines blanks block [] ns) [] []
    (silent-line names line (inside-start label (get_or blanks (n - 1) 0) bytes is.1 here.0.1) (long (own_operation (body line)) (class-short false line (ap ends_run stated))))
    (silent-instructions names cut known blanks block [] ns long (refl, refl) (λ m among. sound m (inr among)))

-- BLOCKS define nothing

silent-block : (names : List (List ℕ)) (cut quiet : Bool) (columns : Columns) (known : Redefined) (all : List Line) → AreLong names → AreClassed all → (n : ℕ) (block : Block) (p : Placed) → IsSoundBlock cut known columns all block → AreWithin block p.order →
    IsSilent names (anew_text quiet columns all n block p)
silent-block names cut quiet columns known all long are n block p is within =
    let blanks : List ℕ = indents columns all block in
    let told : List ℕ = if quiet then [] else report n (length block.entries) p in
    let silent : IsSilent names told =
    elim quiet as (λ t. IsSilent names (if t then [] else report n (length block.entries) p))
    [ true ↦ silent-nothing names | false ↦ silent-comments names false (report n (length block.entries) p) long (comments-report false n (length block.entries) p) ] in
    defines-both names (told ++ notes_text block all) (indented_lines blanks block block.label p.order) [] []
    (defines-both names told (notes_text block all) [] [] silent (silent-notes names block all long are))
    (silent-instructions names cut known blanks block block.label p.order long is.label (λ k among. printable-at cut known columns all block k is (within k among)))

-- ALL LINES

abbrev bodies_of : List Line → List (List ℕ)
bodies_of lines = map body (map (λ (l : Line). l.bytes) lines)

other-is : (c : Class) → ends_run c ≡ true → c ≡ Other
other-is Other h = refl
other-is Comment h = absurd (true≢false (sym h))
other-is Refused h = absurd (true≢false (sym h))
other-is (Pad located) h = absurd (true≢false (sym h))
other-is (Instruction located i) h = absurd (true≢false (sym h))

module _ (names : List (List ℕ)) (all : List Line) (texts : List (Option (List ℕ))) (long : AreLong names) (silent : AllTexts (IsSilent names) texts) where
  -- what is printed for a line
  defines-text : (l : Line) → IsClassed l → Defines names (text_at all texts l) (defined_by names (body l.bytes ∷ []))
  defines-text l is = by_other (ends_run l.class) refl
    where
      kept : text_at all texts l ≡ copied_line l → Defines names (text_at all texts l) (defined_by names (body l.bytes ∷ []))
      kept same = subst (λ text. Defines names text (defined_by names (body l.bytes ∷ []))) (sym same) (defines-copied names l is)

      by_first : (first : Bool) (text : List ℕ) → IsSilent names text → IsSilent names (if first then text else [])
      by_first true text h = h
      by_first false text h = silent-nothing names

      by_text : (text : Option (List ℕ)) → text_for texts (owner all l) ≡ text → ends_run l.class ≡ false → Defines names (text_at all texts l) (defined_by names (body l.bytes ∷ []))
      by_text None stated code = kept (ap (λ text. line_text (begins all l) text l) stated)
      by_text (Some text) stated code =
          subst (Defines names (text_at all texts l)) (sym (nothing-more names (body l.bytes) (quiet names l long is code)))
          (subst (IsSilent names) (sym (ap (λ text. line_text (begins all l) text l) stated)) (by_first (begins all l) text (silent (owner all l) text stated)))

      by_other : (other : Bool) → ends_run l.class ≡ other → Defines names (text_at all texts l) (defined_by names (body l.bytes ∷ []))
      by_other true stated = kept (other-text all texts l (other-is l.class stated))
      by_other false stated = by_text (text_for texts (owner all l)) refl stated

  defines-all : (lines : List Line) → AreClassed lines → Defines names (replaced all texts lines) (defined_by names (bodies_of lines))
  defines-all [] are = silent-nothing names
  defines-all (l ∷ lines) are =
      subst (Defines names (replaced all texts (l ∷ lines))) (sym (defined_by-append names (body l.bytes ∷ []) (bodies_of lines)))
      (defines-both names (text_at all texts l) (replaced all texts lines) (defined_by names (body l.bytes ∷ [])) (defined_by names (bodies_of lines)) (defines-text l are.0) (defines-all lines are.1))

-- A WHOLE SOURCE

-- its lines have the bytes of the text's
bodies-source : (source : Reading) → bodies_of (classed_lines source) ≡ map body (lines_of source.text)
bodies-source source = ap (map body) (bytes-classed (flagged_lines source) 1 0 0 [] false ∙ bytes-flagged source.cut (at_first (redefined_by source)) (lines_of source.text))

classed-source : (source : Reading) → AreClassed (classed_lines source)
classed-source source =
    classed (flagged_lines source) 1 0 0 [] false
    (ap (every (every is_inside)) (bytes-flagged source.cut (at_first (redefined_by source)) (lines_of source.text)) ∙ (AreLines-lines_of source.text).no_newline)

defined-printed : (names : List (List ℕ)) (quiet : Bool) (columns : Columns) (source : Reading) (given : List (Option Placed)) → AreLong names → AreGiven (blocks_of (classed_lines source)) given →
    defined_in names (printed_in quiet columns source given) ≡ defined_in names source.text
defined-printed names quiet columns source given long within =
    let all : List Line = classed_lines source in
    let are : AreClassed all = classed-source source in
    let texts : List (Option (List ℕ)) = texts_of quiet columns all 1 (blocks_of all) given in
    let silent : AllTexts (IsSilent names) texts =
    all-texts source.cut quiet columns (redefined_by source) all (IsSilent names) (silent-block names source.cut quiet columns (redefined_by source) all long are) (blocks_of all) given (sound-source columns source) within in
    ap (defined_in names) (sym (append-nil (replaced all texts all)))
    ∙ defines-all names all texts long silent all are []
    ∙ append-nil (defined_by names (bodies_of all))
    ∙ ap (defined_by names) (bodies-source source)

pub redefined-printed : (quiet : Bool) (columns : Columns) (source : Reading) (given : List (Option Placed)) → AreGiven (blocks_of (classed_lines source)) given →
    redefined_in (lines_of (printed_in quiet columns source given)) ≡ redefined_in (lines_of source.text)
redefined-printed quiet columns source given within =
    ap₂ (λ operations forms. record { operations = filter is_short operations; forms = forms })
    (defined-printed renaming quiet columns source given renaming-long within) (defined-printed forming quiet columns source given forming-long within)
