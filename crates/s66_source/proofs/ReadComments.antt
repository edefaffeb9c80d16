-- The lines of a printed text read one by one; the report of a block and its notes change nothing.
use Rattle.std.specs.Fmt.{digits, digits_onto, digit_glyph}
use Rattle.std.proofs.Common.{◌≡◌, ◌+◌, ◌%◌, ◌/◌, ◌==◌, ◌&&◌, ℕ, zero, suc, Bool, true, false, if◌then◌else◌, List, [], ◌∷◌, ◌++◌, Option, None, Some, codes, decimal, length, refl, sym, ap, ap₂, ◌∙◌}
use Rattle.std.proofs.Common.{subst, arith, nat_le, nat_lt, append_assoc, Result, Ok, Err, ne_eqb, append-nil}
use Rattle.std.proofs.lemmas.Bool.{and_parts, and_right}
use Rattle.s66_isa.specs.{every}
use Rattle.s66_line.specs.{is_return, lines_of, body, is_comment, continues, from_operation, label_bytes, Block, line_of, class_of, is_located, by_operation, is_code, Class, Comment, Other, Refused}
use Rattle.s66_line.specs.{LINE_BYTES_LIMIT}
use Rattle.s66_line.proofs.Wholes.{is_inside, every-append}
use Rattle.s66_source.specs.{Line, run_after, place_after, label_after, classes_from, operand_refusal, Flagged, after_line, class_at, is_alone, is_continued, is_doubtful, flagged_from, Standing}
use Rattle.s66_source.specs.{is_comment_class, is_note_of, Placed, splits_line, bound_text, times_text, report, copied_line, notes_text, SourceState, with_open, count_line, by_class, line_step}
use Rattle.s66_source.specs.{lines_step, and_then, read_from, SOURCE_LINES_LIMIT, SourceError, LineTooLong, TooLarge}
use Rattle.s66_source.proofs.FlaggedLines.{same-alone}
use Rattle.s66_source.proofs.ReadBack.{trim-twice, lines_of-line}
use Rattle.s66_source.proofs.ReadStanding.{flagged_at, is_holding, is_flagged, taken, not-alone, alone-body, after-body, flagged-body, class_at-body, continues-body, comment-stays, IsQuiet, goes_on}
use Rattle.s66_source.proofs.ReadStanding.{goes-line}
use Rattle.s66_source.proofs.ReadLine.{every-trimmed}
use Rattle.s66_source.proofs.ReaderBlocks.{then-then}
use Rattle.s66_source.proofs.Classes.{class-tells}

-- a text read after what stands
abbrev pub read_at : Bool → Standing → SourceState → List ℕ → Result (List Block) SourceError
read_at cut s t text = read_from t (flagged_from cut s (lines_of text))

-- the same text is read alike
pub read-as : (cut : Bool) (s : Standing) (t : SourceState) (first second : List ℕ) (again : List Block) → first ≡ second → read_at cut s t first ≡ Ok again → read_at cut s t second ≡ Ok again
read-as cut s t first second again same h = subst (λ bytes. read_at cut s t bytes ≡ Ok again) same h

-- ONE LINE

accepted-step : (long many : Bool) (e f : SourceError) (made : Result SourceState SourceError) (next : SourceState → Result (List Block) SourceError) (again : List Block) →
    and_then (if long then Err e else (if many then Err f else made)) next ≡ Ok again → and_then made next ≡ Ok again
accepted-step true many e f made next again h = cc
accepted-step false true e f made next again h = cc
accepted-step false false e f made next again h = h

read-step : (t : SourceState) (line : Flagged) (lines : List Flagged) (again : List Block) → read_from t (line ∷ lines) ≡ Ok again →
    and_then (by_class t (class_at t.after line) (label_bytes (body line.bytes)) (from_operation (body line.bytes))) (λ u. read_from u lines) ≡ Ok again
read-step t line lines again h =
    accepted-step (nat_lt LINE_BYTES_LIMIT (length line.bytes)) (nat_le SOURCE_LINES_LIMIT t.count) (LineTooLong (suc t.count)) TooLarge
    (by_class t (class_at t.after line) (label_bytes (body line.bytes)) (from_operation (body line.bytes))) (λ u. read_from u lines) again
    (sym (then-then (line_step t line) (λ u. lines_step u lines) (λ u. Ok (with_open u.blocks u.label u.entries))) ∙ h)

-- a line of this class, and then the rest
pub read-class : (cut : Bool) (s : Standing) (t : SourceState) (line text : List ℕ) (c : Class) (again : List Block) → every is_inside line ≡ true → class_at t.after (flagged_at cut s line (goes_on text)) ≡ c →
    read_at cut s t ((line ++ codes "\n") ++ text) ≡ Ok again →
    and_then (by_class t c (label_bytes (body line)) (from_operation (body line))) (λ u. read_at cut (after_line cut s line) u text) ≡ Ok again
read-class cut s t line text c again inside stated h =
    let rest : List Flagged = flagged_from cut (after_line cut s line) (lines_of text) in
    ap (λ k. and_then (by_class t k (label_bytes (body line)) (from_operation (body line))) (λ u. read_from u rest)) (sym stated)
    ∙ read-step t (flagged_at cut s line (is_continued (lines_of text))) rest again
    (ap (λ lines. read_from t (flagged_from cut s lines)) (sym (ap lines_of (append_assoc line (10 ∷ []) text) ∙ lines_of-line line text inside)) ∙ h)

-- A COPIED LINE is of its class again

pub same-class : (alone comment comma after other : Bool) (c : Class) (number : ℕ) →
    operand_refusal number (if alone then Other else (if comment then Comment else (if comma then (if after then Refused else Other) else c))) ≡ None →
    ((if alone then Other else (if comment then Comment else (if comma then (if other then Refused else Other) else c))) ≡ Refused → ⊥) →
    (if alone then Other else (if comment then Comment else (if comma then (if other then Refused else Other) else c)))
    ≡ (if alone then Other else (if comment then Comment else (if comma then (if after then Refused else Other) else c)))
same-class true comment comma after other c number h other_none = refl
same-class false true comma after other c number h other_none = refl
same-class false false false after other c number h other_none = refl
same-class false false true true other c number h other_none = cc
same-class false false true false true c number h other_none = absurd (other_none refl)
same-class false false true false false c number h other_none = refl

refused : (t : SourceState) (label bytes : List ℕ) (next : SourceState → Result (List Block) SourceError) (again : List Block) → and_then (by_class t Refused label bytes) next ≡ Ok again → ⊥
refused t label bytes next again h = cc

-- if it is left alone as it was
pub read-copied : (cut : Bool) (s : Standing) (t : SourceState) (after continued : Bool) (line text : List ℕ) (number : ℕ) (again : List Block) → every is_inside line ≡ true → (cut && goes_on text) ≡ (cut && continued) →
    operand_refusal number (class_at after (flagged_at cut s line continued)) ≡ None → read_at cut s t ((body line ++ codes "\n") ++ text) ≡ Ok again →
    and_then (by_class t (class_at after (flagged_at cut s line continued)) (label_bytes (body line)) (from_operation (body line))) (λ u. read_at cut (after_line cut s line) u text) ≡ Ok again
read-copied cut s t after continued line text number again inside next accepted h =
    let there : List ℕ = body line in
    let alone : Bool = is_alone cut s line continued in
    let rest : SourceState → Result (List Block) SourceError = λ u. read_at cut (after_line cut s line) u text in
    let switch : is_alone cut s there (goes_on text) ≡ alone = alone-body cut s line (goes_on text) ∙ same-alone cut s line (goes_on text) continued next in
    let stated : class_at t.after (flagged_at cut s there (goes_on text)) ≡ class_at t.after (flagged_at cut s line continued) =
    ap (λ is. class_at t.after (record { alone = is; bytes = there })) switch ∙ class_at-body t.after alone line in
    let step : and_then (by_class t (class_at t.after (flagged_at cut s line continued)) (label_bytes there) (from_operation there)) rest ≡ Ok again =
    ap (λ stands. and_then (by_class t (class_at t.after (flagged_at cut s line continued)) (label_bytes there) (from_operation there)) (λ u. read_at cut stands u text)) (sym (after-body cut s line))
    ∙ ap (λ bs. and_then (by_class t (class_at t.after (flagged_at cut s line continued)) (label_bytes bs) (from_operation bs)) (λ u. read_at cut (after_line cut s there) u text)) (sym (trim-twice is_return line))
    ∙ read-class cut s t there text (class_at t.after (flagged_at cut s line continued)) again (every-trimmed is_inside is_return line inside) stated h in
    let same : class_at t.after (flagged_at cut s line continued) ≡ class_at after (flagged_at cut s line continued) =
    same-class alone (is_comment there) (continues there) after t.after (by_operation (is_located there) (from_operation there)) number accepted
    (λ is. refused t (label_bytes there) (from_operation there) rest again (ap (λ c. and_then (by_class t c (label_bytes there) (from_operation there)) rest) (sym is) ∙ step)) in
    ap (λ c. and_then (by_class t c (label_bytes there) (from_operation there)) rest) (sym same) ∙ step

-- a copied line, and then a text
pub goes-copied : (line text : List ℕ) → every is_inside line ≡ true → goes_on ((body line ++ codes "\n") ++ text) ≡ (if is_comment (body line) then goes_on text else continues line)
goes-copied line text inside =
    goes-line (body line) text (every-trimmed is_inside is_return line inside)
    ∙ ap₂ (λ comment comma. if comment then goes_on text else comma) (ap is_comment (trim-twice is_return line)) (continues-body line)

-- TEXTS THAT CHANGE NOTHING but how many lines were read, and what the last was

pub record Passed (cut : Bool) (s : Standing) (t : SourceState) (text : List ℕ) (again : List Block) : Type 0 where
  pub count : ℕ
  pub after : Bool
  pub read : read_at cut s (record t { count = count; after = after }) text ≡ Ok again

pub record Passes (cut : Bool) (s : Standing) (bytes : List ℕ) : Type 0 where
  pub quiet : (text : List ℕ) → goes_on (bytes ++ text) ≡ goes_on text
  pub passes : (t : SourceState) (text : List ℕ) (again : List Block) → IsQuiet cut text → read_at cut s t (bytes ++ text) ≡ Ok again → Passed cut s t text again

passes-nothing : (cut : Bool) (s : Standing) → Passes cut s []
passes-nothing cut s = record { quiet = λ text. refl; passes = λ t text again quiet h. record { count = t.count; after = t.after; read = h } }

pub quiet-behind : (cut : Bool) (bytes text : List ℕ) → goes_on (bytes ++ text) ≡ goes_on text → IsQuiet cut text → IsQuiet cut (bytes ++ text)
quiet-behind cut bytes text same quiet = ap (λ on. cut && on) same ∙ quiet

pub quiet-both : (first second text : List ℕ) → goes_on (first ++ (second ++ text)) ≡ goes_on (second ++ text) → goes_on (second ++ text) ≡ goes_on text → goes_on ((first ++ second) ++ text) ≡ goes_on text
quiet-both first second text p q = ap goes_on (append_assoc first second text) ∙ p ∙ q

passes-append : (cut : Bool) (s : Standing) (first second : List ℕ) → Passes cut s first → Passes cut s second → Passes cut s (first ++ second)
passes-append cut s first second p q = record {
  quiet = λ text. quiet-both first second text (p.quiet (second ++ text)) (q.quiet text);
  passes = λ t text again quiet h.
      let one = p.passes t (second ++ text) again (quiet-behind cut second text (q.quiet text) quiet) (read-as cut s t _ _ again (append_assoc first second text) h) in
      let two = q.passes (record t { count = one.count; after = one.after }) text again quiet one.read in
      record { count = two.count; after = two.after; read = two.read };
}

pub comment-class : (after : Bool) (line : List ℕ) → is_comment (body line) ≡ true → class_of after line ≡ Comment
comment-class after line comment = rw comment refl

pub taken-class : (after alone : Bool) (line : List ℕ) (c : Class) → alone ≡ false → class_of after line ≡ c → class_at after (record { alone = alone; bytes = line }) ≡ c
taken-class after alone line c none stated = ap (λ t. if t then Other else class_of after line) none ∙ stated

-- a comment is passed over where it is asked whether a text goes on
pub quiet-comment : (line text : List ℕ) → every is_inside line ≡ true → is_comment (body line) ≡ true → goes_on ((line ++ codes "\n") ++ text) ≡ goes_on text
quiet-comment line text inside comment = goes-line line text inside ∙ ap (λ is. if is then goes_on text else continues line) comment

pub comment-clear : (cut : Bool) (s : Standing) (line : List ℕ) → is_comment (body line) ≡ true → (cut && is_doubtful s.redefined (class_of true line) (body line)) ≡ false
comment-clear cut s line comment = and_right cut (is_doubtful s.redefined (class_of true line) (body line)) (ap (λ c. is_doubtful s.redefined c (body line)) (comment-class true line comment))

passes-comment : (cut : Bool) (s : Standing) (line : List ℕ) → is_holding cut s ≡ false → is_flagged cut line ≡ false → every is_inside line ≡ true → is_comment (body line) ≡ true → Passes cut s (line ++ codes "\n")
passes-comment cut s line free unflagged inside comment = record {
  quiet = λ text. quiet-comment line text inside comment;
  passes = λ t text again quiet h.
      let alone = not-alone cut s line (goes_on text) free unflagged quiet (comment-clear cut s line comment) in
      let step = read-class cut s t line text Comment again inside (taken-class t.after (is_alone cut s line (goes_on text)) line Comment alone (comment-class t.after line comment)) h in
      record { count = suc t.count; after = false; read = subst (λ stands. read_at cut stands (count_line false t) text ≡ Ok again) (comment-stays cut s line free unflagged comment) step };
}

-- COMMENTS that are no switches and no directives

abbrev pub IsPlainComment : Bool → List ℕ → Type 0
IsPlainComment cut line = (is_flagged cut line ≡ false) × (every is_inside line ≡ true) × (is_comment (body line) ≡ true)

abbrev pub ArePlainComments : Bool → List (List ℕ) → Type 0
ArePlainComments cut [] = Unit {0}
ArePlainComments cut (line ∷ lines) = IsPlainComment cut line × ArePlainComments cut lines

abbrev pub with_newlines : List (List ℕ) → List ℕ
with_newlines [] = []
with_newlines (line ∷ lines) = (line ++ codes "\n") ++ with_newlines lines

-- a text of such lines alone
pub record Comments (cut : Bool) (bytes : List ℕ) : Type 0 where
  pub lines : List (List ℕ)
  pub whole : bytes ≡ with_newlines lines
  pub are : ArePlainComments cut lines

pub comments-nothing : (cut : Bool) → Comments cut []
comments-nothing cut = record { lines = []; whole = refl; are = tt }

comments-line : (cut : Bool) (line : List ℕ) → IsPlainComment cut line → Comments cut (line ++ codes "\n")
comments-line cut line is = record { lines = line ∷ []; whole = sym (append-nil (line ++ codes "\n")); are = (is, tt) }

newlines-append : (first second : List (List ℕ)) → with_newlines first ++ with_newlines second ≡ with_newlines (first ++ second)
newlines-append [] second = refl
newlines-append (line ∷ first) second = append_assoc (line ++ codes "\n") (with_newlines first) (with_newlines second) ∙ ap (λ text. (line ++ codes "\n") ++ text) (newlines-append first second)

are-append : (cut : Bool) (first second : List (List ℕ)) → ArePlainComments cut first → ArePlainComments cut second → ArePlainComments cut (first ++ second)
are-append cut [] second h k = k
are-append cut (line ∷ first) second h k = (h.0, are-append cut first second h.1 k)

pub comments-append : (cut : Bool) (first second : List ℕ) → Comments cut first → Comments cut second → Comments cut (first ++ second)
comments-append cut first second p q =
    record { lines = p.lines ++ q.lines; whole = ap₂ (λ xs ys. xs ++ ys) p.whole q.whole ∙ newlines-append p.lines q.lines; are = are-append cut p.lines q.lines p.are q.are }

pub passes-comments : (cut : Bool) (s : Standing) (bytes : List ℕ) → is_holding cut s ≡ false → Comments cut bytes → Passes cut s bytes
passes-comments cut s bytes free comments = subst (Passes cut s) (sym comments.whole) (by_line comments.lines comments.are)
  where
    by_line : (lines : List (List ℕ)) → ArePlainComments cut lines → Passes cut s (with_newlines lines)
    by_line [] are = passes-nothing cut s
    by_line (line ∷ lines) are = passes-append cut s (line ++ codes "\n") (with_newlines lines) (passes-comment cut s line free are.0.0 are.0.1 are.0.2) (by_line lines are.1)

-- they are passed over where it is asked whether a text goes on
pub comments-quiet : (cut : Bool) (bytes text : List ℕ) → Comments cut bytes → goes_on (bytes ++ text) ≡ goes_on text
comments-quiet cut bytes text comments = ap (λ bs. goes_on (bs ++ text)) comments.whole ∙ by_line comments.lines comments.are
  where
    by_line : (lines : List (List ℕ)) → ArePlainComments cut lines → goes_on (with_newlines lines ++ text) ≡ goes_on text
    by_line [] are = refl
    by_line (line ∷ lines) are = quiet-both (line ++ codes "\n") (with_newlines lines) text (quiet-comment line (with_newlines lines ++ text) are.0.1 are.0.2) (by_line lines are.1)

-- THE REPORT

inside-glyph : (d : ℕ) → is_inside (digit_glyph false d) ≡ true
inside-glyph d = elim (nat_lt d 10) as (λ t. is_inside (if t then 48 + d else 87 + d) ≡ true)
    [ true ↦ rw (ne_eqb (48 + d) 10 (λ same. absurd (omega (arith, same)))) refl | false ↦ rw (ne_eqb (87 + d) 10 (λ same. absurd (omega (arith, same)))) refl ]

inside-onto : (k n : ℕ) (bytes : List ℕ) → every is_inside bytes ≡ true → every is_inside (digits_onto k 10 false n bytes) ≡ true
inside-onto zero n bytes h = h
inside-onto (suc k) n bytes h =
    let one : every is_inside (digit_glyph false (n % 10) ∷ bytes) ≡ true = rw (inside-glyph (n % 10)) h in
    elim (n / 10 == 0) as (λ t. every is_inside (if t then digit_glyph false (n % 10) ∷ bytes else digits_onto k 10 false (n / 10) (digit_glyph false (n % 10) ∷ bytes)) ≡ true)
    [ true ↦ one | false ↦ inside-onto k (n / 10) (digit_glyph false (n % 10) ∷ bytes) one ]

pub inside-decimal : (n : ℕ) → every is_inside (decimal n) ≡ true
unfolding digits
inside-decimal n = inside-onto 64 n [] refl

pub inside-times : (n count source time : ℕ) → every is_inside (times_text n count source time) ≡ true
inside-times n count source time =
    every-append is_inside (codes "* BLOCK " ++ decimal n ++ codes " COUNT " ++ decimal count ++ codes " SOURCE " ++ decimal source ++ codes " TIME ") (decimal time)
    (every-append is_inside (codes "* BLOCK " ++ decimal n ++ codes " COUNT " ++ decimal count ++ codes " SOURCE " ++ decimal source) (codes " TIME ")
    (every-append is_inside (codes "* BLOCK " ++ decimal n ++ codes " COUNT " ++ decimal count ++ codes " SOURCE ") (decimal source)
    (every-append is_inside (codes "* BLOCK " ++ decimal n ++ codes " COUNT " ++ decimal count) (codes " SOURCE ")
    (every-append is_inside (codes "* BLOCK " ++ decimal n ++ codes " COUNT ") (decimal count)
    (every-append is_inside (codes "* BLOCK " ++ decimal n) (codes " COUNT ")
    (every-append is_inside (codes "* BLOCK ") (decimal n) refl (inside-decimal n)) refl) (inside-decimal count)) refl) (inside-decimal source)) refl) (inside-decimal time)

-- the line of the times, up to this end
comments-times : (cut : Bool) (n count source time : ℕ) (end : List ℕ) → every is_inside end ≡ true → Comments cut (times_text n count source time ++ (end ++ codes "\n"))
comments-times cut n count source time end inside =
    let times : List ℕ = times_text n count source time in
    subst (Comments cut) (append_assoc times end (codes "\n")) (comments-line cut (times ++ end) (and_right cut false refl, every-append is_inside times end (inside-times n count source time) inside, refl))

comments-splits : (cut : Bool) (splits : Option ℕ) → Comments cut (splits_line splits)
comments-splits cut None = comments-nothing cut
comments-splits cut (Some splits) =
    comments-line cut (codes "* SPLITS " ++ decimal splits) (and_right cut false refl, every-append is_inside (codes "* SPLITS ") (decimal splits) refl (inside-decimal splits), refl)

comments-first : (cut : Bool) (n count : ℕ) (p : Placed) → Comments cut (times_text n count p.source p.time ++ bound_text p)
comments-first cut n count p =
    elim (p.bound == p.time) as (λ t. Comments cut (times_text n count p.source p.time ++ (if t then codes " BEST\n" else (codes " AT LEAST " ++ decimal p.bound ++ codes "\n")))) [
      | true ↦ comments-times cut n count p.source p.time (codes " BEST") refl
      | false ↦ comments-times cut n count p.source p.time (codes " AT LEAST " ++ decimal p.bound) (every-append is_inside (codes " AT LEAST ") (decimal p.bound) refl (inside-decimal p.bound))
    ]

pub comments-report : (cut : Bool) (n count : ℕ) (p : Placed) → Comments cut (report n count p)
comments-report cut n count p = comments-append cut (times_text n count p.source p.time ++ bound_text p) (splits_line p.splits) (comments-first cut n count p) (comments-splits cut p.splits)

-- NOTES

-- a line of a source has no newline, and the class of the line that was read
pub record IsOfSource (cut : Bool) (l : Line) : Type 0 where
  pub inside : every is_inside l.bytes ≡ true
  pub standing : Standing
  pub continued : Bool
  pub after : Bool
  pub class : l.class ≡ class_at after (flagged_at cut standing l.bytes continued)

abbrev pub AreLinesOfSource : Bool → List Line → Type 0
AreLinesOfSource cut [] = Unit {0}
AreLinesOfSource cut (l ∷ lines) = IsOfSource cut l × AreLinesOfSource cut lines

pub lines-of_source : (cut : Bool) (s : Standing) (lines : List (List ℕ)) (number run index : ℕ) (label : List ℕ) (after : Bool) → every (every is_inside) lines ≡ true →
    AreLinesOfSource cut (classes_from number run index label after (flagged_from cut s lines))
lines-of_source cut s [] number run index label after h = tt
lines-of_source cut s (line ∷ lines) number run index label after h =
    let c : Class = class_at after (flagged_at cut s line (is_continued lines)) in
    let both = and_parts (every is_inside line) (every (every is_inside) lines) h in (
      record { inside = both.0; standing = s; continued = is_continued lines; after = after; class = refl },
      lines-of_source cut (after_line cut s line) lines (suc number) (run_after run c) (place_after index c) (label_after label c line) (is_code c) both.1,
    )

-- a comment isn't left alone, and is one without the class
pub comment-line : (after alone : Bool) (line : List ℕ) → is_comment_class (class_at after (record { alone = alone; bytes = line })) ≡ true → (alone ≡ false) × (is_comment (body line) ≡ true)
comment-line after true line h = cc
comment-line after false line h = (refl, (class-tells after line).comment h)

comments-note : (cut : Bool) (l : Line) → IsOfSource cut l → is_comment_class l.class ≡ true → Comments cut (body l.bytes ++ codes "\n")
comments-note cut l is comment =
    let parts = comment-line is.after (is_alone cut is.standing l.bytes is.continued) l.bytes (sym (ap is_comment_class is.class) ∙ comment) in
    let unflagged = flagged-body cut l.bytes ∙ (taken cut is.standing l.bytes is.continued parts.0).unflagged in
    comments-line cut (body l.bytes) (unflagged, every-trimmed is_inside is_return l.bytes is.inside, ap is_comment (trim-twice is_return l.bytes) ∙ parts.1)

pub note-comment : (l : Line) (block : Block) → is_note_of l block ≡ true → is_comment_class l.class ≡ true
note-comment l block h =
    (and_parts (is_comment_class l.class) (nat_lt (line_of block 1) l.number)
    (and_parts (is_comment_class l.class && nat_lt (line_of block 1) l.number) (nat_lt l.number (line_of block (length block.entries))) h).0).0

pub comments-notes : (cut : Bool) (block : Block) (lines : List Line) → AreLinesOfSource cut lines → Comments cut (notes_text block lines)
comments-notes cut block [] h = comments-nothing cut
comments-notes cut block (l ∷ lines) h =
    comments-append cut (if is_note_of l block then copied_line l else []) (notes_text block lines) (by_note (is_note_of l block) refl) (comments-notes cut block lines h.1)
  where
    by_note : (t : Bool) → is_note_of l block ≡ t → Comments cut (if t then copied_line l else [])
    by_note true stated = comments-note cut l h.0 (note-comment l block stated)
    by_note false stated = comments-nothing cut
