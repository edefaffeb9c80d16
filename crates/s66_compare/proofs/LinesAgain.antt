-- What lines of a printed text add to its frame when it is read again: comments nothing, a copied line what it added, the instructions of a
-- block the place of the block.
use Rattle.std.proofs.Common.{◌≡◌, ◌≢◌, ◌≤◌, ◌+◌, ◌-◌, ◌%◌, ◌==◌, ◌&&◌, ◌∙◌, ℕ, suc, Bool, true, false, if◌then◌else◌, Option, None, Some, List, [], ◌∷◌, ◌++◌, codes, get_or, length, refl, sym, ap}
use Rattle.std.proofs.Common.{ap₂, subst, inl, inr, arith, append_assoc, eq-eqb, ne_eqb}
use Rattle.std.proofs.lemmas.Bool.{and_parts, or_right}
use Rattle.s66_isa.specs.{Among, every, instr_at, Instr, BLOCK_LIMIT}
use Rattle.s66_line.specs.{Block, bytes_of, instrs_of, is_code, body, continues, is_blank, is_comment, is_return, from_operation, label_bytes, lines_of, trim, is_trailing, by_operation, is_located}
use Rattle.s66_line.specs.{is_filled, Class, Comment, Other, Refused, Pad, Instruction}
use Rattle.s66_line.proofs.Wholes.{is_inside}
use Rattle.s66_source.specs.{Flagged, after_line, class_at, flagged_from, is_alone, indented_line, indented_lines, indents, line_start, Placed, anew_text, text_for, Line, classes_from, label_after}
use Rattle.s66_source.specs.{label_at, operand_refusal, place_after, place_at, refusal, run_after, run_at, Standing, Redefined}
use Rattle.s66_source.specs.declared.columns.Columns.{Columns}
use Rattle.s66_source.proofs.CharactersRead.{SpellsAll}
use Rattle.s66_source.proofs.FlaggedLines.{same-alone}
use Rattle.s66_source.proofs.FarOperands.{Fits, clear-printed, is_unclear, read-start}
use Rattle.s66_source.proofs.ReadAgain.{none-refused, rest-taken}
use Rattle.s66_source.proofs.ReadBack.{lines_of-line, trim-twice}
use Rattle.s66_source.proofs.ReadBlock.{IsPrintable, IsSoundBlock, comments-front, front_text, printable-at, quiet-printable}
use Rattle.s66_source.proofs.ReadComments.{AreLinesOfSource, ArePlainComments, Comments, comment-class, comment-clear, quiet-behind, quiet-both, quiet-comment, same-class, taken-class, with_newlines}
use Rattle.s66_source.proofs.ReadLine.{IsLabel, every-trimmed, inside-start}
use Rattle.s66_source.proofs.ReadStanding.{IsQuiet, after-body, alone-body, class_at-body, code-unflagged, comment-stays, flagged_at, goes_on, is_flagged, is_holding, not-alone}
use Rattle.s66_source.proofs.ReaderBlocks.{next-index}
use Rattle.s66_source.proofs.Standings.{code-line, code-stays}
use Rattle.s66_source.proofs.Runs.{begun}
use Rattle.s66_compare.specs.{Shape}
use Rattle.s66_compare.proofs.FrameRuns.{Reached, block_shape, emit, first_label, line_shape, next, reached, runs}

-- an unlabelled block may begin next
abbrev pub Free : ℕ → List ℕ → Type 0
Free index label = (index % BLOCK_LIMIT ≡ 0) × (first_label index label ≡ [])

-- NO LINE IS REFUSED

abbrev pub Clean : Bool → List Flagged → Type 0
Clean after [] = Unit {0}
Clean after (line ∷ lines) = (class_at after line ≢ Refused) × Clean (is_code (class_at after line)) lines

pub clean-classed : (lines : List Flagged) (number run index : ℕ) (label : List ℕ) (after : Bool) → refusal (classes_from number run index label after lines) ≡ None → Clean after lines
clean-classed [] number run index label after accepted = tt
clean-classed (line ∷ lines) number run index label after accepted =
    let c : Class = class_at after line in
    let l : Line = record { number = number; bytes = line.bytes; class = c; run = run_at run c; index = place_at index c; label = label_at label c line.bytes } in
    let rest : List Line = classes_from (suc number) (run_after run c) (place_after index c) (label_after label c line.bytes) (is_code c) lines in (
      λ is. none-refused number rest l is accepted,
      clean-classed lines (suc number) (run_after run c) (place_after index c) (label_after label c line.bytes) (is_code c) (rest-taken l rest accepted),
    )

-- WHAT A TEXT GIVES if none of its lines is refused

abbrev pub Gives : Reached → List Flagged → List Shape → Type 0
Gives r lines x = Clean r.after lines → runs r lines ≡ x

abbrev pub gives_at : Bool → Standing → Reached → List ℕ → List Shape → Type 0
gives_at cut s r text x = Gives r (flagged_from cut s (lines_of text)) x

flagged-line : (cut : Bool) (s : Standing) (line text : List ℕ) → every is_inside line ≡ true →
    flagged_from cut s (lines_of ((line ++ codes "\n") ++ text)) ≡ flagged_at cut s line (goes_on text) ∷ flagged_from cut (after_line cut s line) (lines_of text)
flagged-line cut s line text inside =
    ap (flagged_from cut s) (ap lines_of (append_assoc line (10 ∷ []) text) ∙ lines_of-line line text inside)

-- a line of this class, and then the rest
gives-line : (cut : Bool) (s : Standing) (r : Reached) (line text : List ℕ) (c : Class) (x : List Shape) → every is_inside line ≡ true →
    (class_at r.after (flagged_at cut s line (goes_on text)) ≢ Refused → class_at r.after (flagged_at cut s line (goes_on text)) ≡ c) →
    (Clean (is_code c) (flagged_from cut (after_line cut s line) (lines_of text)) → runs (next r c line) (flagged_from cut (after_line cut s line) (lines_of text)) ≡ x) →
    gives_at cut s r ((line ++ codes "\n") ++ text) (emit r c line ++ x)
gives-line cut s r line text c x inside stated later clean =
    let there = flagged-line cut s line text inside in
    let rest : List Flagged = flagged_from cut (after_line cut s line) (lines_of text) in
    let both : Clean r.after (flagged_at cut s line (goes_on text) ∷ rest) = subst (Clean r.after) there clean in
    let is = stated both.0 in
    ap (runs r) there ∙ ap (λ k. emit r k line ++ runs (next r k line) rest) is ∙ ap (λ ss. emit r c line ++ ss) (later (subst (λ k. Clean (is_code k) rest) is both.1))

-- A COPIED LINE

all-trailing : (bytes : List ℕ) → every is_return bytes ≡ true → every is_trailing bytes ≡ true
all-trailing [] h = refl
all-trailing (b ∷ bytes) h =
    let both = and_parts (is_return b) (every is_return bytes) h in
    ap (λ t. t && every is_trailing bytes) (or_right (is_blank b) (is_return b) both.0) ∙ all-trailing bytes both.1

every-kept : (bytes : List ℕ) → every is_trailing (trim is_return bytes) ≡ every is_trailing bytes
every-kept [] = refl
every-kept (b ∷ bytes) = by_all (every is_return (b ∷ bytes)) refl (every-kept bytes)
  where
    by_all : (t : Bool) → every is_return (b ∷ bytes) ≡ t → every is_trailing (trim is_return bytes) ≡ every is_trailing bytes → every is_trailing (if t then [] else b ∷ trim is_return bytes) ≡ every is_trailing (b ∷ bytes)
    by_all true stated ih = sym (all-trailing (b ∷ bytes) stated)
    by_all false stated ih = ap (λ t. is_trailing b && t) ih

trim-within : (bytes : List ℕ) → trim is_trailing (trim is_return bytes) ≡ trim is_trailing bytes
trim-within [] = refl
trim-within (b ∷ bytes) = by_all (every is_return (b ∷ bytes)) refl (trim-within bytes)
  where
    by_all : (t : Bool) → every is_return (b ∷ bytes) ≡ t → trim is_trailing (trim is_return bytes) ≡ trim is_trailing bytes → trim is_trailing (if t then [] else b ∷ trim is_return bytes) ≡ trim is_trailing (b ∷ bytes)
    by_all true stated ih = sym (ap (λ t. if t then [] else b ∷ trim is_trailing bytes) (all-trailing (b ∷ bytes) stated))
    by_all false stated ih = ap (λ t. if is_trailing b && t then [] else b ∷ trim is_trailing (trim is_return bytes)) (every-kept bytes) ∙ ap (λ ts. if every is_trailing (b ∷ bytes) then [] else b ∷ ts) ih

shape-body : (line : List ℕ) → line_shape (body line) ≡ line_shape line
shape-body line = ap (λ bytes. record { is_block = false; bytes = bytes }) (trim-within line)

label-body : (line : List ℕ) → label_bytes (body (body line)) ≡ label_bytes (body line)
label-body line = ap label_bytes (trim-twice is_return line)

emit-body : (r : Reached) (c : Class) (line : List ℕ) → emit r c (body line) ≡ emit r c line
emit-body r Comment line = refl
emit-body r Other line = ap (λ x. r.pads ++ x ∷ []) (shape-body line)
emit-body r Refused line = refl
emit-body r (Pad false) line = refl
emit-body r (Pad true) line = refl
emit-body r (Instruction false i) line = refl
emit-body r (Instruction true i) line = ap (λ label. r.pads ++ block_shape label ∷ []) (label-body line)

next-body : (r : Reached) (c : Class) (line : List ℕ) → next r c (body line) ≡ next r c line
next-body r Comment line = refl
next-body r Other line = refl
next-body r Refused line = refl
next-body r (Pad false) line = ap (λ x. reached true (if begun r.index then [] else r.pads ++ x ∷ []) r.index r.label) (shape-body line)
next-body r (Pad true) line = ap₂ (λ x label. reached true (x ∷ []) 0 label) (shape-body line) (label-body line)
next-body r (Instruction false i) line = refl
next-body r (Instruction true i) line = ap (λ label. reached true [] 1 label) (label-body line)

-- it is of its class again
pub gives-copied : (cut : Bool) (s : Standing) (r : Reached) (after continued : Bool) (line text : List ℕ) (number : ℕ) (c : Class) (x : List Shape) → every is_inside line ≡ true → (cut && goes_on text) ≡ (cut && continued) →
    class_at after (flagged_at cut s line continued) ≡ c → operand_refusal number c ≡ None →
    (Clean (is_code c) (flagged_from cut (after_line cut s line) (lines_of text)) → runs (next r c line) (flagged_from cut (after_line cut s line) (lines_of text)) ≡ x) →
    gives_at cut s r ((body line ++ codes "\n") ++ text) (emit r c line ++ x)
gives-copied cut s r after continued line text number c x inside quiet stated accepted later =
    let there : List ℕ = body line in
    let alone : Bool = is_alone cut s line continued in
    let switch : is_alone cut s there (goes_on text) ≡ alone = alone-body cut s line (goes_on text) ∙ same-alone cut s line (goes_on text) continued quiet in
    let again : class_at r.after (flagged_at cut s there (goes_on text)) ≡ class_at r.after (flagged_at cut s line continued) =
    ap (λ is. class_at r.after (record { alone = is; bytes = there })) switch ∙ class_at-body r.after alone line in
    let same : class_at r.after (flagged_at cut s there (goes_on text)) ≢ Refused → class_at r.after (flagged_at cut s there (goes_on text)) ≡ c =
    λ clean. again
    ∙ same-class alone (is_comment there) (continues there) after r.after (by_operation (is_located there) (from_operation there)) number (ap (operand_refusal number) stated ∙ accepted) (λ is. clean (again ∙ is))
    ∙ stated in
    let rest : Clean (is_code c) (flagged_from cut (after_line cut s there) (lines_of text)) → runs (next r c there) (flagged_from cut (after_line cut s there) (lines_of text)) ≡ x =
    subst (λ stands. Clean (is_code c) (flagged_from cut stands (lines_of text)) → runs (next r c there) (flagged_from cut stands (lines_of text)) ≡ x) (sym (after-body cut s line))
    (subst (λ (q : Reached). Clean (is_code c) (flagged_from cut (after_line cut s line) (lines_of text)) → runs q (flagged_from cut (after_line cut s line) (lines_of text)) ≡ x) (sym (next-body r c line)) later) in
    subst (λ (ss : List Shape). gives_at cut s r ((there ++ codes "\n") ++ text) (ss ++ x)) (emit-body r c line)
    (gives-line cut s r there text c x (every-trimmed is_inside is_return line inside) same rest)

-- COMMENTS add nothing

pub record Skips (cut : Bool) (s : Standing) (bytes : List ℕ) : Type 0 where
  pub quiet : (text : List ℕ) → goes_on (bytes ++ text) ≡ goes_on text
  pub skips : (r : Reached) (text : List ℕ) (x : List Shape) → IsQuiet cut text → ((after : Bool) → gives_at cut s (reached after r.pads r.index r.label) text x) → gives_at cut s r (bytes ++ text) x

skips-nothing : (cut : Bool) (s : Standing) → Skips cut s []
skips-nothing cut s = record { quiet = λ text. refl; skips = λ r text x quiet later. later r.after }

skips-append : (cut : Bool) (s : Standing) (first second : List ℕ) → Skips cut s first → Skips cut s second → Skips cut s (first ++ second)
skips-append cut s first second p q = record {
  quiet = λ text. quiet-both first second text (p.quiet (second ++ text)) (q.quiet text);
  skips = λ r text x quiet later.
      subst (λ t. gives_at cut s r t x) (sym (append_assoc first second text))
      (p.skips r (second ++ text) x (quiet-behind cut second text (q.quiet text) quiet) (λ after. q.skips (reached after r.pads r.index r.label) text x quiet (λ again. later again)));
}

skips-comment : (cut : Bool) (s : Standing) (line : List ℕ) → is_holding cut s ≡ false → is_flagged cut line ≡ false → every is_inside line ≡ true → is_comment (body line) ≡ true → Skips cut s (line ++ codes "\n")
skips-comment cut s line free unflagged inside comment = record {
  quiet = λ text. quiet-comment line text inside comment;
  skips = λ r text x quiet later.
      let alone = not-alone cut s line (goes_on text) free unflagged quiet (comment-clear cut s line comment) in
      gives-line cut s r line text Comment x inside (λ clean. taken-class r.after (is_alone cut s line (goes_on text)) line Comment alone (comment-class r.after line comment))
      (subst (λ stands. Clean false (flagged_from cut stands (lines_of text)) → runs (reached false r.pads r.index r.label) (flagged_from cut stands (lines_of text)) ≡ x) (sym (comment-stays cut s line free unflagged comment)) (later false));
}

skips-comments : (cut : Bool) (s : Standing) (bytes : List ℕ) → is_holding cut s ≡ false → Comments cut bytes → Skips cut s bytes
skips-comments cut s bytes free comments = subst (Skips cut s) (sym comments.whole) (by_line comments.lines comments.are)
  where
    by_line : (lines : List (List ℕ)) → ArePlainComments cut lines → Skips cut s (with_newlines lines)
    by_line [] are = skips-nothing cut s
    by_line (line ∷ lines) are = skips-append cut s (line ++ codes "\n") (with_newlines lines) (skips-comment cut s line free are.0.0 are.0.1 are.0.2) (by_line lines are.1)

-- AN INSTRUCTION LINE

gives-instruction : (cut : Bool) (s : Standing) (label : List ℕ) (blanks : ℕ) (bytes : List ℕ) (i : Instr) (r : Reached) (text : List ℕ) (x : List Shape) → is_holding cut s ≡ false → IsQuiet cut text → IsLabel label → SpellsAll bytes i → every is_inside bytes ≡ true →
    Fits cut blanks bytes → (cut && is_unclear s.redefined bytes) ≡ false →
    (Clean true (flagged_from cut s (lines_of text)) → runs (next r (Instruction (is_filled label) i) (line_start label blanks ++ trim is_trailing bytes)) (flagged_from cut s (lines_of text)) ≡ x) →
    gives_at cut s r (indented_line label blanks bytes ++ text) (emit r (Instruction (is_filled label) i) (line_start label blanks ++ trim is_trailing bytes) ++ x)
gives-instruction cut s label blanks bytes i r text x free quiet is spells inside fits clear later =
    let line : List ℕ = line_start label blanks ++ trim is_trailing bytes in
    let c : Class = Instruction (is_filled label) i in
    let read = read-start cut label blanks bytes i is fits spells in
    let alone = not-alone cut s line (goes_on text) free (code-unflagged cut line (code-line false line (ap is_code (read.classed false))).0) quiet (clear-printed cut s.redefined label blanks bytes i is fits spells clear) in
    let stated = taken-class r.after (is_alone cut s line (goes_on text)) line c alone (read.classed r.after) in
    gives-line cut s r line text c x (inside-start label blanks bytes is.1 inside) (λ clean. stated)
    (subst (λ stands. Clean true (flagged_from cut stands (lines_of text)) → runs (next r c line) (flagged_from cut stands (lines_of text)) ≡ x) (sym (code-stays cut (goes_on text) r.after s line (ap is_code stated))) later)

-- that of a number of a block, which is printed after so many blanks if it has no label
module _ (cut : Bool) (s : Standing) (block : Block) (blanks : List ℕ) (free : is_holding cut s ≡ false) where
  gives-number : (label : List ℕ) (n : ℕ) (ns : List ℕ) (r : Reached) (text : List ℕ) (x : List Shape) → IsQuiet cut (indented_lines blanks block [] ns ++ text) → IsLabel label → IsPrintable cut s.redefined blanks block n →
      (Clean true (flagged_from cut s (lines_of (indented_lines blanks block [] ns ++ text))) →
      runs (next r (Instruction (is_filled label) (instr_at (instrs_of block) n)) (line_start label (get_or blanks (n - 1) 0) ++ trim is_trailing (bytes_of block n))) (flagged_from cut s (lines_of (indented_lines blanks block [] ns ++ text))) ≡ x) →
      gives_at cut s r (indented_lines blanks block label (n ∷ ns) ++ text) (emit r (Instruction (is_filled label) (instr_at (instrs_of block) n)) (line_start label (get_or blanks (n - 1) 0) ++ trim is_trailing (bytes_of block n)) ++ x)
  gives-number label n ns r text x quiet is here later =
      subst (λ t. gives_at cut s r t (emit r (Instruction (is_filled label) (instr_at (instrs_of block) n)) (line_start label (get_or blanks (n - 1) 0) ++ trim is_trailing (bytes_of block n)) ++ x))
      (sym (append_assoc (indented_line label (get_or blanks (n - 1) 0) (bytes_of block n)) (indented_lines blanks block [] ns) text))
      (gives-instruction cut s label (get_or blanks (n - 1) 0) (bytes_of block n) (instr_at (instrs_of block) n) r (indented_lines blanks block [] ns ++ text) x free quiet is here.0.0 here.0.1 here.1 here.0.2 later)

  quiet-lines : (ns text : List ℕ) → IsQuiet cut text → ((k : ℕ) → Among k ns → IsPrintable cut s.redefined blanks block k) → IsQuiet cut (indented_lines blanks block [] ns ++ text)
  quiet-lines [] text quiet sound = quiet
  quiet-lines (n ∷ ns) text quiet sound = quiet-printable cut s.redefined blanks block [] n ns text (refl, refl) (sound n (inl refl))

  -- those of a block that is begun add nothing
  gives-more : (ns : List ℕ) (index : ℕ) (label text : List ℕ) (x : List Shape) → IsQuiet cut text → ((k : ℕ) → Among k ns → IsPrintable cut s.redefined blanks block k) →
      (1 ≤ length ns → (1 ≤ index % BLOCK_LIMIT) × (index % BLOCK_LIMIT + length ns ≤ BLOCK_LIMIT)) → gives_at cut s (reached true [] (index + length ns) label) text x →
      gives_at cut s (reached true [] index label) (indented_lines blanks block [] ns ++ text) x
  gives-more [] index label text x quiet sound within later =
      let same : index + 0 ≡ index = omega arith in
      subst (λ k. gives_at cut s (reached true [] k label) text x) same later
  gives-more (n ∷ ns) index label text x quiet sound within later =
      let inside = within (omega arith) in
      let none : (index % BLOCK_LIMIT == 0) ≡ false = ne_eqb (index % BLOCK_LIMIT) 0 (λ zero_at. omega (arith, zero_at, inside.0)) in
      let same : index + length (n ∷ ns) ≡ suc index + length ns = omega arith in
      let more = gives-more ns (suc index) label text x quiet (λ k among. sound k (inr among))
      (λ some. (let after : suc index % BLOCK_LIMIT ≡ suc (index % BLOCK_LIMIT) = next-index index (index % BLOCK_LIMIT) refl (λ full. omega (arith, full, inside.1, some)) in (omega (arith, after), omega (arith, after, inside.1))))
      (subst (λ k. gives_at cut s (reached true [] k label) text x) same later) in
      subst (λ (ss : List Shape). gives_at cut s (reached true [] index label) (indented_lines blanks block [] (n ∷ ns) ++ text) ss) (ap (λ t. (if t then block_shape (first_label index label) ∷ [] else []) ++ x) none)
      (gives-number [] n ns (reached true [] index label) text x (quiet-lines ns text quiet (λ k among. sound k (inr among))) (refl, refl) (sound n (inl refl)) more)

  -- A WHOLE BLOCK adds its place

  gives-first : (label : List ℕ) (k : ℕ) (ks : List ℕ) (r : Reached) (text : List ℕ) (x : List Shape) → IsQuiet cut text → IsLabel label → (label ≡ [] → Free r.index r.label) →
      ((n : ℕ) → Among n (k ∷ ks) → IsPrintable cut s.redefined blanks block n) → suc (length ks) ≤ BLOCK_LIMIT →
      ((index : ℕ) (name : List ℕ) → index % BLOCK_LIMIT ≡ 0 → gives_at cut s (reached true [] (index + suc (length ks)) name) text x) →
      gives_at cut s r (indented_lines blanks block label (k ∷ ks) ++ text) ((if is_filled label then r.pads else []) ++ block_shape label ∷ x)
  gives-first [] k ks r text x quiet is new sound few later =
      let at = new refl in
      let one : suc r.index % BLOCK_LIMIT ≡ 1 = next-index r.index 0 at.0 (λ same. omega (arith, same)) in
      let same : r.index + suc (length ks) ≡ suc r.index + length ks = omega arith in
      let more = gives-more ks (suc r.index) r.label text x quiet (λ n among. sound n (inr among)) (λ some. (omega (arith, one), omega (arith, one, few)))
      (subst (λ n. gives_at cut s (reached true [] n r.label) text x) same (later r.index r.label at.0)) in
      subst (λ (ss : List Shape). gives_at cut s r (indented_lines blanks block [] (k ∷ ks) ++ text) ss)
      (ap (λ t. (if t then block_shape (first_label r.index r.label) ∷ [] else []) ++ x) (eq-eqb (r.index % BLOCK_LIMIT) 0 at.0) ∙ ap (λ name. block_shape name ∷ x) at.1)
      (gives-number [] k ks r text x (quiet-lines ks text quiet (λ n among. sound n (inr among))) is (sound k (inl refl)) more)
  gives-first (b ∷ name) k ks r text x quiet is new sound few later =
      let label : List ℕ = b ∷ name in
      let here = sound k (inl refl) in
      let line : List ℕ = line_start label (get_or blanks (k - 1) 0) ++ trim is_trailing (bytes_of block k) in
      let read = read-start cut label (get_or blanks (k - 1) 0) (bytes_of block k) (instr_at (instrs_of block) k) is here.1 here.0.0 in
      let one : 1 % BLOCK_LIMIT ≡ 1 = refl in
      let same : 0 + suc (length ks) ≡ 1 + length ks = omega arith in
      let more = gives-more ks 1 (label_bytes (body line)) text x quiet (λ n among. sound n (inr among)) (λ some. (omega (arith, one), omega (arith, one, few)))
      (subst (λ n. gives_at cut s (reached true [] n (label_bytes (body line))) text x) same (later 0 (label_bytes (body line)) refl)) in
      subst (λ (ss : List Shape). gives_at cut s r (indented_lines blanks block label (k ∷ ks) ++ text) ss)
      (append_assoc r.pads (block_shape (label_bytes (body line)) ∷ []) x ∙ ap (λ found. r.pads ++ block_shape found ∷ x) (read.labelled refl))
      (gives-number label k ks r text x (quiet-lines ks text quiet (λ n among. sound n (inr among))) is here more)

-- THE TEXT OF A BLOCK adds the place of the block, whatever stands before it and comes after it

pub record GivesBlock (cut : Bool) (known : Redefined) (block : Block) (text : List ℕ) : Type 0 where
  pub gives : (s : Standing) (r : Reached) (more : List ℕ) (x : List Shape) → is_holding cut s ≡ false → s.redefined ≡ known → IsQuiet cut more → (block.label ≡ [] → Free r.index r.label) →
      ((index : ℕ) (name : List ℕ) → index % BLOCK_LIMIT ≡ 0 → gives_at cut s (reached true [] (index + length block.entries) name) more x) →
      gives_at cut s r (text ++ more) ((if is_filled block.label then r.pads else []) ++ block_shape block.label ∷ x)

abbrev pub GivesIf : Bool → Redefined → Block → Option (List ℕ) → Type 0
GivesIf cut known block None = Unit {0}
GivesIf cut known block (Some text) = GivesBlock cut known block text

-- the texts of blocks, the first of which is the n-th, that don't stand
abbrev pub GiveBlocks : Bool → Redefined → List (Option (List ℕ)) → ℕ → List Block → Type 0
GiveBlocks cut known texts n [] = Unit {0}
GiveBlocks cut known texts n (block ∷ blocks) = GivesIf cut known block (text_for texts n) × GiveBlocks cut known texts (suc n) blocks

pub gives-anew : (cut quiet : Bool) (columns : Columns) (known : Redefined) (all : List Line) (n : ℕ) (block : Block) (p : Placed) → AreLinesOfSource cut all → IsSoundBlock cut known columns all block →
    ((k : ℕ) → Among k p.order → (1 ≤ k) × (k ≤ length block.entries)) → length p.order ≡ length block.entries → 1 ≤ length block.entries → GivesBlock cut known block (anew_text quiet columns all n block p)
gives-anew cut quiet columns known all n block p source is numbers whole some = record {
  gives = λ s r more x free knows ends new later.
      subst (λ t. gives_at cut s r t ((if is_filled block.label then r.pads else []) ++ block_shape block.label ∷ x)) (sym (append_assoc head (indented_lines blanks block block.label p.order) more))
      (by_order p.order numbers whole s r more x free (subst (λ k. IsSoundBlock cut k columns all block) (sym knows) is) ends new later);
}
  where
    blanks : List ℕ
    blanks = indents columns all block

    head : List ℕ
    head = front_text quiet all n block p

    by_order : (order : List ℕ) → ((k : ℕ) → Among k order → (1 ≤ k) × (k ≤ length block.entries)) → length order ≡ length block.entries →
        (s : Standing) (r : Reached) (more : List ℕ) (x : List Shape) → is_holding cut s ≡ false → IsSoundBlock cut s.redefined columns all block → IsQuiet cut more → (block.label ≡ [] → Free r.index r.label) →
        ((index : ℕ) (name : List ℕ) → index % BLOCK_LIMIT ≡ 0 → gives_at cut s (reached true [] (index + length block.entries) name) more x) →
        gives_at cut s r (head ++ (indented_lines blanks block block.label order ++ more)) ((if is_filled block.label then r.pads else []) ++ block_shape block.label ∷ x)
    by_order [] numbers size s r more x free sound ends new later = absurd (omega (arith, size, some))
    by_order (k ∷ ks) numbers size s r more x free sound ends new later =
        let printable : (m : ℕ) → Among m (k ∷ ks) → IsPrintable cut s.redefined blanks block m = λ m among. printable-at cut s.redefined columns all block m sound (numbers m among) in
        let skipped : Skips cut s head = skips-comments cut s head free (comments-front cut quiet all n block p source) in
        skipped.skips r (indented_lines blanks block block.label (k ∷ ks) ++ more) ((if is_filled block.label then r.pads else []) ++ block_shape block.label ∷ x)
        (quiet-printable cut s.redefined blanks block block.label k ks more is.label (printable k (inl refl)))
        (λ after. gives-first cut s block blanks free block.label k ks (reached after r.pads r.index r.label) more x ends is.label new printable (omega (arith, size, is.few))
        (λ index name at. subst (λ m. gives_at cut s (reached true [] (index + m) name) more x) (sym size) (later index name at)))
