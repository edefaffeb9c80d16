-- The lines of a printed text, read one after the other, have the blocks of their source: each as it was, or in its placed order.
use Rattle.std.proofs.Common.{◌≡◌, ◌≤◌, ◌+◌, ◌%◌, ◌==◌, ◌&&◌, ℕ, suc, Bool, true, false, if◌then◌else◌, List, [], ◌∷◌, ◌++◌, Option, None, Some, get_or, length, map, refl, sym, ap, ◌∙◌, subst, inl}
use Rattle.std.proofs.Common.{inr, arith, append_assoc, eqb, ap₂, Ok, ◌⊎◌, eqb-true, true≢false, append-nil}
use Rattle.std.proofs.Math.Dec.{eqb-suc-zero}
use Rattle.std.proofs.lemmas.Bool.{eqb-false, and_parts}
use Rattle.std.proofs.lemmas.List.{length-map}
use Rattle.s66_isa.specs.{Instr, every, BLOCK_LIMIT}
use Rattle.s66_line.specs.{body, continues, from_operation, label_bytes, is_comment, is_filled, Block, Entry, class_of, is_code, begins_run, instr_in, Class, Comment, Other, Refused, Pad, Instruction}
use Rattle.s66_line.proofs.Wholes.{is_inside}
use Rattle.s66_source.specs.{Line, run_at, run_after, place_at, place_after, label_at, label_after, classes_from, operand_refusal, refusal_at, refusal, instructions, begins_block, put_before}
use Rattle.s66_source.specs.{parts_of, entry_of, block_of, Flagged, Standing, after_line, class_at, is_alone, is_continued, flagged_from, Placed, copied_line, AreComplete, AreGivenAgain, IsGivenAgain}
use Rattle.s66_source.specs.{IsSameAgain, SourceState, with_open, end_block, begin_run, begin_run_if, count_line, by_class, and_then, Redefined, AreGiven, anew_text, begins, line_text, others}
use Rattle.s66_source.specs.{replaced, text_for, is_comment_class}
use Rattle.s66_source.specs.declared.columns.Columns.{Columns}
use Rattle.s66_source.proofs.CutLaw as cut_law
use Rattle.s66_source.proofs.LineLaw.{neither, taken-line}
use Rattle.s66_source.proofs.LineTexts.{AreTexts, AreTold, IsTold, chosen_text, count_after, first-given, instruction-text, none-left, other-text, others-given, pad-text, parts_by, parts_from}
use Rattle.s66_source.proofs.LineTexts.{plain-text, text_at}
use Rattle.s66_source.proofs.PrintedLines.{same-blocks}
use Rattle.s66_source.proofs.ReadBlock.{Ended, IsSoundBlock, read-block, with_one, with_open-push}
use Rattle.s66_source.proofs.ReadComments.{goes-copied, read_at, read-as, read-copied, comment-line, AreLinesOfSource}
use Rattle.s66_source.proofs.ReadStanding.{flagged_at, goes_on, is_holding, taken, comment-stays, continues-body, IsQuiet}
use Rattle.s66_source.proofs.ReaderBlocks.{from_class, full-index, labelled, length-push, next-index, behind, behind-put, left, left-put}
use Rattle.s66_source.proofs.SoundBlocks.{AllTexts, AreSoundBlocks, AreWithin, located-label}
use Rattle.s66_source.proofs.Standings.{code-line, code-stays, same-redefined}

code-taken : (alone : Bool) (c : Class) → is_code (if alone then Other else c) ≡ true → (alone ≡ false) × (is_code c ≡ true)
code-taken true c h = absurd (true≢false (sym h))
code-taken false c h = (refl, h)

refused-none : (number : ℕ) (c : Class) → c ≡ Refused → operand_refusal number c ≡ None → ⊥
refused-none number c is none = (let some : operand_refusal number Refused ≡ None = ap (operand_refusal number) (sym is) ∙ none in cc)

-- CODE that isn't left alone: what stands is as it was, and no continuation comes next
pub record IsLeft (cut : Bool) (s : Standing) (line : List ℕ) (lines : List (List ℕ)) : Type 0 where
  pub free : is_holding cut s ≡ false
  pub stays : after_line cut s line ≡ s
  pub ended : (cut && is_continued lines) ≡ false

pub left-by : (cut : Bool) (s : Standing) (after : Bool) (line : List ℕ) (lines : List (List ℕ)) → is_code (class_at after (flagged_at cut s line (is_continued lines))) ≡ true → IsLeft cut s line lines
left-by cut s after line lines code =
    let is = taken cut s line (is_continued lines) (code-taken (is_alone cut s line (is_continued lines)) (class_of after line) code).0 in
    record { free = is.free; stays = code-stays cut (is_continued lines) after s line code; ended = is.ended }

-- it continues nothing, and no line goes on from it
code-ends : (s : Standing) (after : Bool) (line : List ℕ) (lines : List (List ℕ)) → is_code (class_at after (flagged_at true s line (is_continued lines))) ≡ true → (continues line ≡ false) × (is_continued (line ∷ lines) ≡ false)
code-ends s after line lines code =
    let parts = code-line after line (code-taken (is_alone true s line (is_continued lines)) (class_of after line) code).1 in
    let comma = sym (continues-body line) ∙ parts.1 in
    (comma, ap₂ (λ comment comma. if comment then is_continued lines else comma) parts.0 comma)

-- WHETHER A LINE IS CONTINUED

-- with `--cut`, what is printed of lines goes on if they do
module _ (all : List Line) (texts : List (Option (List ℕ))) (ends : AllTexts (λ text. (more : List ℕ) → goes_on more ≡ false → goes_on (text ++ more) ≡ false) texts) where
  goes-kept : (l : Line) (rest : List Line) (later : Bool) → every is_inside l.bytes ≡ true → text_at all texts l ≡ copied_line l → goes_on (replaced all texts rest) ≡ later →
      goes_on (replaced all texts (l ∷ rest)) ≡ (if is_comment (body l.bytes) then later else continues l.bytes)
  goes-kept l rest later inside kept same =
      ap (λ here. goes_on (here ++ replaced all texts rest)) kept ∙ goes-copied l.bytes (replaced all texts rest) inside ∙ ap (λ next. if is_comment (body l.bytes) then next else continues l.bytes) same

  goes-past : (l : Line) (rest : List Line) (later : Bool) → every is_inside l.bytes ≡ true → (text_at all texts l ≡ copied_line l) ⊎ (text_at all texts l ≡ []) → goes_on (replaced all texts rest) ≡ later →
      later ≡ (if is_comment (body l.bytes) then later else continues l.bytes) → goes_on (replaced all texts (l ∷ rest)) ≡ (if is_comment (body l.bytes) then later else continues l.bytes)
  goes-past l rest later inside (inl kept) same gone = goes-kept l rest later inside kept same
  goes-past l rest later inside (inr none) same gone = ap (λ here. goes_on (here ++ replaced all texts rest)) none ∙ same ∙ gone

  goes-instruction : (l : Line) (rest : List Line) (located : Bool) (i : Instr) (first : Bool) (m : ℕ) → l.class ≡ Instruction located i → IsTold all l first m → every is_inside l.bytes ≡ true → goes_on (replaced all texts rest) ≡ false →
      (if is_comment (body l.bytes) then false else continues l.bytes) ≡ false → goes_on (replaced all texts (l ∷ rest)) ≡ false
  goes-instruction l rest located i first m stated told inside same none = by_text (text_for texts m) refl
    where
      here : text_at all texts l ≡ line_text first (text_for texts m) l
      here = instruction-text all texts l located i first m stated told

      by_first : (first : Bool) (text : List ℕ) → text_for texts m ≡ Some text → goes_on ((if first then text else []) ++ replaced all texts rest) ≡ false
      by_first true text is = ends m text is (replaced all texts rest) same
      by_first false text is = same

      by_text : (text : Option (List ℕ)) → text_for texts m ≡ text → goes_on (replaced all texts (l ∷ rest)) ≡ false
      by_text None is = goes-kept l rest false inside (here ∙ ap (λ text. line_text first text l) is) same ∙ none
      by_text (Some text) is = ap (λ bytes. goes_on (bytes ++ replaced all texts rest)) (here ∙ ap (λ text. line_text first text l) is) ∙ by_first first text is

  abbrev GoesOn : List (List ℕ) → Type 0
  GoesOn lines = (s : Standing) (number run index m : ℕ) (label : List ℕ) (after : Bool) → every (every is_inside) lines ≡ true →
      AreTold all m (classes_from number run index label after (flagged_from true s lines)) → goes_on (replaced all texts (classes_from number run index label after (flagged_from true s lines))) ≡ is_continued lines

  goes-class : (c : Class) (s : Standing) (number run index m : ℕ) (label : List ℕ) (after : Bool) (line : List ℕ) (lines : List (List ℕ)) → GoesOn lines → class_at after (flagged_at true s line (is_continued lines)) ≡ c →
      every is_inside line ≡ true → every (every is_inside) lines ≡ true → AreTold all m (from_class number run index label c line (flagged_from true (after_line true s line) lines)) →
      goes_on (replaced all texts (from_class number run index label c line (flagged_from true (after_line true s line) lines))) ≡ is_continued (line ∷ lines)
  goes-class Comment s number run index m label after line lines later stated inside insides told =
      let l : Line = record { number = number; bytes = line; class = Comment; run = run; index = index; label = label } in
      let comment = (comment-line after (is_alone true s line (is_continued lines)) line (ap is_comment_class stated)).1 in
      goes-past l (classes_from (suc number) run index label false (flagged_from true (after_line true s line) lines)) (is_continued lines) inside (plain-text all texts l told.0.begins)
      (later (after_line true s line) (suc number) run index m label false insides told.1) (sym (ap (λ t. if t then is_continued lines else continues line) comment))
  goes-class Other s number run index m label after line lines later stated inside insides told =
      let l : Line = record { number = number; bytes = line; class = Other; run = run; index = index; label = label } in
      goes-kept l (classes_from (suc number) (suc run) 0 [] false (flagged_from true (after_line true s line) lines)) (is_continued lines) inside (other-text all texts l refl)
      (later (after_line true s line) (suc number) (suc run) 0 m [] false insides told.1)
  goes-class Refused s number run index m label after line lines later stated inside insides told =
      absurd (refused-none number (class_at after (flagged_at true s line (is_continued lines))) stated (cut_law.none-refused number after (is_continued lines) s line))
  goes-class (Pad located) s number run index m label after line lines later stated inside insides told =
      let c : Class = Pad located in
      let l : Line = record { number = number; bytes = line; class = c; run = run_at run c; index = place_at index c; label = label_at label c line } in
      let code = ap is_code stated in
      let none = code-ends s after line lines code in
      goes-past l (classes_from (suc number) (run_after run c) (place_after index c) (label_after label c line) true (flagged_from true (after_line true s line) lines)) (is_continued lines) inside (plain-text all texts l told.0.begins)
      (later (after_line true s line) (suc number) (run_after run c) (place_after index c) m (label_after label c line) true insides told.1) ((left-by true s after line lines code).ended ∙ sym none.1)
  goes-class (Instruction located i) s number run index m label after line lines later stated inside insides told =
      let c : Class = Instruction located i in
      let l : Line = record { number = number; bytes = line; class = c; run = run_at run c; index = place_at index c; label = label_at label c line } in
      let code = ap is_code stated in
      let none = code-ends s after line lines code in
      let ended = (left-by true s after line lines code).ended in
      goes-instruction l (classes_from (suc number) (run_after run c) (place_after index c) (label_after label c line) true (flagged_from true (after_line true s line) lines)) located i (begins_block l) (count_after (begins_block l) m) refl told.0 inside
      (later (after_line true s line) (suc number) (run_after run c) (place_after index c) (count_after (begins_block l) m) (label_after label c line) true insides told.1 ∙ ended)
      (ap (λ next. if is_comment (body line) then next else continues line) (sym ended) ∙ none.1)
      ∙ sym none.1

  goes-all : (lines : List (List ℕ)) → GoesOn lines
  goes-all [] s number run index m label after insides told = refl
  goes-all (line ∷ lines) s number run index m label after insides told =
      let both = and_parts (every is_inside line) (every (every is_inside) lines) insides in
      goes-class (class_at after (flagged_at true s line (is_continued lines))) s number run index m label after line lines (goes-all lines) refl both.0 both.1 told

abbrev pub EndsTexts : Bool → List (Option (List ℕ)) → Type 0
EndsTexts cut texts = AllTexts (λ text. (more : List ℕ) → IsQuiet cut more → IsQuiet cut (text ++ more)) texts

pub next-same : (cut : Bool) (all : List Line) (texts : List (Option (List ℕ))) → EndsTexts cut texts → (s : Standing) (lines : List (List ℕ)) (number run index m : ℕ) (label : List ℕ) (after : Bool) → every (every is_inside) lines ≡ true →
    AreTold all m (classes_from number run index label after (flagged_from cut s lines)) →
    (cut && goes_on (replaced all texts (classes_from number run index label after (flagged_from cut s lines)))) ≡ (cut && is_continued lines)
next-same false all texts ends s lines number run index m label after insides told = refl
next-same true all texts ends s lines number run index m label after insides told = goes-all all texts ends lines s number run index m label after insides told

-- BLOCKS TO COME, so many of which began before

pub record AreDue (cut quiet : Bool) (columns : Columns) (known : Redefined) (all : List Line) (texts : List (Option (List ℕ))) (m : ℕ) (blocks : List Block) (given : List (Option Placed)) : Type 0 where
  pub chosen : AreTexts quiet columns all texts m blocks given
  pub sound : AreSoundBlocks cut known columns all blocks
  pub within : AreGiven blocks given
  pub complete : AreComplete blocks given

pub within-others : (block : Block) (blocks : List Block) (given : List (Option Placed)) → AreGiven (block ∷ blocks) given → AreGiven blocks (others given)
within-others block [] [] h = tt
within-others block (b ∷ blocks) [] h = tt
within-others block blocks (None ∷ given) h = h
within-others block blocks (Some p ∷ given) h = h.1

pub complete-others : (block : Block) (blocks : List Block) (given : List (Option Placed)) → AreComplete (block ∷ blocks) given → AreComplete blocks (others given)
complete-others block [] [] h = tt
complete-others block (b ∷ blocks) [] h = tt
complete-others block blocks (None ∷ given) h = h
complete-others block blocks (Some p ∷ given) h = h.1

-- the order of the first
first-order : (block : Block) (blocks : List Block) (given : List (Option Placed)) (p : Placed) → AreGiven (block ∷ blocks) given → AreComplete (block ∷ blocks) given → get_or given 0 None ≡ Some p → AreWithin block p.order × (length p.order ≡ length block.entries)
first-order block blocks [] p within complete is = cc
first-order block blocks (None ∷ given) p within complete is = cc
first-order block blocks (Some q ∷ given) p within complete is =
    let same : q ≡ p = cc in
    subst (λ (r : Placed). AreWithin block r.order × (length r.order ≡ length block.entries)) same (within.0, complete.0)

-- WHAT IS READ

-- the blocks so far, and the open one
pub record Opened : Type 0 where
  pub blocks : List Block
  pub label : List ℕ
  pub entries : List Entry

abbrev pub opened : SourceState → Opened
opened t = record { blocks = t.blocks; label = t.label; entries = t.entries }

abbrev pub open_blocks : Opened → List Block
open_blocks o = with_open o.blocks o.label o.entries

-- what has to be known of the state before a block that begins next, which has this label: if none, the block stands for itself; and
-- if the block stands, it is read into an empty one
abbrev pub IsFresh : List (Option (List ℕ)) → ℕ → List ℕ → Opened → Type 0
IsFresh texts m label o = (label ≡ [] → (o.entries ≡ []) × (o.label ≡ [])) × (get_or texts m None ≡ None → (o.entries ≡ []) × (o.label ≡ label))

-- and before lines to come, of which this many are left of the part that is begun. Of one that stands as much is open as was read; one
-- that is printed anew was read whole
abbrev pub Ready : (stands : Bool) → List (Option (List ℕ)) → (m index : ℕ) → List ℕ → ℕ → Opened → Type 0
Ready false texts m index label count o =
    (index % BLOCK_LIMIT ≡ 0 → IsFresh texts m (if index == 0 then label else []) o) × ((index % BLOCK_LIMIT ≡ 0 → ⊥) → (text : List ℕ) × (text_for texts m ≡ Some text)) × (index % BLOCK_LIMIT + count ≡ BLOCK_LIMIT → (o.entries ≡ []) × (o.label ≡ []))
Ready true texts m index label count o = (index % BLOCK_LIMIT ≡ length o.entries) × (1 ≤ length o.entries) × (text_for texts m ≡ None)

-- these blocks, and then those of the parts as they are given
pub record Follows (parts : List (List Line)) (given : List (Option Placed)) (blocks again : List Block) : Type 0 where
  pub new : List Block
  pub whole : again ≡ blocks ++ new
  pub placed : AreGivenAgain (map block_of parts) given new

-- the blocks so far, the open one with what is left of its part, and then those of the parts
pub record Resumes (left : List Line) (parts : List (List Line)) (given : List (Option Placed)) (o : Opened) (again : List Block) : Type 0 where
  pub made : Block
  pub new : List Block
  pub whole : again ≡ o.blocks ++ made ∷ new
  pub same : IsSameAgain (labelled o.label (o.entries ++ map entry_of left)) made
  pub placed : AreGivenAgain (map block_of parts) given new

abbrev pub IsReadOn : (stands : Bool) → List Line → List (List Line) → List (Option Placed) → Opened → List Block → Type 0
IsReadOn false left parts given o again = Follows parts given (open_blocks o) again
IsReadOn true left parts given o again = Resumes left parts given o again

open-is : (blocks : List Block) (label : List ℕ) (entries : List Entry) → 1 ≤ length entries → with_open blocks label entries ≡ blocks ++ labelled label entries ∷ []
open-is blocks label [] some = absurd (omega (arith, some))
open-is blocks label (e ∷ entries) some = refl

-- one block more, and then the others
one-more : (blocks later again new : List Block) (made : Block) → later ≡ blocks ++ made ∷ [] → again ≡ later ++ new → again ≡ blocks ++ made ∷ new
one-more blocks later again new made h k = k ∙ ap (λ bs. bs ++ new) h ∙ append_assoc blocks (made ∷ []) new

-- nothing is left of the part that is begun
ended : (stands : Bool) (texts : List (Option (List ℕ))) (m index : ℕ) (label : List ℕ) (count : ℕ) (parts : List (List Line)) (given : List (Option Placed)) (o : Opened) (again : List Block) → Ready stands texts m index label count o →
    Follows parts given (open_blocks o) again → IsReadOn stands [] parts given o again
ended false texts m index label count parts given o again ready f = f
ended true texts m index label count parts given o again ready f =
    let made : Block = labelled o.label o.entries in
    let all : o.entries ≡ o.entries ++ [] = sym (append-nil o.entries) in
    record {
      made = made;
      new = f.new;
      whole = one-more o.blocks (open_blocks o) again f.new made (open-is o.blocks o.label o.entries ready.1) f.whole;
      same = record { label = refl; instrs = ap (map (λ (e : Entry). e.instr)) all; bytes = ap (map (λ (e : Entry). e.bytes)) all };
      placed = f.placed;
    }

-- an entry in place of another, with what follows it
swap : {X : Type 0} (f : Entry → X) (entries : List Entry) (e d : Entry) (rest : List Entry) → f e ≡ f d → map f ((entries ++ e ∷ []) ++ rest) ≡ map f (entries ++ d ∷ rest)
swap f [] e d rest h = ap (λ x. x ∷ map f rest) h
swap f (a ∷ entries) e d rest h = ap (λ xs. f a ∷ xs) (swap f entries e d rest h)

-- the lines after an instruction, and their parts
abbrev pub lines_after : ℕ → Line → List Flagged → List Line
lines_after run l lines = classes_from (suc l.number) run (suc l.index) l.label true lines

abbrev pub parts_after : ℕ → Line → List Flagged → List (List Line)
parts_after run l lines = parts_of (instructions (lines_after run l lines))

-- the parts from one that begins with it on
abbrev pub parts_at : ℕ → Line → List Flagged → List (List Line)
parts_at run l lines = (l ∷ left (parts_after run l lines)) ∷ behind (parts_after run l lines)

pub rest-taken : (l : Line) (lines : List Line) → refusal (l ∷ lines) ≡ None → refusal lines ≡ None
rest-taken l lines h = (neither (refusal_at l) (refusal lines) h).1

pub none-refused : (number : ℕ) (lines : List Line) (l : Line) → l.class ≡ Refused → refusal (l ∷ lines) ≡ None → ⊥
none-refused number lines l stated taken = refused-none l.number l.class stated (taken-line l (neither _ _ taken).0).operand

-- a comment changes nothing of what stands
pub stays-comment : (cut : Bool) (s : Standing) (after continued : Bool) (line : List ℕ) → class_at after (flagged_at cut s line continued) ≡ Comment → after_line cut s line ≡ s
stays-comment cut s after continued line stated =
    let parts = comment-line after (is_alone cut s line continued) line (ap is_comment_class stated) in
    let is = taken cut s line continued parts.0 in
    comment-stays cut s line is.free is.unflagged parts.1

module _ (cut quiet : Bool) (columns : Columns) (known : Redefined) (all : List Line) (texts : List (Option (List ℕ))) (source : AreLinesOfSource cut all) (ends : EndsTexts cut texts) where
  -- the text of lines is read after what stands before them
  abbrev pub Reads : List (List ℕ) → Type 0
  Reads lines = (stands : Bool) (s : Standing) (number run index m : ℕ) (label : List ℕ) (after : Bool) (given : List (Option Placed)) (t : SourceState) (again : List Block) →
      let flagged : List Flagged = flagged_from cut s lines in
      let found : List (List Line) = parts_from number run index label after flagged in
      every (every is_inside) lines ≡ true → s.redefined ≡ known → refusal (classes_from number run index label after flagged) ≡ None → AreTold all m (classes_from number run index label after flagged) →
      AreDue cut quiet columns known all texts m (map block_of (behind found)) given → Ready stands texts m index label (length (left found)) (opened t) →
      read_at cut s t (replaced all texts (classes_from number run index label after flagged)) ≡ Ok again → IsReadOn stands (left found) (behind found) given (opened t) again

  abbrev ReadsClass : Class → List ℕ → List (List ℕ) → Type 0
  ReadsClass c line lines = (stands : Bool) (s : Standing) (number run index m : ℕ) (label : List ℕ) (after : Bool) (given : List (Option Placed)) (t : SourceState) (again : List Block) →
      let flagged : List Flagged = flagged_from cut (after_line cut s line) lines in
      let found : List (List Line) = parts_by number run index label c line flagged in
      class_at after (flagged_at cut s line (is_continued lines)) ≡ c → every is_inside line ≡ true → every (every is_inside) lines ≡ true → (after_line cut s line).redefined ≡ known →
      refusal (from_class number run index label c line flagged) ≡ None → AreTold all m (from_class number run index label c line flagged) →
      AreDue cut quiet columns known all texts m (map block_of (behind found)) given → Ready stands texts m index label (length (left found)) (opened t) →
      read_at cut s t (replaced all texts (from_class number run index label c line flagged)) ≡ Ok again → IsReadOn stands (left found) (behind found) given (opened t) again

  -- A LINE THAT IS COPIED, or of which nothing is printed

  kept-line : (s : Standing) (l : Line) (rest : List Line) (after continued : Bool) (t : SourceState) (again : List Block) → class_at after (flagged_at cut s l.bytes continued) ≡ l.class → every is_inside l.bytes ≡ true → operand_refusal l.number l.class ≡ None →
      (cut && goes_on (replaced all texts rest)) ≡ (cut && continued) → text_at all texts l ≡ copied_line l → read_at cut s t (replaced all texts (l ∷ rest)) ≡ Ok again →
      and_then (by_class t l.class (label_bytes (body l.bytes)) (from_operation (body l.bytes))) (λ u. read_at cut (after_line cut s l.bytes) u (replaced all texts rest)) ≡ Ok again
  kept-line s l rest after continued t again stated inside accepted next kept h =
      ap (λ c. and_then (by_class t c (label_bytes (body l.bytes)) (from_operation (body l.bytes))) (λ u. read_at cut (after_line cut s l.bytes) u (replaced all texts rest))) (sym stated)
      ∙ read-copied cut s t after continued l.bytes (replaced all texts rest) l.number again inside next (ap (operand_refusal l.number) stated ∙ accepted)
      (read-as cut s t _ _ again (ap (λ here. here ++ replaced all texts rest) kept) h)

  gone-line : (s : Standing) (l : Line) (rest : List Line) (t : SourceState) (again : List Block) → text_at all texts l ≡ [] → after_line cut s l.bytes ≡ s → read_at cut s t (replaced all texts (l ∷ rest)) ≡ Ok again →
      read_at cut (after_line cut s l.bytes) t (replaced all texts rest) ≡ Ok again
  gone-line s l rest t again gone stays h =
      subst (λ stands. read_at cut stands t (replaced all texts rest) ≡ Ok again) (sym stays) (read-as cut s t _ _ again (ap (λ here. here ++ replaced all texts rest) gone) h)

  reads-comment : (line : List ℕ) (lines : List (List ℕ)) → Reads lines → ReadsClass Comment line lines
  reads-comment line lines reads stands s number run index m label after given t again stated inside insides same taken told due ready h =
      let l : Line = record { number = number; bytes = line; class = Comment; run = run; index = index; label = label } in
      let rest : List Line = classes_from (suc number) run index label false (flagged_from cut (after_line cut s line) lines) in
      elim (plain-text all texts l told.0.begins) [
        | inl kept ↦
            reads stands (after_line cut s line) (suc number) run index m label false given (count_line false t) again insides same (rest-taken l rest taken) told.1 due ready
            (kept-line s l rest after (is_continued lines) t again stated inside refl (next-same cut all texts ends (after_line cut s line) lines (suc number) run index m label false insides told.1) kept h)
        | inr gone ↦
            reads stands (after_line cut s line) (suc number) run index m label false given t again insides same (rest-taken l rest taken) told.1 due ready
            (gone-line s l rest t again gone (stays-comment cut s after (is_continued lines) line stated) h)
      ]

  reads-pad : (line : List ℕ) (lines : List (List ℕ)) → Reads lines → ReadsClass (Pad false) line lines
  reads-pad line lines reads stands s number run index m label after given t again stated inside insides same taken told due ready h =
      let l : Line = record { number = number; bytes = line; class = Pad false; run = run; index = index; label = label } in
      let rest : List Line = classes_from (suc number) run index label true (flagged_from cut (after_line cut s line) lines) in
      elim (plain-text all texts l told.0.begins) [
        | inl kept ↦
            reads stands (after_line cut s line) (suc number) run index m label true given (count_line true t) again insides same (rest-taken l rest taken) told.1 due ready
            (kept-line s l rest after (is_continued lines) t again stated inside refl (next-same cut all texts ends (after_line cut s line) lines (suc number) run index m label true insides told.1) kept h)
        | inr gone ↦
            reads stands (after_line cut s line) (suc number) run index m label true given t again insides same (rest-taken l rest taken) told.1 due ready
            (gone-line s l rest t again gone (left-by cut s after line lines (ap is_code stated)).stays h)
      ]

  -- a run that begins with a label, and of which no instruction came
  ready-labelled : (lines : List Flagged) (number run m : ℕ) (label : List ℕ) (after : Bool) (t : SourceState) → is_filled label ≡ true → (get_or texts m None ≡ None → (t.entries ≡ []) × (t.label ≡ label)) →
      Ready false texts m 0 label (length (left (parts_from number run 0 label after lines))) (opened t)
  ready-labelled lines number run m label after t some new =
      let none = ap (λ (ls : List Line). length ls) (none-left lines number run 0 label after refl) in
      (λ here. (λ empty. absurd (true≢false (sym some ∙ ap is_filled empty)), new), λ within. absurd (within refl), λ all. absurd (omega (arith, none, all)))

  reads-labelled_pad : (line : List ℕ) (lines : List (List ℕ)) → Reads lines → ReadsClass (Pad true) line lines
  reads-labelled_pad line lines reads stands s number run index m label after given t again stated inside insides same taken told due ready h =
      subst (λ ls. IsReadOn stands ls (behind found) given (opened t) again) (sym (none-left flagged (suc number) (suc run) 0 new true refl))
      (ended stands texts m index label (length (left found)) (behind found) given (opened t) again ready (by_next (get_or texts m None) refl))
    where
      flagged : List Flagged
      flagged = flagged_from cut (after_line cut s line) lines

      new : List ℕ
      new = label_bytes (body line)

      found : List (List Line)
      found = parts_from (suc number) (suc run) 0 new true flagged

      l : Line
      l = record { number = number; bytes = line; class = Pad true; run = suc run; index = 0; label = new }

      rest : List Line
      rest = classes_from (suc number) (suc run) 0 new true flagged

      filled : is_filled new ≡ true
      filled = (located-label after (is_alone cut s line (is_continued lines)) line (ap begins_run stated) inside).1

      kept-so : text_at all texts l ≡ copied_line l → Follows (behind found) given (open_blocks (opened t)) again
      kept-so kept =
          reads false (after_line cut s line) (suc number) (suc run) 0 m new true given (count_line true (begin_run new t)) again insides same (rest-taken l rest taken) told.1 due
          (ready-labelled flagged (suc number) (suc run) m new true (count_line true (begin_run new t)) filled (λ none. (refl, refl)))
          (kept-line s l rest after (is_continued lines) t again stated inside refl (next-same cut all texts ends (after_line cut s line) lines (suc number) (suc run) 0 m new true insides told.1) kept h)

      by_next : (next : Option (List ℕ)) → get_or texts m None ≡ next → Follows (behind found) given (open_blocks (opened t)) again
      by_next None is = kept-so (pad-text all texts l m refl refl told.0.begun is)
      by_next (Some text) is =
          elim (plain-text all texts l told.0.begins) [
            | inl kept ↦ kept-so kept
            | inr gone ↦
                reads false (after_line cut s line) (suc number) (suc run) 0 m new true given t again insides same (rest-taken l rest taken) told.1 due
                (ready-labelled flagged (suc number) (suc run) m new true t filled (λ none. cc))
                (gone-line s l rest t again gone (left-by cut s after line lines (ap is_code stated)).stays h)
          ]

  reads-other : (line : List ℕ) (lines : List (List ℕ)) → Reads lines → ReadsClass Other line lines
  reads-other line lines reads stands s number run index m label after given t again stated inside insides same taken told due ready h =
      let flagged : List Flagged = flagged_from cut (after_line cut s line) lines in
      let found : List (List Line) = parts_from (suc number) (suc run) 0 [] false flagged in
      let l : Line = record { number = number; bytes = line; class = Other; run = run; index = index; label = label } in
      let rest : List Line = classes_from (suc number) (suc run) 0 [] false flagged in
      let u : SourceState = count_line false (end_block t) in
      let f : Follows (behind found) given (open_blocks (opened u)) again =
      reads false (after_line cut s line) (suc number) (suc run) 0 m [] false given u again insides same (rest-taken l rest taken) told.1 due (λ here. (λ empty. (refl, refl), λ none. (refl, refl)), λ within. absurd (within refl), λ all. (refl, refl))
      (kept-line s l rest after (is_continued lines) t again stated inside refl (next-same cut all texts ends (after_line cut s line) lines (suc number) (suc run) 0 m [] false insides told.1) (other-text all texts l refl) h) in
      subst (λ ls. IsReadOn stands ls (behind found) given (opened t) again) (sym (none-left flagged (suc number) (suc run) 0 [] false refl))
      (ended stands texts m index label (length (left found)) (behind found) given (opened t) again ready f)

  -- AN INSTRUCTION OF A BLOCK THAT STANDS, after as much of it as is open

  stands-on : (lines : List (List ℕ)) → Reads lines → (s : Standing) (run m : ℕ) (l : Line) (located : Bool) (i : Instr) (given : List (Option Placed)) (u : SourceState) (again : List Block) →
      let flagged : List Flagged = flagged_from cut s lines in
      l.class ≡ Instruction located i → every (every is_inside) lines ≡ true → s.redefined ≡ known → refusal (lines_after run l flagged) ≡ None → AreTold all m (lines_after run l flagged) →
      AreDue cut quiet columns known all texts m (map block_of (behind (parts_after run l flagged))) given → text_for texts m ≡ None → l.index % BLOCK_LIMIT ≡ length u.entries →
      and_then (by_class u (Instruction false i) (label_bytes (body l.bytes)) (from_operation (body l.bytes))) (λ v. read_at cut s v (replaced all texts (lines_after run l flagged))) ≡ Ok again →
      Resumes (l ∷ left (parts_after run l flagged)) (behind (parts_after run l flagged)) given (opened u) again
  stands-on lines reads s run m l located i given u again stated insides same taken told due none at h = by_full (eqb (length (u.entries ++ e ∷ [])) BLOCK_LIMIT) refl h
    where
      flagged : List Flagged
      flagged = flagged_from cut s lines

      found : List (List Line)
      found = parts_after run l flagged

      rest : List Line
      rest = lines_after run l flagged

      e : Entry
      e = record { instr = i; line = suc u.count; bytes = from_operation (body l.bytes) }

      instr : e.instr ≡ instr_in l.class
      instr = sym (ap instr_in stated)

      by_full : (full : Bool) → eqb (length (u.entries ++ e ∷ [])) BLOCK_LIMIT ≡ full → read_at cut s (count_line true (if full then end_block (with_one e u) else with_one e u)) (replaced all texts rest) ≡ Ok again →
          Resumes (l ∷ left found) (behind found) given (opened u) again
      by_full true full h =
          let v : SourceState = count_line true (end_block (with_one e u)) in
          let made : Block = labelled u.label (u.entries ++ e ∷ []) in
          let many = sym (length-push u.entries e) ∙ eqb-true (length (u.entries ++ e ∷ [])) BLOCK_LIMIT full in
          let begins = full-index l.index (length u.entries) at many in
          let empty = none-left flagged (suc l.number) run (suc l.index) l.label true begins in
          let all_read : u.entries ++ e ∷ [] ≡ (u.entries ++ e ∷ []) ++ map entry_of (left found) = sym (ap (λ ls. (u.entries ++ e ∷ []) ++ map entry_of ls) empty ∙ append-nil (u.entries ++ e ∷ [])) in
          let f : Follows (behind found) given (open_blocks (opened v)) again =
          reads false s (suc l.number) run (suc l.index) m l.label true given v again insides same taken told due
          (λ here. (λ none. (refl, refl), λ next. (refl, sym (ap (λ t. if t then l.label else []) (eqb-suc-zero l.index)))), λ within. absurd (within begins), λ all. (refl, refl)) h in
          record {
            made = made;
            new = f.new;
            whole = one-more u.blocks (open_blocks (opened v)) again f.new made (with_open-push u.blocks u.label u.entries e) f.whole;
            same = record {
              label = refl;
              instrs = ap (map (λ (e : Entry). e.instr)) all_read ∙ swap (λ (e : Entry). e.instr) u.entries e (entry_of l) (map entry_of (left found)) instr;
              bytes = ap (map (λ (e : Entry). e.bytes)) all_read ∙ swap (λ (e : Entry). e.bytes) u.entries e (entry_of l) (map entry_of (left found)) refl;
            };
            placed = f.placed;
          }
      by_full false full h =
          let v : SourceState = count_line true (with_one e u) in
          let count = length-push u.entries e in
          let few : suc (length u.entries) ≡ BLOCK_LIMIT → ⊥ = λ many. eqb-false (length (u.entries ++ e ∷ [])) BLOCK_LIMIT full (count ∙ many) in
          let r : Resumes (left found) (behind found) given (opened v) again =
          reads true s (suc l.number) run (suc l.index) m l.label true given v again insides same taken told due (next-index l.index (length u.entries) at few ∙ sym count, omega (arith, count), none) h in
          record {
            made = r.made;
            new = r.new;
            whole = r.whole;
            same = record {
              label = r.same.label;
              instrs = r.same.instrs ∙ swap (λ (e : Entry). e.instr) u.entries e (entry_of l) (map entry_of (left found)) instr;
              bytes = r.same.bytes ∙ swap (λ (e : Entry). e.bytes) u.entries e (entry_of l) (map entry_of (left found)) refl;
            };
            placed = r.placed;
          }

  -- THE FIRST INSTRUCTION OF A BLOCK

  reads-first : (lines : List (List ℕ)) → Reads lines → (s : Standing) (run m : ℕ) (l : Line) (located : Bool) (i : Instr) (after : Bool) (given : List (Option Placed)) (t : SourceState) (again : List Block) →
      let flagged : List Flagged = flagged_from cut (after_line cut s l.bytes) lines in
      l.class ≡ Instruction located i → class_at after (flagged_at cut s l.bytes (is_continued lines)) ≡ Instruction located i → every is_inside l.bytes ≡ true → every (every is_inside) lines ≡ true → (after_line cut s l.bytes).redefined ≡ known →
      refusal (lines_after run l flagged) ≡ None → IsTold all l true (suc m) → AreTold all (suc m) (lines_after run l flagged) → AreDue cut quiet columns known all texts m (map block_of (parts_at run l flagged)) given → l.index % BLOCK_LIMIT ≡ 0 →
      ((if l.index == 0 then l.label else []) ≡ [] → Ended t) →
      (get_or texts m None ≡ None → ((begin_run_if located (label_bytes (body l.bytes)) t).entries ≡ []) × ((begin_run_if located (label_bytes (body l.bytes)) t).label ≡ (if l.index == 0 then l.label else []))
      × ((begin_run_if located (label_bytes (body l.bytes)) t).blocks ≡ open_blocks (opened t))) →
      read_at cut s t (replaced all texts (l ∷ lines_after run l flagged)) ≡ Ok again → Follows (parts_at run l flagged) given (open_blocks (opened t)) again
  reads-first lines reads s run m l located i after given t again is stated inside insides same taken told_here told due begins new new_stands h = by_given (get_or given 0 None) refl
    where
      stands : Standing
      stands = after_line cut s l.bytes

      flagged : List Flagged
      flagged = flagged_from cut stands lines

      found : List (List Line)
      found = parts_after run l flagged

      rest : List Line
      rest = lines_after run l flagged

      block : Block
      block = block_of (l ∷ left found)

      blocks : List Block
      blocks = map block_of (behind found)

      left_by : IsLeft cut s l.bytes lines
      left_by = left-by cut s after l.bytes lines (ap is_code stated)

      next : (cut && goes_on (replaced all texts rest)) ≡ (cut && is_continued lines)
      next = next-same cut all texts ends stands lines (suc l.number) run (suc l.index) (suc m) l.label true insides told

      due_others : AreDue cut quiet columns known all texts (suc m) blocks (others given)
      due_others = record {
        chosen = others-given quiet columns all texts m block blocks given due.chosen;
        sound = due.sound.1;
        within = within-others block blocks given due.within;
        complete = complete-others block blocks given due.complete;
      }

      by_given : (o : Option Placed) → get_or given 0 None ≡ o → Follows (parts_at run l flagged) given (open_blocks (opened t)) again
      by_given None given_is =
          let none : get_or texts m None ≡ None = first-given quiet columns all texts m block blocks given due.chosen ∙ ap (chosen_text quiet columns all (suc m) block) given_is in
          let u : SourceState = begin_run_if located (label_bytes (body l.bytes)) t in
          let begun = new_stands none in
          let kept : text_at all texts l ≡ copied_line l = instruction-text all texts l located i true (suc m) is told_here ∙ ap (λ text. line_text true text l) none in
          let step = kept-line s l rest after (is_continued lines) t again (stated ∙ sym is) inside (ap (operand_refusal l.number) is) next kept h in
          let r = stands-on lines reads stands run (suc m) l located i (others given) u again is insides same taken told due_others none (begins ∙ sym (ap (λ (es : List Entry). length es) begun.0))
          (ap (λ c. and_then (by_class t c (label_bytes (body l.bytes)) (from_operation (body l.bytes))) (λ v. read_at cut stands v (replaced all texts rest))) (sym is) ∙ step) in
          let whole_block : labelled u.label (u.entries ++ map entry_of (l ∷ left found)) ≡ block = ap₂ (λ label entries. labelled label (entries ++ map entry_of (l ∷ left found))) begun.1 begun.0 in
          record {
            new = r.made ∷ r.new;
            whole = subst (λ bs. again ≡ bs ++ r.made ∷ r.new) begun.2 r.whole;
            placed = (subst (IsGivenAgain block r.made) (sym given_is) (subst (λ b. IsSameAgain b r.made) whole_block r.same), r.placed);
          }
      by_given (Some p) given_is =
          let some : get_or texts m None ≡ Some (anew_text quiet columns all (suc m) block p) = first-given quiet columns all texts m block blocks given due.chosen ∙ ap (chosen_text quiet columns all (suc m) block) given_is in
          let printed : text_at all texts l ≡ anew_text quiet columns all (suc m) block p = instruction-text all texts l located i true (suc m) is told_here ∙ ap (λ text. line_text true text l) some in
          let text : List ℕ = replaced all texts rest in
          let order = first-order block blocks given p due.within due.complete given_is in
          let one : suc l.index % BLOCK_LIMIT ≡ 1 = next-index l.index 0 begins (λ same. absurd (omega (arith, same))) in
          let count : length (map entry_of (left found)) ≡ length (left found) = length-map (left found) entry_of in
          let redefined : s.redefined ≡ known = ap (λ (s : Standing). s.redefined) (sym left_by.stays) ∙ same in
          let few = due.sound.0.few in
          let a = read-block cut quiet columns s all (suc m) block p t text again left_by.free (next ∙ left_by.ended) source new (subst (λ known. IsSoundBlock cut known columns all block) (sym redefined) due.sound.0) order.0
          (omega (arith, order.1)) (omega (arith, order.1, few)) (read-as cut s t _ _ again (ap (λ here. here ++ text) printed) h) in
          let f : Follows (behind found) (others given) (open_blocks (opened a.state)) again =
          reads false stands (suc l.number) run (suc l.index) (suc m) l.label true (others given) a.state again insides same taken told due_others
          (λ here. absurd (omega (arith, one, here)), λ within. (anew_text quiet columns all (suc m) block p, some), λ all. a.full (omega (arith, all, one, count, order.1)))
          (subst (λ u. read_at cut u a.state text ≡ Ok again) (sym left_by.stays) a.read) in
          record {
            new = a.made ∷ f.new;
            whole = one-more (open_blocks (opened t)) (open_blocks (opened a.state)) again f.new a.made a.whole f.whole;
            placed = (subst (IsGivenAgain block a.made) (sym given_is) a.placed, f.placed);
          }

  -- ONE MORE INSTRUCTION of a block

  -- which is printed before it
  ready-more : (lines : List Flagged) (number run index m count : ℕ) (label : List ℕ) (t : SourceState) → (index % BLOCK_LIMIT ≡ 0 → ⊥) → count ≡ suc (length (left (parts_from number run (suc index) label true lines))) →
      Ready false texts m index label count (opened t) → (text : List ℕ) → text_for texts m ≡ Some text → Ready false texts m (suc index) label (length (left (parts_from number run (suc index) label true lines))) (opened t)
  ready-more lines number run index m count label t inside one ready text given = by_full (eqb (suc (index % BLOCK_LIMIT)) BLOCK_LIMIT) refl
    where
      by_full : (full : Bool) → eqb (suc (index % BLOCK_LIMIT)) BLOCK_LIMIT ≡ full → Ready false texts m (suc index) label (length (left (parts_from number run (suc index) label true lines))) (opened t)
      by_full true stated =
          let all = eqb-true (suc (index % BLOCK_LIMIT)) BLOCK_LIMIT stated in
          let begins = full-index index (index % BLOCK_LIMIT) refl all in
          let none = ap (λ (ls : List Line). length ls) (none-left lines number run (suc index) label true begins) in
          let whole = ready.2 (omega (arith, all, none, one)) in
          let unlabelled : t.label ≡ (if suc index == 0 then label else []) = whole.1 ∙ sym (ap (λ t. if t then label else []) (eqb-suc-zero index)) in
          (λ here. (λ empty. whole, λ next. (whole.0, unlabelled)), λ within. (text, given), λ many. absurd (omega (arith, begins, none, many)))
      by_full false stated =
          let next = next-index index (index % BLOCK_LIMIT) refl (eqb-false (suc (index % BLOCK_LIMIT)) BLOCK_LIMIT stated) in
          (λ here. absurd (omega (arith, next, here)), λ within. (text, given), λ many. ready.2 (omega (arith, next, many, one)))

  reads-more : (lines : List (List ℕ)) → Reads lines → (stands : Bool) (s : Standing) (run m : ℕ) (l : Line) (i : Instr) (after : Bool) (given : List (Option Placed)) (t : SourceState) (again : List Block) →
      let flagged : List Flagged = flagged_from cut (after_line cut s l.bytes) lines in
      l.class ≡ Instruction false i → class_at after (flagged_at cut s l.bytes (is_continued lines)) ≡ Instruction false i → every is_inside l.bytes ≡ true → every (every is_inside) lines ≡ true → (after_line cut s l.bytes).redefined ≡ known →
      refusal (lines_after run l flagged) ≡ None → IsTold all l false m → AreTold all m (lines_after run l flagged) → AreDue cut quiet columns known all texts m (map block_of (behind (parts_after run l flagged))) given →
      (l.index % BLOCK_LIMIT ≡ 0 → ⊥) → Ready stands texts m l.index l.label (suc (length (left (parts_after run l flagged)))) (opened t) → read_at cut s t (replaced all texts (l ∷ lines_after run l flagged)) ≡ Ok again →
      IsReadOn stands (l ∷ left (parts_after run l flagged)) (behind (parts_after run l flagged)) given (opened t) again
  reads-more lines reads false s run m l i after given t again is stated inside insides same taken told_here told due within ready h =
      let stands : Standing = after_line cut s l.bytes in
      let flagged : List Flagged = flagged_from cut stands lines in
      let begun = ready.1 within in
      let gone : text_at all texts l ≡ [] = instruction-text all texts l false i false m is told_here ∙ ap (λ text. line_text false text l) begun.1 in
      reads false stands (suc l.number) run (suc l.index) m l.label true given t again insides same taken told due
      (ready-more flagged (suc l.number) run l.index m (suc (length (left (parts_after run l flagged)))) l.label t within refl ready begun.0 begun.1)
      (gone-line s l (lines_after run l flagged) t again gone (left-by cut s after l.bytes lines (ap is_code stated)).stays h)
  reads-more lines reads true s run m l i after given t again is stated inside insides same taken told_here told due within ready h =
      let stands : Standing = after_line cut s l.bytes in
      let flagged : List Flagged = flagged_from cut stands lines in
      let rest : List Line = lines_after run l flagged in
      let kept : text_at all texts l ≡ copied_line l = instruction-text all texts l false i false m is told_here ∙ ap (λ text. line_text false text l) ready.2 in
      let step = kept-line s l rest after (is_continued lines) t again (stated ∙ sym is) inside (ap (operand_refusal l.number) is)
      (next-same cut all texts ends stands lines (suc l.number) run (suc l.index) m l.label true insides told) kept h in
      stands-on lines reads stands run m l false i given t again is insides same taken told due ready.2 ready.0
      (ap (λ c. and_then (by_class t c (label_bytes (body l.bytes)) (from_operation (body l.bytes))) (λ v. read_at cut stands v (replaced all texts rest))) (sym is) ∙ step)

  -- ANY INSTRUCTION

  reads-instruction : (i : Instr) (line : List ℕ) (lines : List (List ℕ)) → Reads lines → ReadsClass (Instruction false i) line lines
  reads-instruction i line lines reads stands s number run index m label after given t again stated inside insides same taken told due ready h =
      subst (λ ls. IsReadOn stands ls (behind (put_before l found)) given (opened t) again) (sym (left-put l found))
      (subst (λ later. IsReadOn stands (if begins_block l then [] else l ∷ left found) later given (opened t) again) (sym (behind-put l found))
      (by_begins (begins_block l) refl told.0 told.1 (subst (λ later. AreDue cut quiet columns known all texts m (map block_of later) given) (behind-put l found) due)
      (subst (λ ls. Ready stands texts m index label (length ls) (opened t)) (left-put l found) ready)))
    where
      flagged : List Flagged
      flagged = flagged_from cut (after_line cut s line) lines

      l : Line
      l = record { number = number; bytes = line; class = Instruction false i; run = run; index = index; label = label }

      found : List (List Line)
      found = parts_from (suc number) run (suc index) label true flagged

      rest : List Line
      rest = classes_from (suc number) run (suc index) label true flagged

      by_begins : (first : Bool) → begins_block l ≡ first → IsTold all l first (count_after first m) → AreTold all (count_after first m) rest → AreDue cut quiet columns known all texts m (map block_of (if first then parts_at run l flagged else behind found)) given →
          Ready stands texts m index label (length (if first then [] else l ∷ left found)) (opened t) → IsReadOn stands (if first then [] else l ∷ left found) (if first then parts_at run l flagged else behind found) given (opened t) again
      by_begins false here told_here told due ready =
          reads-more lines reads stands s run m l i after given t again refl stated inside insides same (rest-taken l rest taken) told_here told due (eqb-false (index % BLOCK_LIMIT) 0 here) ready h
      by_begins true here told_here told due ready = by_stands stands ready
        where
          at : index % BLOCK_LIMIT ≡ 0
          at = eqb-true (index % BLOCK_LIMIT) 0 here

          by_stands : (stands : Bool) → Ready stands texts m index label 0 (opened t) → IsReadOn stands [] (parts_at run l flagged) given (opened t) again
          by_stands true ready = absurd (omega (arith, at, ready.0, ready.1))
          by_stands false ready =
              let fresh = ready.0 at in
              reads-first lines reads s run m l false i after given t again refl stated inside insides same (rest-taken l rest taken) told_here told due at fresh.0
              (λ none. let begun = fresh.1 none in (begun.0, begun.1, sym (ap (λ es. with_open t.blocks t.label es) begun.0))) h

  reads-labelled : (i : Instr) (line : List ℕ) (lines : List (List ℕ)) → Reads lines → ReadsClass (Instruction true i) line lines
  reads-labelled i line lines reads stands s number run index m label after given t again stated inside insides same taken told due ready h =
      let flagged : List Flagged = flagged_from cut (after_line cut s line) lines in
      let new : List ℕ = label_bytes (body line) in
      let l : Line = record { number = number; bytes = line; class = Instruction true i; run = suc run; index = 0; label = new } in
      let found : List (List Line) = parts_from (suc number) (suc run) 1 new true flagged in
      let rest : List Line = classes_from (suc number) (suc run) 1 new true flagged in
      let filled = (located-label after (is_alone cut s line (is_continued lines)) line (ap begins_run stated) inside).1 in
      subst (λ ls. IsReadOn stands ls (behind (put_before l found)) given (opened t) again) (sym (left-put l found))
      (subst (λ later. IsReadOn stands [] later given (opened t) again) (sym (behind-put l found))
      (ended stands texts m index label (length (left (put_before l found))) (parts_at (suc run) l flagged) given (opened t) again ready
      (reads-first lines reads s (suc run) m l true i after given t again refl stated inside insides same (rest-taken l rest taken) told.0 told.1
      (subst (λ later. AreDue cut quiet columns known all texts m (map block_of later) given) (behind-put l found) due) refl
      (λ empty. absurd (true≢false (sym filled ∙ ap is_filled empty))) (λ none. (refl, refl, refl)) h)))

  -- ALL LINES

  reads-class : (c : Class) (line : List ℕ) (lines : List (List ℕ)) → Reads lines → ReadsClass c line lines
  reads-class Comment line lines reads = reads-comment line lines reads
  reads-class Other line lines reads = reads-other line lines reads
  reads-class Refused line lines reads = λ stands s number run index m label after given t again stated inside insides same taken told due ready h.
      absurd (none-refused number (classes_from (suc number) run index label false (flagged_from cut (after_line cut s line) lines))
      (record { number = number; bytes = line; class = Refused; run = run; index = index; label = label }) refl taken)
  reads-class (Pad true) line lines reads = reads-labelled_pad line lines reads
  reads-class (Pad false) line lines reads = reads-pad line lines reads
  reads-class (Instruction true i) line lines reads = reads-labelled i line lines reads
  reads-class (Instruction false i) line lines reads = reads-instruction i line lines reads

  pub reads-all : (lines : List (List ℕ)) → Reads lines
  reads-all [] stands s number run index m label after given t again insides same taken told due ready h =
      ended stands texts m index label 0 [] given (opened t) again ready (record { new = []; whole = same-blocks again (open_blocks (opened t)) (Ok (open_blocks (opened t))) h refl ∙ sym (append-nil (open_blocks (opened t))); placed = tt })
  reads-all (line ∷ lines) stands s number run index m label after given t again insides same taken told due ready h =
      let both = and_parts (every is_inside line) (every (every is_inside) lines) insides in
      reads-class (class_at after (flagged_at cut s line (is_continued lines))) line lines (reads-all lines) stands s number run index m label after given t again refl both.0 both.1 (same-redefined cut s line ∙ same) taken told due ready h
