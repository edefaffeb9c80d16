-- The frame of a source, line by line: a NO stands in it once its run has ended without an instruction.
use Rattle.std.proofs.Common.{◌≡◌, ◌≢◌, ◌%◌, ◌==◌, ◌||◌, ◌∙◌, not, ℕ, zero, suc, Bool, true, false, true≢false, if◌then◌else◌, List, [], ◌∷◌, ◌++◌, None, map, refl, sym, ap, ap₂, arith, append_assoc}
use Rattle.std.proofs.Common.{eq-eqb, Ok, ne_eqb, append-nil}
use Rattle.s66_isa.specs.{BLOCK_LIMIT}
use Rattle.s66_line.specs.{Block, line_of, body, from_location, label_bytes, trim, is_trailing, Class, Comment, Other, Refused, Pad, Instruction}
use Rattle.s66_source.specs.{FramePart, block_part, frame_of, frame_of_lines, is_beside, line_part, part_beside, Flagged, Reading, class_at, flagged_lines, Line, begins_block, block_of, blocks_of}
use Rattle.s66_source.specs.{classed_lines, classes_from, instructions, parts_of, put_before, refusal, source_of}
use Rattle.s66_source.proofs.LineLaw.{no_refusal}
use Rattle.s66_source.proofs.PrintedLines.{ordered-classed}
use Rattle.s66_source.proofs.LineTexts.{AllFrom, all-from, parts_by, parts_from}
use Rattle.s66_source.proofs.ReadAgain.{none-refused, rest-taken}
use Rattle.s66_source.proofs.ReaderBlocks.{fresh, from_class, behind, behind-begins, behind-put, left}
use Rattle.s66_source.proofs.Runs.{Within, begun, block-new, block-same, has_run, none-ahead, none-behind, run-skip, some-ahead, within-more, within-new, within-same}
use Rattle.s66_compare.specs.{Shape, shape_of, shapes}

-- WHAT IS KNOWN before a line

abbrev pub line_shape : List ℕ → Shape
line_shape bytes = record { is_block = false; bytes = trim is_trailing bytes }

abbrev pub block_shape : List ℕ → Shape
block_shape label = record { is_block = true; bytes = from_location label }

-- the line before is code; the NOs of a run that has no instruction so far; how many instructions it has; and its label
pub record Reached : Type 0 where
  pub after : Bool
  pub pads : List Shape
  pub index : ℕ
  pub label : List ℕ

abbrev pub reached : Bool → List Shape → ℕ → List ℕ → Reached
reached after pads index label = record { after = after; pads = pads; index = index; label = label }

-- the label of a block that begins after so many instructions of its run
abbrev pub first_label : ℕ → List ℕ → List ℕ
first_label zero label = label
first_label (suc n) label = []

-- what a line of this class adds to the frame
abbrev pub emit : Reached → Class → List ℕ → List Shape
emit r Comment line = []
emit r Other line = r.pads ++ line_shape line ∷ []
emit r Refused line = []
emit r (Pad false) line = []
emit r (Pad true) line = r.pads
emit r (Instruction false i) line = if r.index % BLOCK_LIMIT == 0 then block_shape (first_label r.index r.label) ∷ [] else []
emit r (Instruction true i) line = r.pads ++ block_shape (label_bytes (body line)) ∷ []

abbrev pub next : Reached → Class → List ℕ → Reached
next r Comment line = reached false r.pads r.index r.label
next r Other line = reached false [] 0 []
next r Refused line = reached false r.pads r.index r.label
next r (Pad false) line = reached true (if begun r.index then [] else r.pads ++ line_shape line ∷ []) r.index r.label
next r (Pad true) line = reached true (line_shape line ∷ []) 0 (label_bytes (body line))
next r (Instruction false i) line = reached true [] (suc r.index) r.label
next r (Instruction true i) line = reached true [] 1 (label_bytes (body line))

abbrev pub runs : Reached → List Flagged → List Shape
runs r [] = r.pads
runs r (line ∷ lines) = emit r (class_at r.after line) line.bytes ++ runs (next r (class_at r.after line) line.bytes) lines

-- THE FRAME, line by line

shapes-append : (ps qs : List FramePart) → shapes (ps ++ qs) ≡ shapes ps ++ shapes qs
shapes-append [] qs = refl
shapes-append (p ∷ ps) qs = ap (λ ss. shape_of p ∷ ss) (shapes-append ps qs)

frame-line : (all : List Line) (parts : List (List Line)) (l : Line) (lines : List Line) → AllFrom (suc l.number) parts →
    frame_of_lines all (map block_of parts) (l ∷ lines) ≡ part_beside all l ++ frame_of_lines all (map block_of parts) lines
frame-line all [] l lines h = refl
frame-line all ([] ∷ parts) l lines h = absurd h
frame-line all ((m ∷ more) ∷ parts) l lines h = rw (ne_eqb m.number l.number (λ same. absurd (omega (arith, same, h.0)))) refl

frame-first : (all : List Line) (block : Block) (blocks : List Block) (l : Line) (lines : List Line) → line_of block 1 ≡ l.number → frame_of_lines all (block ∷ blocks) (l ∷ lines) ≡ block_part block ∷ frame_of_lines all blocks lines
frame-first all block blocks l lines same = rw (eq-eqb (line_of block 1) l.number same) refl

abbrev if_beside : Bool → List ℕ → List Shape
if_beside b line = if b then line_shape line ∷ [] else []

-- a line at which no block begins
shapes-line : (all : List Line) (parts : List (List Line)) (l : Line) (lines : List Line) (b : Bool) → AllFrom (suc l.number) parts → is_beside all l ≡ b →
    shapes (frame_of_lines all (map block_of parts) (l ∷ lines)) ≡ if_beside b l.bytes ++ shapes (frame_of_lines all (map block_of parts) lines)
shapes-line all parts l lines b first beside =
    ap shapes (frame-line all parts l lines first) ∙ shapes-append (part_beside all l) (frame_of_lines all (map block_of parts) lines)
    ∙ ap (λ ps. ps ++ shapes (frame_of_lines all (map block_of parts) lines)) (ap (λ t. shapes (if t then line_part l ∷ [] else [])) beside ∙ by_test b)
  where
    by_test : (t : Bool) → shapes (if t then line_part l ∷ [] else []) ≡ if_beside t l.bytes
    by_test true = refl
    by_test false = refl

pub first-label : (index : ℕ) (label : List ℕ) → (if index == 0 then label else []) ≡ first_label index label
first-label zero label = refl
first-label (suc n) label = ap (λ t. if t then label else []) (ne_eqb (suc n) 0 (λ none. omega (arith, none)))

-- an instruction, with which a block begins or goes on
shapes-put : (all : List Line) (parts : List (List Line)) (l : Line) (lines : List Line) → AllFrom (suc l.number) (behind parts) → is_beside all l ≡ false →
    shapes (frame_of_lines all (map block_of (behind (put_before l parts))) (l ∷ lines))
    ≡ (if begins_block l then block_shape (first_label l.index l.label) ∷ [] else []) ++ shapes (frame_of_lines all (map block_of (behind parts)) lines)
shapes-put all parts l lines first beside =
    ap (λ found. shapes (frame_of_lines all (map block_of found) (l ∷ lines))) (behind-put l parts) ∙ by_begins (begins_block l)
  where
    by_begins : (t : Bool) → shapes (frame_of_lines all (map block_of (if t then (l ∷ left parts) ∷ behind parts else behind parts)) (l ∷ lines))
        ≡ (if t then block_shape (first_label l.index l.label) ∷ [] else []) ++ shapes (frame_of_lines all (map block_of (behind parts)) lines)
    by_begins true =
        ap shapes (frame-first all (block_of (l ∷ left parts)) (map block_of (behind parts)) l lines refl)
        ∙ ap (λ label. block_shape label ∷ shapes (frame_of_lines all (map block_of (behind parts)) lines)) (first-label l.index l.label)
    by_begins false = shapes-line all (behind parts) l lines false first beside

-- THE LINES TO COME

no-pads : (t : Bool) (more : List Shape) → (if t then [] else []) ++ more ≡ more
no-pads true more = refl
no-pads false more = refl

pads-kept : (b a : Bool) (pads more : List Shape) (x : Shape) → (b ≡ true → pads ≡ []) →
    (if a then [] else (if b then [] else pads ++ x ∷ [])) ++ more ≡ (if a then [] else pads) ++ ((if not (b || a) then x ∷ [] else []) ++ more)
pads-kept true true pads more x none = refl
pads-kept true false pads more x none = sym (ap (λ ps. ps ++ more) (none refl))
pads-kept false true pads more x none = refl
pads-kept false false pads more x none = append_assoc pads (x ∷ []) more

pads-new : (a : Bool) (pads more : List Shape) (x : Shape) → pads ++ ((if a then [] else x ∷ []) ++ more) ≡ (if false then [] else pads) ++ ((if not a then x ∷ [] else []) ++ more)
pads-new true pads more x = refl
pads-new false pads more x = refl

abbrev Framed : List Flagged → Type 0
Framed lines = (all before : List Line) (number run index : ℕ) (label : List ℕ) (after : Bool) (pads : List Shape) →
    Within all before (classes_from number run index label after lines) run index → refusal (classes_from number run index label after lines) ≡ None → (begun index ≡ true → pads ≡ []) →
    runs (reached after pads index label) lines
    ≡ (if has_run run (classes_from number run index label after lines) then [] else pads) ++ shapes (frame_of_lines all (map block_of (behind (parts_from number run index label after lines))) (classes_from number run index label after lines))

framed-class : (c : Class) (line : List ℕ) (lines : List Flagged) → Framed lines → (all before : List Line) (number run index : ℕ) (label : List ℕ) (after : Bool) (pads : List Shape) →
    Within all before (from_class number run index label c line lines) run index → refusal (from_class number run index label c line lines) ≡ None → (begun index ≡ true → pads ≡ []) →
    emit (reached after pads index label) c line ++ runs (next (reached after pads index label) c line) lines
    ≡ (if has_run run (from_class number run index label c line lines) then [] else pads) ++ shapes (frame_of_lines all (map block_of (behind (parts_by number run index label c line lines))) (from_class number run index label c line lines))
framed-class Comment line lines framed all before number run index label after pads within taken none =
    let l : Line = record { number = number; bytes = line; class = Comment; run = run; index = index; label = label } in
    let rest : List Line = classes_from (suc number) run index label false lines in
    framed all (before ++ l ∷ []) (suc number) run index label false pads (within-same all before l rest run index within refl refl) (rest-taken l rest taken) none
    ∙ ap₂ (λ (t : Bool) (ss : List Shape). (if t then [] else pads) ++ ss) (sym (run-skip run l rest refl))
    (sym (shapes-line all (behind (parts_from (suc number) run index label false lines)) l rest false (all-from lines (suc number) run index label false) refl))
framed-class Refused line lines framed all before number run index label after pads within taken none =
    absurd (none-refused number (classes_from (suc number) run index label false lines) (record { number = number; bytes = line; class = Refused; run = run; index = index; label = label }) refl taken)
framed-class Other line lines framed all before number run index label after pads within taken none =
    let l : Line = record { number = number; bytes = line; class = Other; run = run; index = index; label = label } in
    let rest : List Line = classes_from (suc number) (suc run) 0 [] false lines in
    let parts : List (List Line) = behind (parts_from (suc number) (suc run) 0 [] false lines) in
    let more : List Shape = shapes (frame_of_lines all (map block_of parts) rest) in
    ap (λ ss. (pads ++ line_shape line ∷ []) ++ ss)
    (framed all (before ++ l ∷ []) (suc number) (suc run) 0 [] false [] (within-new all before l rest run index within (omega arith) refl) (rest-taken l rest taken) (λ h. refl) ∙ no-pads (has_run (suc run) rest) more)
    ∙ append_assoc pads (line_shape line ∷ []) more
    ∙ ap₂ (λ (t : Bool) (ss : List Shape). (if t then [] else pads) ++ ss) (sym (none-ahead run (suc number) l rest (ordered-classed lines (suc number) (suc run) 0 [] false) refl))
    (sym (shapes-line all parts l rest true (all-from lines (suc number) (suc run) 0 [] false) refl))
framed-class (Pad false) line lines framed all before number run index label after pads within taken none =
    let l : Line = record { number = number; bytes = line; class = Pad false; run = run; index = index; label = label } in
    let rest : List Line = classes_from (suc number) run index label true lines in
    let parts : List (List Line) = behind (parts_from (suc number) run index label true lines) in
    let more : List Shape = shapes (frame_of_lines all (map block_of parts) rest) in
    let kept : List Shape = if begun index then [] else pads ++ line_shape line ∷ [] in
    framed all (before ++ l ∷ []) (suc number) run index label true kept (within-same all before l rest run index within refl refl) (rest-taken l rest taken)
    (λ h. ap (λ (t : Bool). if t then [] else pads ++ line_shape line ∷ []) h)
    ∙ pads-kept (begun index) (has_run run rest) pads more (line_shape line) none
    ∙ ap₂ (λ (t : Bool) (ss : List Shape). (if t then [] else pads) ++ ss) (sym (run-skip run l rest refl))
    (sym (shapes-line all parts l rest (not (begun index || has_run run rest)) (all-from lines (suc number) run index label true) (ap not (block-same all before l rest run index within refl refl))))
framed-class (Pad true) line lines framed all before number run index label after pads within taken none =
    let new : List ℕ = label_bytes (body line) in
    let l : Line = record { number = number; bytes = line; class = Pad true; run = suc run; index = 0; label = new } in
    let rest : List Line = classes_from (suc number) (suc run) 0 new true lines in
    let parts : List (List Line) = behind (parts_from (suc number) (suc run) 0 new true lines) in
    let more : List Shape = shapes (frame_of_lines all (map block_of parts) rest) in
    ap (λ ss. pads ++ ss)
    (framed all (before ++ l ∷ []) (suc number) (suc run) 0 new true (line_shape line ∷ []) (within-new all before l rest run index within (omega arith) refl) (rest-taken l rest taken) (λ h. absurd (true≢false (sym h))))
    ∙ pads-new (has_run (suc run) rest) pads more (line_shape line)
    ∙ ap₂ (λ (t : Bool) (ss : List Shape). (if t then [] else pads) ++ ss) (sym (none-ahead run (suc number) l rest (ordered-classed lines (suc number) (suc run) 0 new true) refl))
    (sym (shapes-line all parts l rest (not (has_run (suc run) rest)) (all-from lines (suc number) (suc run) 0 new true) (ap not (block-new all before l rest run index within refl refl))))
framed-class (Instruction false i) line lines framed all before number run index label after pads within taken none =
    let l : Line = record { number = number; bytes = line; class = Instruction false i; run = run; index = index; label = label } in
    let rest : List Line = classes_from (suc number) run (suc index) label true lines in
    let parts : List (List Line) = parts_from (suc number) run (suc index) label true lines in
    let more : List Shape = shapes (frame_of_lines all (map block_of (behind parts)) rest) in
    ap (λ ss. (if begins_block l then block_shape (first_label index label) ∷ [] else []) ++ ss)
    (framed all (before ++ l ∷ []) (suc number) run (suc index) label true [] (within-more all before l rest run run index index within (omega arith) refl refl) (rest-taken l rest taken) (λ h. refl) ∙ no-pads (has_run run rest) more)
    ∙ ap₂ (λ (t : Bool) (ss : List Shape). (if t then [] else pads) ++ ss) (sym (some-ahead run l rest refl refl)) (sym (shapes-put all parts l rest (all-from lines (suc number) run (suc index) label true) refl))
framed-class (Instruction true i) line lines framed all before number run index label after pads within taken none =
    let new : List ℕ = label_bytes (body line) in
    let l : Line = record { number = number; bytes = line; class = Instruction true i; run = suc run; index = 0; label = new } in
    let rest : List Line = classes_from (suc number) (suc run) 1 new true lines in
    let parts : List (List Line) = parts_from (suc number) (suc run) 1 new true lines in
    let more : List Shape = shapes (frame_of_lines all (map block_of (behind parts)) rest) in
    ap (λ ss. (pads ++ block_shape new ∷ []) ++ ss)
    (framed all (before ++ l ∷ []) (suc number) (suc run) 1 new true [] (within-more all before l rest run (suc run) index 0 within (omega arith) refl refl) (rest-taken l rest taken) (λ h. refl) ∙ no-pads (has_run (suc run) rest) more)
    ∙ append_assoc pads (block_shape new ∷ []) more
    ∙ ap₂ (λ (t : Bool) (ss : List Shape). (if t then [] else pads) ++ ss) (sym (none-behind run (suc number) l rest (ordered-classed lines (suc number) (suc run) 1 new true) refl)) (sym (shapes-put all parts l rest (all-from lines (suc number) (suc run) 1 new true) refl))

frames-all : (lines : List Flagged) → Framed lines
frames-all [] all before number run index label after pads within taken none = sym (append-nil pads)
frames-all (line ∷ lines) all before number run index label after pads within taken none =
    framed-class (class_at after line) line.bytes lines (frames-all lines) all before number run index label after pads within taken none

-- A WHOLE SOURCE

pub frame-runs : (source : Reading) (blocks : List Block) → source_of source ≡ Ok blocks → runs (reached false [] 0 []) (flagged_lines source) ≡ shapes (frame_of source)
frame-runs source blocks accepted =
    let all : List Line = classed_lines source in
    let parts : List (List Line) = parts_of (instructions all) in
    frames-all (flagged_lines source) all [] 1 0 0 [] false [] (record { whole = refl; past = tt; begins = refl }) (no_refusal (refusal all) (blocks_of all) blocks accepted) (λ h. refl)
    ∙ no-pads (has_run 0 all) (shapes (frame_of_lines all (map block_of (behind parts)) all))
    ∙ ap (λ found. shapes (frame_of_lines all (map block_of found) all)) (behind-begins parts (fresh (flagged_lines source) 1 0 0 [] false refl))
