-- The frame of a printed text that is accepted when it is read again is that of its source, whichever of its blocks stand.
use Rattle.std.proofs.Common.{◌≡◌, ◌≤◌, ◌+◌, ◌%◌, ◌==◌, ◌||◌, ◌∙◌, not, ℕ, zero, suc, Bool, true, false, true≢false, if◌then◌else◌, Option, None, Some, List, [], ◌∷◌, ◌++◌, get_or, length, map, refl}
use Rattle.std.proofs.Common.{sym, ap, ap₂, subst, inl, inr, arith, append_assoc, eqb, Ok, is_none, eqb-true, ne_eqb}
use Rattle.std.proofs.lemmas.Bool.{and_parts, eqb-false}
use Rattle.std.proofs.lemmas.List.{length-map}
use Rattle.s66_isa.specs.{Among, every, Instr, BLOCK_LIMIT}
use Rattle.s66_line.specs.{Block, begins_run, is_code, body, label_bytes, lines_of, is_filled, Class, Comment, Other, Refused, Pad, Instruction}
use Rattle.s66_line.proofs.Wholes.{AreLines-lines_of, is_inside}
use Rattle.s66_source.specs.{FramePart, frame_of, Flagged, Reading, Standing, after_line, at_first, class_at, flagged_from, flagged_lines, is_alone, is_continued, redefined_by, Placed, copied_line}
use Rattle.s66_source.specs.{AreComplete, Redefined, AreGiven, line_text, others, printed_in, replaced, text_for, texts_of, Line, begins_block, block_of, blocks_of, classed_lines, classes_from}
use Rattle.s66_source.specs.{entry_of, instructions, parts_of, put_before, refusal, source_of}
use Rattle.s66_source.specs.declared.columns.Columns.{Columns}
use Rattle.s66_source.proofs.LineLaw.{no_refusal}
use Rattle.s66_source.proofs.LineTexts.{AreTexts, AreTold, IsTold, chosen_text, count_after, first-given, instruction-text, none-left, other-text, others-given, parts_by, parts_from, plain-text}
use Rattle.s66_source.proofs.LineTexts.{told-source}
use Rattle.s66_source.proofs.PartsLaw.{parts}
use Rattle.s66_source.proofs.PrintedLines.{accepted-is, ordered-classed}
use Rattle.s66_source.proofs.ReadAgain.{EndsTexts, IsLeft, complete-others, left-by, lines_after, next-same, none-refused, parts_after, rest-taken, stays-comment, within-others}
use Rattle.s66_source.proofs.ReadBlock.{quiet-block}
use Rattle.s66_source.proofs.ReadComments.{AreLinesOfSource, lines-of_source}
use Rattle.s66_source.proofs.ReadLine.{IsLabel}
use Rattle.s66_source.proofs.ReadStanding.{IsQuiet, flagged_at}
use Rattle.s66_source.proofs.ReaderBlocks.{fresh, from_class, full-index, next-index, behind, behind-begins, behind-put, left, left-begins, left-put}
use Rattle.s66_source.proofs.Runs.{Within, begun, block-new, block-same, has_run, none-ahead, none-behind, run-skip, some-ahead, within-more, within-new, within-same}
use Rattle.s66_source.proofs.SoundBlocks.{AreSoundBlocks, all-texts, located-label, sound-source}
use Rattle.s66_source.proofs.SourceAgain.{redefined-again}
use Rattle.s66_source.proofs.Standings.{code-stays, same-redefined}
use Rattle.s66_compare.specs.{Shape, first_difference, shape_of, shapes}
use Rattle.s66_compare.proofs.Differences.{same-alike}
use Rattle.s66_compare.proofs.FrameRuns.{Reached, block_shape, emit, first-label, first_label, frame-runs, line_shape, next, reached, runs}
use Rattle.s66_compare.proofs.LinesAgain.{Clean, Free, GiveBlocks, GivesBlock, GivesIf, clean-classed, gives-anew, gives-copied, gives_at}
use Rattle.s66_compare.proofs.PadTexts.{dropped-text, stands_at}

-- WHAT IS KNOWN before a line of the source and before what is printed of it and the lines after it

-- what stood before the run in the printed text and isn't in the frame yet; it comes with the next block, which has a label, unless this stands
abbrev owed : (ahead stands : Bool) → ℕ → List Shape → List Shape
owed ahead stands index had = if begun index then [] else (if ahead then (if stands then [] else had) else [])

-- the source has these NOs of the run and this many instructions of it, and one to come or none; the printed text had these NOs, and ended
-- with this many instructions under this label. The block that began last stands, and the next one
record Fit (ahead stood stands : Bool) (index : ℕ) (label : List ℕ) (count : ℕ) (pads had : List Shape) (place : ℕ) (name : List ℕ) : Type 0 where
  begins : begun index ≡ true → (pads ≡ []) × (had ≡ [])
  alone : begun index ≡ false → ahead ≡ false → (begun place ≡ false) × (had ≡ pads)
  owes : begun index ≡ false → label ≡ [] → ahead ≡ true → stands ≡ false → had ≡ []
  -- one that stands has its label
  named : begun index ≡ false → ahead ≡ true → stands ≡ true → (place ≡ index) × (name ≡ label)
  -- an unlabelled block that begins next stands for itself
  ready : (index % BLOCK_LIMIT ≡ 0 → first_label index label ≡ [] → Free place name) × (stood ≡ false → index % BLOCK_LIMIT + count ≡ BLOCK_LIMIT → Free place name)
  -- of one that stands as many instructions came
  same : begun index ≡ true → stood ≡ true → (place % BLOCK_LIMIT ≡ index % BLOCK_LIMIT) × (begun place ≡ true)

nothing-owed : (stands : Bool) (index : ℕ) (had : List Shape) → owed false stands index had ≡ []
nothing-owed stands zero had = refl
nothing-owed stands (suc n) had = refl

none-standing : (ahead : Bool) (index : ℕ) (had : List Shape) → owed ahead true index had ≡ []
none-standing true zero had = refl
none-standing false zero had = refl
none-standing ahead (suc n) had = refl

by-begun : {X : Type 0} (index : ℕ) → (begun index ≡ true → X) → (begun index ≡ false → X) → X
by-begun zero if_so if_not = if_not refl
by-begun (suc n) if_so if_not = if_so refl

no-begun : {X : Type 0} → begun 0 ≡ true → X
no-begun h = absurd (true≢false (sym h))

-- when the run ends without another instruction
flush : (ahead stood stands : Bool) (index count place : ℕ) (label name : List ℕ) (pads had : List Shape) → ahead ≡ false → Fit ahead stood stands index label count pads had place name → had ≡ owed ahead stands index had ++ pads
flush ahead stood stands index count place label name pads had none fit =
    by-begun index (λ h. (let both = fit.begins h in both.1 ∙ sym both.0)) (λ h. (fit.alone h none).1)
    ∙ sym (ap (λ ss. ss ++ pads) (ap (λ a. owed a stands index had) none ∙ nothing-owed stands index had))

fit-as : (ahead other stood stands : Bool) (index : ℕ) (label : List ℕ) (count : ℕ) (pads had : List Shape) (place : ℕ) (name : List ℕ) → ahead ≡ other → Fit ahead stood stands index label count pads had place name → Fit other stood stands index label count pads had place name
fit-as ahead other stood stands index label count pads had place name same fit = subst (λ a. Fit a stood stands index label count pads had place name) same fit

filled-some : (label : List ℕ) → is_filled label ≡ true → label ≡ [] → ⊥
filled-some label some empty = true≢false (sym some ∙ ap is_filled empty)

owed-nothing : (a t : Bool) (index : ℕ) → owed a t index [] ≡ []
owed-nothing true true zero = refl
owed-nothing true false zero = refl
owed-nothing false t zero = refl
owed-nothing a t (suc n) = refl

-- HOW MANY INSTRUCTIONS came

step-index : (index k : ℕ) → index % BLOCK_LIMIT ≡ 0 → suc k ≤ BLOCK_LIMIT → (index + k) % BLOCK_LIMIT ≡ k
step-index index zero at few =
    let same : index + 0 ≡ index = omega arith in
    ap (λ m. m % BLOCK_LIMIT) same ∙ at
step-index index (suc k) at few =
    let same : index + suc k ≡ suc (index + k) = omega arith in
    ap (λ m. m % BLOCK_LIMIT) same ∙ next-index (index + k) k (step-index index k at (omega (arith, few))) (λ full. omega (arith, full, few))

whole-index : (index count : ℕ) → index % BLOCK_LIMIT ≡ 0 → count ≡ BLOCK_LIMIT → (index + count) % BLOCK_LIMIT ≡ 0
whole-index index count at full =
    let same : index + count ≡ suc (index + 127) = omega (arith, full) in
    ap (λ m. m % BLOCK_LIMIT) same ∙ full-index (index + 127) 127 (step-index index 127 at (omega arith)) (omega arith)

later-label : (index : ℕ) (label : List ℕ) → 1 ≤ index → first_label index label ≡ []
later-label zero label some = absurd (omega (arith, some))
later-label (suc n) label some = refl

-- one more instruction, in the source and in the printed text
same-next : (index place : ℕ) → place % BLOCK_LIMIT ≡ index % BLOCK_LIMIT → suc place % BLOCK_LIMIT ≡ suc index % BLOCK_LIMIT
same-next index place at = by_full (eqb (suc (index % BLOCK_LIMIT)) BLOCK_LIMIT) refl
  where
    by_full : (full : Bool) → eqb (suc (index % BLOCK_LIMIT)) BLOCK_LIMIT ≡ full → suc place % BLOCK_LIMIT ≡ suc index % BLOCK_LIMIT
    by_full true stated =
        let all = eqb-true (suc (index % BLOCK_LIMIT)) BLOCK_LIMIT stated in
        full-index place (index % BLOCK_LIMIT) at all ∙ sym (full-index index (index % BLOCK_LIMIT) refl all)
    by_full false stated =
        let more = eqb-false (suc (index % BLOCK_LIMIT)) BLOCK_LIMIT stated in
        next-index place (index % BLOCK_LIMIT) at more ∙ sym (next-index index (index % BLOCK_LIMIT) refl more)

-- what stood before comes with a label
with-owed : (index : ℕ) (label : List ℕ) (had : List Shape) → (begun index ≡ false → label ≡ [] → had ≡ []) → (if is_filled (first_label index label) then had else []) ≡ owed true false index had
with-owed zero [] had owes = sym (owes refl refl)
with-owed zero (b ∷ label) had owes = refl
with-owed (suc n) label had owes = refl

-- one more of a block
ready-next : (lines : List Flagged) (number run index count : ℕ) (label : List ℕ) (place : ℕ) (name : List ℕ) → (index % BLOCK_LIMIT ≡ 0 → ⊥) → count ≡ suc (length (left (parts_from number run (suc index) label true lines))) →
    (index % BLOCK_LIMIT + count ≡ BLOCK_LIMIT → Free place name) →
    (suc index % BLOCK_LIMIT ≡ 0 → first_label (suc index) label ≡ [] → Free place name) × (suc index % BLOCK_LIMIT + length (left (parts_from number run (suc index) label true lines)) ≡ BLOCK_LIMIT → Free place name)
ready-next lines number run index count label place name inside one ready = by_full (eqb (suc (index % BLOCK_LIMIT)) BLOCK_LIMIT) refl
  where
    by_full : (full : Bool) → eqb (suc (index % BLOCK_LIMIT)) BLOCK_LIMIT ≡ full →
        (suc index % BLOCK_LIMIT ≡ 0 → first_label (suc index) label ≡ [] → Free place name) × (suc index % BLOCK_LIMIT + length (left (parts_from number run (suc index) label true lines)) ≡ BLOCK_LIMIT → Free place name)
    by_full true stated =
        let all = eqb-true (suc (index % BLOCK_LIMIT)) BLOCK_LIMIT stated in
        let begins = full-index index (index % BLOCK_LIMIT) refl all in
        let none = ap (λ (ls : List Line). length ls) (none-left lines number run (suc index) label true begins) in
        (λ here empty. ready (omega (arith, all, none, one)), λ many. absurd (omega (arith, begins, none, many)))
    by_full false stated =
        let after = next-index index (index % BLOCK_LIMIT) refl (eqb-false (suc (index % BLOCK_LIMIT)) BLOCK_LIMIT stated) in
        (λ here empty. absurd (omega (arith, after, here)), λ many. ready (omega (arith, after, many, one)))

begun-inside : (index : ℕ) → (index % BLOCK_LIMIT ≡ 0 → ⊥) → begun index ≡ true
begun-inside zero inside = absurd (inside refl)
begun-inside (suc n) inside = refl

-- where the block stands, a block begins in the printed text with the same label
alike : (index place : ℕ) (label name : List ℕ) → (begun index ≡ false → (place ≡ index) × (name ≡ label)) → (begun index ≡ true → first_label index label ≡ [] → Free place name) → index % BLOCK_LIMIT ≡ 0 →
    (place % BLOCK_LIMIT ≡ 0) × (first_label place name ≡ first_label index label)
alike zero place label name named free at = let same = named refl in (ap (λ k. k % BLOCK_LIMIT) same.0, ap₂ first_label same.0 same.1)
alike (suc n) place label name named free at = free refl refl

module _ (cut : Bool) (known : Redefined) (all : List Line) (texts : List (Option (List ℕ))) (ends : EndsTexts cut texts) where
  -- lines, after so many blocks
  abbrev Walks : List (List ℕ) → Type 0
  Walks lines = (s : Standing) (before : List Line) (number run index : ℕ) (label : List ℕ) (after : Bool) (pads : List Shape) (m : ℕ) (r : Reached) →
      let flagged : List Flagged = flagged_from cut s lines in
      s.redefined ≡ known → Within all before (classes_from number run index label after flagged) run index →
      every (every is_inside) lines ≡ true → refusal (classes_from number run index label after flagged) ≡ None → IsLabel label →
      AreTold all m (classes_from number run index label after flagged) → GiveBlocks cut known texts (suc m) (map block_of (behind (parts_from number run index label after flagged))) →
      Fit (has_run run (classes_from number run index label after flagged)) (stands_at texts m) (stands_at texts (suc m)) index label (length (left (parts_from number run index label after flagged))) pads r.pads r.index r.label →
      gives_at cut s r (replaced all texts (classes_from number run index label after flagged))
      (owed (has_run run (classes_from number run index label after flagged)) (stands_at texts (suc m)) index r.pads ++ runs (reached after pads index label) flagged)

  abbrev WalksClass : Class → List ℕ → List (List ℕ) → Type 0
  WalksClass c line lines = (s : Standing) (before : List Line) (number run index : ℕ) (label : List ℕ) (after : Bool) (pads : List Shape) (m : ℕ) (r : Reached) →
      let flagged : List Flagged = flagged_from cut (after_line cut s line) lines in
      class_at after (flagged_at cut s line (is_continued lines)) ≡ c → every is_inside line ≡ true →
      (after_line cut s line).redefined ≡ known → Within all before (from_class number run index label c line flagged) run index →
      every (every is_inside) lines ≡ true → refusal (from_class number run index label c line flagged) ≡ None → IsLabel label →
      AreTold all m (from_class number run index label c line flagged) → GiveBlocks cut known texts (suc m) (map block_of (behind (parts_by number run index label c line flagged))) →
      Fit (has_run run (from_class number run index label c line flagged)) (stands_at texts m) (stands_at texts (suc m)) index label (length (left (parts_by number run index label c line flagged))) pads r.pads r.index r.label →
      gives_at cut s r (replaced all texts (from_class number run index label c line flagged))
      (owed (has_run run (from_class number run index label c line flagged)) (stands_at texts (suc m)) index r.pads ++ (emit (reached after pads index label) c line ++ runs (next (reached after pads index label) c line) flagged))

  -- A COMMENT, copied, or a note that isn't printed here

  walks-comment : (line : List ℕ) (lines : List (List ℕ)) → Walks lines → WalksClass Comment line lines
  walks-comment line lines walks s before number run index label after pads m r stated inside knows within insides taken is told are fit =
      let stands : Standing = after_line cut s line in
      let flagged : List Flagged = flagged_from cut stands lines in
      let l : Line = record { number = number; bytes = line; class = Comment; run = run; index = index; label = label } in
      let rest : List Line = classes_from (suc number) run index label false flagged in
      let text : List ℕ = replaced all texts rest in
      let size : ℕ = length (left (parts_from (suc number) run index label false flagged)) in
      let next_stands : Bool = stands_at texts (suc m) in
      let ahead : has_run run (l ∷ rest) ≡ has_run run rest = run-skip run l rest refl in
      let x : List Shape = owed (has_run run (l ∷ rest)) next_stands index r.pads ++ runs (reached false pads index label) flagged in
      let later : (a : Bool) → gives_at cut stands (reached a r.pads r.index r.label) text x =
      λ a. subst (λ t. gives_at cut stands (reached a r.pads r.index r.label) text (owed t next_stands index r.pads ++ runs (reached false pads index label) flagged)) (sym ahead)
      (walks stands (before ++ l ∷ []) (suc number) run index label false pads m (reached a r.pads r.index r.label) knows (within-same all before l rest run index within refl refl) insides (rest-taken l rest taken) is told.1 are
      (fit-as (has_run run (l ∷ rest)) (has_run run rest) (stands_at texts m) next_stands index label size pads r.pads r.index r.label ahead fit)) in
      let stays = stays-comment cut s after (is_continued lines) line stated in
      let copied = gives-copied cut s r after (is_continued lines) line text number Comment x inside (next-same cut all texts ends stands lines (suc number) run index m label false insides told.1) stated refl (later false) in
      elim (plain-text all texts l told.0.begins) [
        | inl is ↦ subst (λ t. gives_at cut s r (t ++ text) x) (sym is) copied
        | inr is ↦ subst (λ t. gives_at cut s r (t ++ text) x) (sym is) (subst (λ stand. gives_at cut stand r text x) stays (later r.after))
      ]

  -- A `NO` that goes on a run

  -- not of the run of a block; of one that stands; or of one that is printed elsewhere
  walks-pad : (line : List ℕ) (lines : List (List ℕ)) → Walks lines → WalksClass (Pad false) line lines
  walks-pad line lines walks s before number run index label after pads m r stated inside knows within insides taken is told are fit =
      subst (λ t. gives_at cut s r (t ++ text) x) (sym (dropped-text all texts l m false (begun index || has_run run rest) refl (block-same all before l rest run index within refl refl) told.0))
      (by_place (begun index) (has_run run rest) refl refl)
    where
      stands : Standing
      stands = after_line cut s line

      flagged : List Flagged
      flagged = flagged_from cut (after_line cut s line) lines

      l : Line
      l = record { number = number; bytes = line; class = Pad false; run = run; index = index; label = label }

      rest : List Line
      rest = classes_from (suc number) run index label true (flagged_from cut (after_line cut s line) lines)

      size : ℕ
      size = length (left (parts_from (suc number) run index label true (flagged_from cut (after_line cut s line) lines)))

      stood : Bool
      stood = stands_at texts m

      next_stands : Bool
      next_stands = stands_at texts (suc m)

      text : List ℕ
      text = replaced all texts rest

      kept : List Shape
      kept = if begun index then [] else pads ++ line_shape line ∷ []

      now : List Shape
      now = if begun r.index then [] else r.pads ++ line_shape line ∷ []

      ahead : has_run run (l ∷ rest) ≡ has_run run rest
      ahead = run-skip run l rest refl

      x : List Shape
      x = owed (has_run run (l ∷ rest)) next_stands index r.pads ++ runs (reached true kept index label) flagged

      kept-none : begun index ≡ true → kept ≡ []
      kept-none h = ap (λ (t : Bool). if t then [] else pads ++ line_shape line ∷ []) h

      kept-more : begun index ≡ false → kept ≡ pads ++ line_shape line ∷ []
      kept-more h = ap (λ (t : Bool). if t then [] else pads ++ line_shape line ∷ []) h

      copies : Fit (has_run run rest) stood next_stands index label size kept now r.index r.label → owed (has_run run rest) next_stands index now ≡ owed (has_run run (l ∷ rest)) next_stands index r.pads → gives_at cut s r (copied_line l ++ text) x
      copies fits owing =
          gives-copied cut s r after (is_continued lines) line text number (Pad false) x inside (next-same cut all texts ends stands lines (suc number) run index m label true insides told.1) stated refl
          (subst (λ (ss : List Shape). gives_at cut stands (reached true now r.index r.label) text (ss ++ runs (reached true kept index label) flagged)) owing
          (walks stands (before ++ l ∷ []) (suc number) run index label true kept m (reached true now r.index r.label) knows (within-same all before l rest run index within refl refl) insides (rest-taken l rest taken) is told.1 are fits))

      drops : Fit (has_run run rest) stood next_stands index label size kept r.pads r.index r.label → gives_at cut s r text x
      drops fits =
          let later = walks stands (before ++ l ∷ []) (suc number) run index label true kept m r knows (within-same all before l rest run index within refl refl) insides (rest-taken l rest taken) is told.1 are fits in
          subst (λ stand. gives_at cut stand r text x) (code-stays cut (is_continued lines) after s line (ap is_code stated))
          (subst (λ t. gives_at cut stands r text (owed t next_stands index r.pads ++ runs (reached true kept index label) flagged)) (sym ahead) later)

      -- behind an instruction of its run
      goes : begun index ≡ true → (t : Bool) → stood ≡ t → gives_at cut s r ((if t then copied_line l else []) ++ text) x
      goes some true stays =
          let at = fit.same some stays in
          let now_none : now ≡ [] = ap (λ (t : Bool). if t then [] else r.pads ++ line_shape line ∷ []) at.1 in
          copies (record {
            begins = λ h. (kept-none h, now_none);
            alone = λ none no_more. absurd (true≢false (sym some ∙ none));
            owes = λ none empty there other. absurd (true≢false (sym some ∙ none));
            named = λ none there it. absurd (true≢false (sym some ∙ none));
            ready = fit.ready;
            same = fit.same;
          }) (ap₂ (λ b (ss : List Shape). if b then [] else (if has_run run rest then (if next_stands then [] else ss) else [])) some refl
          ∙ sym (ap (λ b. if b then [] else (if has_run run (l ∷ rest) then (if next_stands then [] else r.pads) else [])) some))
      goes some false printed = drops (record {
        begins = λ h. (kept-none h, (fit.begins h).1);
        alone = λ none no_more. absurd (true≢false (sym some ∙ none));
        owes = λ none empty there other. absurd (true≢false (sym some ∙ none));
        named = λ none there it. absurd (true≢false (sym some ∙ none));
        ready = fit.ready;
        same = fit.same;
      })

      -- before the first
      leads : begun index ≡ false → has_run run rest ≡ true → (t : Bool) → next_stands ≡ t → gives_at cut s r ((if t then copied_line l else []) ++ text) x
      leads none there true stays =
          copies (record {
            begins = λ h. absurd (true≢false (sym h ∙ none));
            alone = λ none no_more. absurd (true≢false (sym there ∙ no_more));
            owes = λ none empty there other. absurd (true≢false (sym stays ∙ other));
            named = λ none some it. fit.named none (ahead ∙ some) it;
            ready = fit.ready;
            same = λ some it. absurd (true≢false (sym some ∙ none));
          }) (ap (λ t. owed (has_run run rest) t index now) stays ∙ none-standing (has_run run rest) index now
          ∙ sym (ap (λ t. owed (has_run run (l ∷ rest)) t index r.pads) stays ∙ none-standing (has_run run (l ∷ rest)) index r.pads))
      leads none there false printed = drops (record {
        begins = λ h. absurd (true≢false (sym h ∙ none));
        alone = λ none no_more. absurd (true≢false (sym there ∙ no_more));
        owes = λ none empty some other. fit.owes none empty (ahead ∙ some) other;
        named = λ none some it. absurd (true≢false (sym it ∙ printed));
        ready = fit.ready;
        same = λ some it. absurd (true≢false (sym some ∙ none));
      })

      -- in a run without an instruction
      lone : begun index ≡ false → has_run run rest ≡ false → gives_at cut s r (copied_line l ++ text) x
      lone none no_more =
          let had = fit.alone none (ahead ∙ no_more) in
          let now_is : now ≡ pads ++ line_shape line ∷ [] = ap (λ (t : Bool). if t then [] else r.pads ++ line_shape line ∷ []) had.0 ∙ ap (λ ps. ps ++ line_shape line ∷ []) had.1 in
          copies (record {
            begins = λ h. absurd (true≢false (sym h ∙ none));
            alone = λ none no_more. (had.0, now_is ∙ sym (kept-more none));
            owes = λ none empty some other. absurd (true≢false (sym some ∙ no_more));
            named = λ none some it. absurd (true≢false (sym some ∙ no_more));
            ready = fit.ready;
            same = λ some it. absurd (true≢false (sym some ∙ none));
          }) (ap (λ t. owed t next_stands index now) no_more ∙ nothing-owed next_stands index now
          ∙ sym (ap (λ t. owed t next_stands index r.pads) (ahead ∙ no_more) ∙ nothing-owed next_stands index r.pads))

      zero-index : (k : ℕ) → begun k ≡ false → (k == 0) ≡ true
      zero-index zero none = refl
      zero-index (suc k) none = absurd (true≢false none)

      some-index : (k : ℕ) → begun k ≡ true → (k == 0) ≡ false
      some-index zero some = absurd (true≢false (sym some))
      some-index (suc k) some = ne_eqb (suc k) 0 (λ same. omega (arith, same))

      by_place : (b a : Bool) → begun index ≡ b → has_run run rest ≡ a → gives_at cut s r ((if not (begun index || has_run run rest) || stands_at texts (if index == 0 then suc m else m) then copied_line l else []) ++ text) x
      by_place true a some there =
          subst (λ t. gives_at cut s r ((if t then copied_line l else []) ++ text) x)
          (sym (ap₂ (λ b t. not (b || has_run run rest) || stands_at texts (if t then suc m else m)) some (some-index index some))) (goes some stood refl)
      by_place false true none there =
          subst (λ t. gives_at cut s r ((if t then copied_line l else []) ++ text) x)
          (sym (ap₂ (λ b t. not b || stands_at texts (if t then suc m else m)) (ap₂ (λ b a. b || a) none there) (zero-index index none))) (leads none there next_stands refl)
      by_place false false none no_more =
          subst (λ t. gives_at cut s r ((if t then copied_line l else []) ++ text) x)
          (sym (ap (λ b. not b || stands_at texts (if index == 0 then suc m else m)) (ap₂ (λ b a. b || a) none no_more))) (lone none no_more)

  -- A `NO` that begins one

  walks-labelled_pad : (line : List ℕ) (lines : List (List ℕ)) → Walks lines → WalksClass (Pad true) line lines
  walks-labelled_pad line lines walks s before number run index label after pads m r stated inside knows within insides taken is told are fit =
      subst (λ t. gives_at cut s r (t ++ text) x) (sym (dropped-text all texts l m true (has_run (suc run) rest) refl (block-new all before l rest run index within refl refl) told.0))
      (by_place (has_run (suc run) rest) next_stands refl refl)
    where
      stands : Standing
      stands = after_line cut s line

      flagged : List Flagged
      flagged = flagged_from cut (after_line cut s line) lines

      new : List ℕ
      new = label_bytes (body line)

      l : Line
      l = record { number = number; bytes = line; class = Pad true; run = suc run; index = 0; label = label_bytes (body line) }

      rest : List Line
      rest = classes_from (suc number) (suc run) 0 (label_bytes (body line)) true (flagged_from cut (after_line cut s line) lines)

      size : ℕ
      size = length (left (parts_from (suc number) (suc run) 0 (label_bytes (body line)) true (flagged_from cut (after_line cut s line) lines)))

      stood : Bool
      stood = stands_at texts m

      next_stands : Bool
      next_stands = stands_at texts (suc m)

      text : List ℕ
      text = replaced all texts rest

      own : List Shape
      own = line_shape line ∷ []

      more : List Shape
      more = runs (reached true own 0 new) flagged

      x : List Shape
      x = owed (has_run run (l ∷ rest)) next_stands index r.pads ++ (pads ++ more)

      flushed : r.pads ++ more ≡ x
      flushed =
          ap (λ ss. ss ++ more) (flush (has_run run (l ∷ rest)) stood next_stands index (length (left (parts_by number run index label (Pad true) line flagged))) r.index label r.label pads r.pads
          (none-ahead run (suc number) l rest (ordered-classed flagged (suc number) (suc run) 0 new true) refl) fit)
          ∙ append_assoc (owed (has_run run (l ∷ rest)) next_stands index r.pads) pads more

      fresh_label : IsLabel (label_bytes (body line)) × (is_filled (label_bytes (body line)) ≡ true)
      fresh_label = located-label after (is_alone cut s line (is_continued lines)) line (ap begins_run stated) inside

      none_left : size ≡ 0
      none_left = ap (λ (ls : List Line). length ls) (none-left flagged (suc number) (suc run) 0 new true refl)

      ready : (place : ℕ) (name : List ℕ) → (0 % BLOCK_LIMIT ≡ 0 → first_label 0 new ≡ [] → Free place name) × (stood ≡ false → 0 % BLOCK_LIMIT + size ≡ BLOCK_LIMIT → Free place name)
      ready place name = (λ at empty. absurd (filled-some new fresh_label.1 empty), λ printed all_of_it. absurd (omega (arith, none_left, all_of_it)))

      copies : Fit (has_run (suc run) rest) stood next_stands 0 new size own own 0 new → owed (has_run (suc run) rest) next_stands 0 own ≡ [] → gives_at cut s r (copied_line l ++ text) x
      copies fits owing =
          let later = walks stands (before ++ l ∷ []) (suc number) (suc run) 0 new true own m (reached true own 0 new) knows (within-new all before l rest run index within (omega arith) refl) insides (rest-taken l rest taken) fresh_label.0 told.1 are fits in
          subst (λ (ss : List Shape). gives_at cut s r (copied_line l ++ text) ss) flushed
          (gives-copied cut s r after (is_continued lines) line text number (Pad true) more inside (next-same cut all texts ends stands lines (suc number) (suc run) 0 m new true insides told.1) stated refl
          (subst (λ (ss : List Shape). gives_at cut stands (reached true own 0 new) text (ss ++ more)) owing later))

      drops : has_run (suc run) rest ≡ true → next_stands ≡ false → gives_at cut s r text x
      drops there printed =
          let fits : Fit (has_run (suc run) rest) stood next_stands 0 new size own r.pads r.index r.label =
          record {
            begins = λ h. no-begun h;
            alone = λ first no_more. absurd (true≢false (sym there ∙ no_more));
            owes = λ first empty some other. absurd (filled-some new fresh_label.1 empty);
            named = λ first some it. absurd (true≢false (sym it ∙ printed));
            ready = ready r.index r.label;
            same = λ h it. no-begun h;
          } in
          let later = walks stands (before ++ l ∷ []) (suc number) (suc run) 0 new true own m r knows (within-new all before l rest run index within (omega arith) refl) insides (rest-taken l rest taken) fresh_label.0 told.1 are fits in
          subst (λ stand. gives_at cut stand r text x) (code-stays cut (is_continued lines) after s line (ap is_code stated))
          (subst (λ (ss : List Shape). gives_at cut stands r text ss) flushed (subst (λ (ss : List Shape). gives_at cut stands r text (ss ++ more)) (ap₂ (λ a t. owed a t 0 r.pads) there printed) later))

      by_place : (a t : Bool) → has_run (suc run) rest ≡ a → next_stands ≡ t → gives_at cut s r ((if not (has_run (suc run) rest) || next_stands then copied_line l else []) ++ text) x
      by_place true false there printed = subst (λ b. gives_at cut s r ((if b then copied_line l else []) ++ text) x) (sym (ap₂ (λ a t. not a || t) there printed)) (drops there printed)
      by_place true true there stays = subst (λ b. gives_at cut s r ((if b then copied_line l else []) ++ text) x) (sym (ap₂ (λ a t. not a || t) there stays))
          (copies (record {
            begins = λ h. no-begun h;
            alone = λ first no_more. absurd (true≢false (sym there ∙ no_more));
            owes = λ first empty some other. absurd (filled-some new fresh_label.1 empty);
            named = λ first some it. (refl, refl);
            ready = ready 0 new;
            same = λ h it. no-begun h;
          }) (ap (λ t. owed (has_run (suc run) rest) t 0 own) stays ∙ none-standing (has_run (suc run) rest) 0 own))
      by_place false t no_more it = subst (λ b. gives_at cut s r ((if b then copied_line l else []) ++ text) x) (sym (ap (λ a. not a || next_stands) no_more))
          (copies (record {
            begins = λ h. no-begun h;
            alone = λ first no_more. (refl, refl);
            owes = λ first empty some other. absurd (filled-some new fresh_label.1 empty);
            named = λ first some it. (refl, refl);
            ready = ready 0 new;
            same = λ h it. no-begun h;
          }) (ap (λ a. owed a next_stands 0 own) no_more))

  -- AN OTHER LINE

  walks-other : (line : List ℕ) (lines : List (List ℕ)) → Walks lines → WalksClass Other line lines
  walks-other line lines walks s before number run index label after pads m r stated inside knows within insides taken is told are fit =
      let stands : Standing = after_line cut s line in
      let flagged : List Flagged = flagged_from cut stands lines in
      let l : Line = record { number = number; bytes = line; class = Other; run = run; index = index; label = label } in
      let rest : List Line = classes_from (suc number) (suc run) 0 [] false flagged in
      let stood : Bool = stands_at texts m in
      let next_stands : Bool = stands_at texts (suc m) in
      let text : List ℕ = replaced all texts rest in
      let own : List Shape = line_shape line ∷ [] in
      let more : List Shape = runs (reached false [] 0 []) flagged in
      let had : List Shape = owed (has_run run (l ∷ rest)) next_stands index r.pads in
      let flushed : (r.pads ++ own) ++ more ≡ had ++ ((pads ++ own) ++ more) =
      ap (λ ss. (ss ++ own) ++ more) (flush (has_run run (l ∷ rest)) stood next_stands index (length (left (parts_by number run index label Other line flagged))) r.index label r.label pads r.pads
      (none-ahead run (suc number) l rest (ordered-classed flagged (suc number) (suc run) 0 [] false) refl) fit)
      ∙ ap (λ ss. ss ++ more) (append_assoc had pads own) ∙ append_assoc had (pads ++ own) more in
      let fits : Fit (has_run (suc run) rest) stood next_stands 0 [] (length (left (parts_from (suc number) (suc run) 0 [] false flagged))) [] [] 0 [] =
      record {
        begins = λ h. no-begun h;
        alone = λ first no_more. (refl, refl);
        owes = λ first empty some other. refl;
        named = λ first some it. (refl, refl);
        ready = (λ at empty. (refl, refl), λ printed all_of_it. (refl, refl));
        same = λ h it. no-begun h;
      } in
      let later = walks stands (before ++ l ∷ []) (suc number) (suc run) 0 [] false [] m (reached false [] 0 []) knows (within-new all before l rest run index within (omega arith) refl) insides (rest-taken l rest taken) (refl, refl) told.1 are fits in
      subst (λ t. gives_at cut s r (t ++ text) (had ++ ((pads ++ own) ++ more))) (sym (other-text all texts l refl))
      (subst (λ (ss : List Shape). gives_at cut s r (copied_line l ++ text) ss) flushed
      (gives-copied cut s r after (is_continued lines) line text number Other more inside (next-same cut all texts ends stands lines (suc number) (suc run) 0 m [] false insides told.1) stated refl
      (subst (λ (ss : List Shape). gives_at cut stands (reached false [] 0 []) text (ss ++ more)) (owed-nothing (has_run (suc run) rest) next_stands 0) later)))

  -- AN INSTRUCTION with which a block begins

  -- of a block that is printed in its place
  walks-text : (lines : List (List ℕ)) → Walks lines → (s : Standing) (before : List Line) (run : ℕ) (l : Line) (m : ℕ) (r : Reached) (here : List ℕ) →
      let flagged : List Flagged = flagged_from cut (after_line cut s l.bytes) lines in
      let found : List (List Line) = parts_after run l flagged in
      IsLeft cut s l.bytes lines → (after_line cut s l.bytes).redefined ≡ known → Within all before (lines_after run l flagged) run (suc l.index) → every (every is_inside) lines ≡ true → refusal (lines_after run l flagged) ≡ None → IsLabel l.label →
      l.index % BLOCK_LIMIT ≡ 0 → (first_label l.index l.label ≡ [] → Free r.index r.label) → text_for texts m ≡ Some here → GivesBlock cut known (block_of (l ∷ left found)) here →
      AreTold all m (lines_after run l flagged) → GiveBlocks cut known texts (suc m) (map block_of (behind found)) →
      gives_at cut s r (here ++ replaced all texts (lines_after run l flagged))
      ((if is_filled (first_label l.index l.label) then r.pads else []) ++ block_shape (first_label l.index l.label) ∷ runs (reached true [] (suc l.index) l.label) flagged)
  walks-text lines walks s before run l m r here left_by knows within insides taken is begins new found text told are =
      let stands : Standing = after_line cut s l.bytes in
      let flagged : List Flagged = flagged_from cut stands lines in
      let rest : List Line = lines_after run l flagged in
      let parts : List (List Line) = parts_after run l flagged in
      let block : Block = block_of (l ∷ left parts) in
      let more : List Shape = runs (reached true [] (suc l.index) l.label) flagged in
      let next_at : suc l.index % BLOCK_LIMIT ≡ 1 = next-index l.index 0 begins (λ same. omega (arith, same)) in
      let size : length (map entry_of (left parts)) ≡ length (left parts) = length-map (left parts) entry_of in
      let quiet : IsQuiet cut (replaced all texts rest) = next-same cut all texts ends stands lines (suc l.number) run (suc l.index) m l.label true insides told ∙ left_by.ended in
      let named : block.label ≡ first_label l.index l.label = first-label l.index l.label in
      let printed : stands_at texts m ≡ false = ap is_none found in
      let later : (index : ℕ) (name : List ℕ) → index % BLOCK_LIMIT ≡ 0 → gives_at cut s (reached true [] (index + length block.entries) name) (replaced all texts rest) more =
      λ index name at. subst (λ u. gives_at cut u (reached true [] (index + length block.entries) name) (replaced all texts rest) more) left_by.stays
      (walks stands before (suc l.number) run (suc l.index) l.label true [] m (reached true [] (index + length block.entries) name) knows within insides taken is told are
      (record {
        begins = λ h. (refl, refl);
        alone = λ none no_more. absurd (true≢false none);
        owes = λ none empty some other. refl;
        named = λ none some it. absurd (true≢false none);
        ready = (
          λ here empty. absurd (omega (arith, next_at, here)),
          λ it full. (
            whole-index index (length block.entries) at (omega (arith, full, next_at, size)),
            later-label (index + length block.entries) name (omega arith),
          ),
        );
        same = λ h it. absurd (true≢false (sym it ∙ printed));
      })) in
      subst (λ label. gives_at cut s r (here ++ replaced all texts rest) ((if is_filled label then r.pads else []) ++ block_shape label ∷ more)) named
      (text.gives s r (replaced all texts rest) more left_by.free (sym (ap (λ (u : Standing). u.redefined) left_by.stays) ∙ knows) quiet (λ empty. new (sym named ∙ empty)) later)

  -- its instruction, whether its block begins with it or before: a block begins there in both texts, or in none
  walks-standing : (lines : List (List ℕ)) → Walks lines → (s : Standing) (before : List Line) (number run index : ℕ) (label : List ℕ) (after : Bool) (i : Instr) (line : List ℕ) (m : ℕ) (r : Reached) (x : List Shape) →
      let flagged : List Flagged = flagged_from cut (after_line cut s line) lines in
      let rest : List Line = classes_from (suc number) run (suc index) label true flagged in
      class_at after (flagged_at cut s line (is_continued lines)) ≡ Instruction false i → every is_inside line ≡ true → (after_line cut s line).redefined ≡ known → Within all before rest run (suc index) → every (every is_inside) lines ≡ true → refusal rest ≡ None → IsLabel label →
      AreTold all m rest → GiveBlocks cut known texts (suc m) (map block_of (behind (parts_from (suc number) run (suc index) label true flagged))) → stands_at texts m ≡ true → r.index % BLOCK_LIMIT ≡ index % BLOCK_LIMIT →
      emit r (Instruction false i) line ++ runs (reached true [] (suc index) label) flagged ≡ x →
      gives_at cut s r ((body line ++ 10 ∷ []) ++ replaced all texts rest) x
  walks-standing lines walks s before number run index label after i line m r x stated inside knows within insides taken is told are it at same =
      let stands : Standing = after_line cut s line in
      let flagged : List Flagged = flagged_from cut stands lines in
      let text : List ℕ = replaced all texts (classes_from (suc number) run (suc index) label true flagged) in
      let more : List Shape = runs (reached true [] (suc index) label) flagged in
      let next_at : suc r.index % BLOCK_LIMIT ≡ suc index % BLOCK_LIMIT = same-next index r.index at in
      let later = walks stands before (suc number) run (suc index) label true [] m (reached true [] (suc r.index) r.label) knows within insides taken is told are
      (record {
        begins = λ h. (refl, refl);
        alone = λ none no_more. absurd (true≢false none);
        owes = λ none empty there other. refl;
        named = λ none there it. absurd (true≢false none);
        ready = (λ here empty. (next_at ∙ here, refl), λ printed many. absurd (true≢false (sym it ∙ printed)));
        same = λ some stood. (next_at, refl);
      }) in
      subst (λ (ss : List Shape). gives_at cut s r ((body line ++ 10 ∷ []) ++ text) ss) same
      (gives-copied cut s r after (is_continued lines) line text number (Instruction false i) more inside (next-same cut all texts ends stands lines (suc number) run (suc index) m label true insides told) stated refl later)

  walks-instruction : (i : Instr) (line : List ℕ) (lines : List (List ℕ)) → Walks lines → WalksClass (Instruction false i) line lines
  walks-instruction i line lines walks s before number run index label after pads m r stated inside knows within insides taken is told are fit =
      by_begins (begins_block l) refl told (subst (λ found. GiveBlocks cut known texts (suc m) (map block_of found)) (behind-put l parts) are)
    where
      flagged : List Flagged
      flagged = flagged_from cut (after_line cut s line) lines

      l : Line
      l = record { number = number; bytes = line; class = Instruction false i; run = run; index = index; label = label }

      rest : List Line
      rest = classes_from (suc number) run (suc index) label true (flagged_from cut (after_line cut s line) lines)

      parts : List (List Line)
      parts = parts_from (suc number) run (suc index) label true (flagged_from cut (after_line cut s line) lines)

      left_by : IsLeft cut s line lines
      left_by = left-by cut s after line lines (ap is_code stated)

      next_stands : Bool
      next_stands = stands_at texts (suc m)

      more : List Shape
      more = runs (reached true [] (suc index) label) (flagged_from cut (after_line cut s line) lines)

      -- what the source has of it
      begun_here : List Shape
      begun_here = if index % BLOCK_LIMIT == 0 then block_shape (first_label index label) ∷ [] else []

      x : List Shape
      x = owed (has_run run (l ∷ rest)) next_stands index r.pads ++ (begun_here ++ more)

      ahead : has_run run (l ∷ rest) ≡ true
      ahead = some-ahead run l rest refl refl

      within_rest : Within all (before ++ l ∷ []) rest run (suc index)
      within_rest = within-more all before l rest run run index index within (omega arith) refl refl

      emitted : r.index % BLOCK_LIMIT ≡ index % BLOCK_LIMIT → (index % BLOCK_LIMIT ≡ 0 → first_label r.index r.label ≡ first_label index label) → emit r (Instruction false i) line ≡ begun_here
      emitted at named = ap (λ (k : ℕ). if k == 0 then block_shape (first_label r.index r.label) ∷ [] else []) at ∙ by_first (index % BLOCK_LIMIT == 0) refl
        where
          by_first : (t : Bool) → (index % BLOCK_LIMIT == 0) ≡ t → (if t then block_shape (first_label r.index r.label) ∷ [] else []) ≡ (if t then block_shape (first_label index label) ∷ [] else [])
          by_first true here = ap (λ name. block_shape name ∷ []) (named (eqb-true (index % BLOCK_LIMIT) 0 here))
          by_first false here = refl

      standing : (n : ℕ) → AreTold all n rest → GiveBlocks cut known texts (suc n) (map block_of (behind parts)) → stands_at texts n ≡ true → r.index % BLOCK_LIMIT ≡ index % BLOCK_LIMIT → (index % BLOCK_LIMIT ≡ 0 → first_label r.index r.label ≡ first_label index label) →
          owed (has_run run (l ∷ rest)) next_stands index r.pads ≡ [] → gives_at cut s r (copied_line l ++ replaced all texts rest) x
      standing n told are it at named owing =
          walks-standing lines walks s (before ++ l ∷ []) number run index label after i line n r x stated inside knows within_rest insides (rest-taken l rest taken) is told are it at
          (ap (λ (ss : List Shape). ss ++ more) (emitted at named) ∙ sym (ap (λ (ss : List Shape). ss ++ (begun_here ++ more)) owing))

      -- the first of a block
      first : (o : Option (List ℕ)) → text_for texts (suc m) ≡ o → (index % BLOCK_LIMIT == 0) ≡ true → AreTold all (suc m) rest → GiveBlocks cut known texts (suc m) (map block_of ((l ∷ left parts) ∷ behind parts)) →
          gives_at cut s r (line_text true o l ++ replaced all texts rest) x
      first None found here told are =
          let at = eqb-true (index % BLOCK_LIMIT) 0 here in
          let it : next_stands ≡ true = ap is_none found in
          let both = alike index r.index label r.label (λ none. fit.named none ahead it) (λ some empty. fit.ready.0 at empty) at in
          standing (suc m) told are.1 it (both.0 ∙ sym at) (λ zero_at. both.1) (ap (λ t. owed (has_run run (l ∷ rest)) t index r.pads) it ∙ none-standing (has_run run (l ∷ rest)) index r.pads)
      first (Some text) found here told are =
          let at = eqb-true (index % BLOCK_LIMIT) 0 here in
          let printed : next_stands ≡ false = ap is_none found in
          let given = walks-text lines walks s (before ++ l ∷ []) run l (suc m) r text left_by knows within_rest insides (rest-taken l rest taken) is at
          (λ empty. fit.ready.0 at empty) found (subst (λ o. GivesIf cut known (block_of (l ∷ left parts)) o) found are.0) told are.1 in
          let same : (if is_filled (first_label index label) then r.pads else []) ++ block_shape (first_label index label) ∷ more ≡ x =
          ap₂ (λ (ss : List Shape) (ts : List Shape). ss ++ (ts ++ more))
          (with-owed index label r.pads (λ none empty. fit.owes none empty ahead printed) ∙ ap₂ (λ a t. owed a t index r.pads) (sym ahead) (sym printed))
          (ap (λ t. if t then block_shape (first_label index label) ∷ [] else []) (sym here)) in
          subst (λ (ss : List Shape). gives_at cut s r (text ++ replaced all texts rest) ss) same given

      -- another one
      another : (o : Option (List ℕ)) → text_for texts m ≡ o → (index % BLOCK_LIMIT == 0) ≡ false → AreTold all m rest → GiveBlocks cut known texts (suc m) (map block_of (behind parts)) →
          gives_at cut s r (line_text false o l ++ replaced all texts rest) x
      another None found here told are =
          let inside_block = eqb-false (index % BLOCK_LIMIT) 0 here in
          let some = begun-inside index inside_block in
          let it : stands_at texts m ≡ true = ap is_none found in
          standing m told are it (fit.same some it).0 (λ zero_at. absurd (inside_block zero_at)) (ap (λ (b : Bool). if b then [] else (if has_run run (l ∷ rest) then (if next_stands then [] else r.pads) else [])) some)
      another (Some text) found here told are =
          let inside_block = eqb-false (index % BLOCK_LIMIT) 0 here in
          let some = begun-inside index inside_block in
          let printed : stands_at texts m ≡ false = ap is_none found in
          let one : length (left (put_before l parts)) ≡ suc (length (left parts)) = ap (λ (ls : List Line). length ls) (left-put l parts ∙ ap (λ t. if t then [] else l ∷ left parts) here) in
          let ready = ready-next flagged (suc number) run index (length (left (put_before l parts))) label r.index r.label inside_block one (fit.ready.1 printed) in
          let later = walks (after_line cut s line) (before ++ l ∷ []) (suc number) run (suc index) label true [] m r knows within_rest insides (rest-taken l rest taken) is told are
          (record {
            begins = λ h. (refl, (fit.begins some).1);
            alone = λ none no_more. absurd (true≢false none);
            owes = λ none empty there other. absurd (true≢false none);
            named = λ none there it. absurd (true≢false none);
            ready = (ready.0, λ stood many. ready.1 many);
            same = λ h it. absurd (true≢false (sym it ∙ printed));
          }) in
          let same : more ≡ x =
          ap₂ (λ (b : Bool) (t : Bool). (if b then [] else (if has_run run (l ∷ rest) then (if next_stands then [] else r.pads) else [])) ++ ((if t then block_shape (first_label index label) ∷ [] else []) ++ more)) (sym some) (sym here) in
          subst (λ (ss : List Shape). gives_at cut s r (replaced all texts rest) ss) same
          (subst (λ stand. gives_at cut stand r (replaced all texts rest) more) left_by.stays later)

      by_begins : (t : Bool) → begins_block l ≡ t → IsTold all l t (count_after t m) × AreTold all (count_after t m) rest → GiveBlocks cut known texts (suc m) (map block_of (if t then (l ∷ left parts) ∷ behind parts else behind parts)) →
          gives_at cut s r (replaced all texts (l ∷ rest)) x
      by_begins true here told are =
          subst (λ ts. gives_at cut s r (ts ++ replaced all texts rest) x) (sym (instruction-text all texts l false i true (suc m) refl told.0)) (first (text_for texts (suc m)) refl here told.1 are)
      by_begins false here told are =
          subst (λ ts. gives_at cut s r (ts ++ replaced all texts rest) x) (sym (instruction-text all texts l false i false m refl told.0)) (another (text_for texts m) refl here told.1 are)

  walks-labelled : (i : Instr) (line : List ℕ) (lines : List (List ℕ)) → Walks lines → WalksClass (Instruction true i) line lines
  walks-labelled i line lines walks s before number run index label after pads m r stated inside knows within insides taken is told are fit =
      subst (λ ts. gives_at cut s r (ts ++ replaced all texts rest) x) (sym (instruction-text all texts l true i true (suc m) refl told.0))
      (first (text_for texts (suc m)) refl (subst (λ found. GiveBlocks cut known texts (suc m) (map block_of found)) (behind-put l parts) are))
    where
      flagged : List Flagged
      flagged = flagged_from cut (after_line cut s line) lines

      new : List ℕ
      new = label_bytes (body line)

      l : Line
      l = record { number = number; bytes = line; class = Instruction true i; run = suc run; index = 0; label = label_bytes (body line) }

      rest : List Line
      rest = classes_from (suc number) (suc run) 1 (label_bytes (body line)) true (flagged_from cut (after_line cut s line) lines)

      parts : List (List Line)
      parts = parts_from (suc number) (suc run) 1 (label_bytes (body line)) true (flagged_from cut (after_line cut s line) lines)

      next_stands : Bool
      next_stands = stands_at texts (suc m)

      more : List Shape
      more = runs (reached true [] 1 new) flagged

      here : List Shape
      here = block_shape new ∷ []

      had : List Shape
      had = owed (has_run run (l ∷ rest)) next_stands index r.pads

      x : List Shape
      x = had ++ ((pads ++ here) ++ more)

      fresh_label : IsLabel (label_bytes (body line)) × (is_filled (label_bytes (body line)) ≡ true)
      fresh_label = located-label after (is_alone cut s line (is_continued lines)) line (ap begins_run stated) inside

      within_rest : Within all (before ++ l ∷ []) rest (suc run) 1
      within_rest = within-more all before l rest run (suc run) index 0 within (omega arith) refl refl

      flushed : (r.pads ++ here) ++ more ≡ x
      flushed =
          ap (λ ss. (ss ++ here) ++ more) (flush (has_run run (l ∷ rest)) (stands_at texts m) next_stands index (length (left (parts_by number run index label (Instruction true i) line flagged))) r.index label r.label pads r.pads
          (none-behind run (suc number) l rest (ordered-classed flagged (suc number) (suc run) 1 new true) refl) fit)
          ∙ ap (λ ss. ss ++ more) (append_assoc had pads here) ∙ append_assoc had (pads ++ here) more

      first : (o : Option (List ℕ)) → text_for texts (suc m) ≡ o → GiveBlocks cut known texts (suc m) (map block_of ((l ∷ left parts) ∷ behind parts)) →
          gives_at cut s r (line_text true o l ++ replaced all texts rest) x
      first None found are =
          let stands : Standing = after_line cut s line in
          let it : next_stands ≡ true = ap is_none found in
          let later = walks stands (before ++ l ∷ []) (suc number) (suc run) 1 new true [] (suc m) (reached true [] 1 new) knows within_rest insides (rest-taken l rest taken) fresh_label.0 told.1 are.1
          (record {
            begins = λ h. (refl, refl);
            alone = λ none no_more. absurd (true≢false none);
            owes = λ none empty there other. refl;
            named = λ none there it. absurd (true≢false none);
            ready = (λ at empty. absurd (omega (arith, at)), λ printed many. absurd (true≢false (sym it ∙ printed)));
            same = λ some stood. (refl, refl);
          }) in
          subst (λ (ss : List Shape). gives_at cut s r (copied_line l ++ replaced all texts rest) ss) flushed
          (gives-copied cut s r after (is_continued lines) line (replaced all texts rest) number (Instruction true i) more inside (next-same cut all texts ends stands lines (suc number) (suc run) 1 (suc m) new true insides told.1) stated refl later)
      first (Some text) found are =
          let given = walks-text lines walks s (before ++ l ∷ []) (suc run) l (suc m) r text (left-by cut s after line lines (ap is_code stated)) knows within_rest insides (rest-taken l rest taken) fresh_label.0 refl
          (λ empty. absurd (filled-some new fresh_label.1 empty)) found (subst (λ o. GivesIf cut known (block_of (l ∷ left parts)) o) found are.0) told.1 are.1 in
          subst (λ (ss : List Shape). gives_at cut s r (text ++ replaced all texts rest) ss)
          (ap (λ t. (if t then r.pads else []) ++ block_shape new ∷ more) fresh_label.1 ∙ sym (append_assoc r.pads here more) ∙ flushed) given

  -- ALL LINES

  walks-class : (c : Class) (line : List ℕ) (lines : List (List ℕ)) → Walks lines → WalksClass c line lines
  walks-class Comment line lines walks = walks-comment line lines walks
  walks-class Other line lines walks = walks-other line lines walks
  walks-class Refused line lines walks = λ s before number run index label after pads m r stated inside knows within insides taken is told are fit.
      absurd (none-refused number (classes_from (suc number) run index label false (flagged_from cut (after_line cut s line) lines))
      (record { number = number; bytes = line; class = Refused; run = run; index = index; label = label }) refl taken)
  walks-class (Pad true) line lines walks = walks-labelled_pad line lines walks
  walks-class (Pad false) line lines walks = walks-pad line lines walks
  walks-class (Instruction true i) line lines walks = walks-labelled i line lines walks
  walks-class (Instruction false i) line lines walks = walks-instruction i line lines walks

  walks-all : (lines : List (List ℕ)) → Walks lines
  walks-all [] s before number run index label after pads m r knows within insides taken is told are fit clean =
      flush false (stands_at texts m) (stands_at texts (suc m)) index 0 r.index label r.label pads r.pads refl fit
  walks-all (line ∷ lines) s before number run index label after pads m r knows within insides taken is told are fit clean =
      let both = and_parts (every is_inside line) (every (every is_inside) lines) insides in
      walks-class (class_at after (flagged_at cut s line (is_continued lines))) line lines (walks-all lines) s before number run index label after pads m r refl both.0 (same-redefined cut s line ∙ knows) within both.1 taken is told are fit clean

-- A WHOLE SOURCE

-- texts of its blocks, which are printed as is given
give-blocks : (cut quiet : Bool) (columns : Columns) (known : Redefined) (all : List Line) (texts : List (Option (List ℕ))) (m : ℕ) (found : List (List Line)) (given : List (Option Placed)) → AreLinesOfSource cut all → AreTexts quiet columns all texts m (map block_of found) given →
    AreSoundBlocks cut known columns all (map block_of found) → AreGiven (map block_of found) given → AreComplete (map block_of found) given → ((part : List Line) → Among part found → 1 ≤ length part) → GiveBlocks cut known texts (suc m) (map block_of found)
give-blocks cut quiet columns known all texts m [] given source are sound within complete some = tt
give-blocks cut quiet columns known all texts m (part ∷ found) given source are sound within complete some =
    let block : Block = block_of part in
    let blocks : List Block = map block_of found in (
      subst (GivesIf cut known block) (sym (first-given quiet columns all texts m block blocks given are)) (by_given given within complete),
      give-blocks cut quiet columns known all texts (suc m) found (others given) source (others-given quiet columns all texts m block blocks given are) sound.1
          (within-others block blocks given within) (complete-others block blocks given complete) (λ other among. some other (inr among)),
    )
  where
    by_given : (given : List (Option Placed)) → AreGiven (map block_of (part ∷ found)) given → AreComplete (map block_of (part ∷ found)) given → GivesIf cut known (block_of part) (chosen_text quiet columns all (suc m) (block_of part) (get_or given 0 None))
    by_given [] within complete = tt
    by_given (None ∷ given) within complete = tt
    by_given (Some p ∷ given) within complete =
        let size = length-map part entry_of in
        let first = some part (inl refl) in
        gives-anew cut quiet columns known all (suc m) (block_of part) p source sound.0 within.0 complete.0 (omega (arith, size, first))

pub frame-again : (quiet : Bool) (columns : Columns) (source : Reading) (blocks again : List Block) (given : List (Option Placed)) → source_of source ≡ Ok blocks → AreGiven blocks given → AreComplete blocks given →
    source_of (record { cut = source.cut; text = printed_in quiet columns source given }) ≡ Ok again →
    shapes (frame_of (record { cut = source.cut; text = printed_in quiet columns source given })) ≡ shapes (frame_of source)
frame-again quiet columns source blocks again given accepted placed full again_accepted =
    let all : List Line = classed_lines source in
    let is : blocks_of all ≡ blocks = accepted-is source blocks accepted in
    let within : AreGiven (blocks_of all) given = subst (λ found. AreGiven found given) (sym is) placed in
    let complete : AreComplete (blocks_of all) given = subst (λ found. AreComplete found given) (sym is) full in
    let texts : List (Option (List ℕ)) = texts_of quiet columns all 1 (blocks_of all) given in
    let text : List ℕ = printed_in quiet columns source given in
    let new : Reading = record { cut = source.cut; text = text } in
    let known : Redefined = redefined_by source in
    let first : Standing = at_first known in
    let lines : List (List ℕ) = lines_of source.text in
    let found : List (List Line) = parts_of (instructions all) in
    let fresh_parts = fresh (flagged_lines source) 1 0 0 [] false refl in
    let whole : behind found ≡ found = behind-begins found fresh_parts in
    let next_stands : Bool = stands_at texts 1 in
    let none = ap (λ (ls : List Line). length ls) (left-begins found fresh_parts) in
    let insides = (AreLines-lines_of source.text).no_newline in
    let its_lines : AreLinesOfSource source.cut all = lines-of_source source.cut first lines 1 0 0 [] false insides in
    let ends : EndsTexts source.cut texts =
    all-texts source.cut quiet columns known all _ (λ n block p is order more ends. quiet-block source.cut quiet columns known all n block p more ends its_lines is order) (blocks_of all) given (sound-source columns source) within in
    let same_number : (k : ℕ) → 0 + k ≡ k = λ k. omega arith in
    let gives : GiveBlocks source.cut known texts 1 (map block_of found) =
    give-blocks source.cut quiet columns known all texts 0 found given its_lines (λ k. ap (λ n. get_or texts n None) (same_number k)) (sound-source columns source) within complete (λ part among. ((parts source).sizes part among).0) in
    let clean : Clean false (flagged_lines new) = clean-classed (flagged_lines new) 1 0 0 [] false (no_refusal (refusal (classed_lines new)) (blocks_of (classed_lines new)) again again_accepted) in
    let walked : gives_at source.cut first (reached false [] 0 []) text (owed (has_run 0 all) next_stands 0 [] ++ runs (reached false [] 0 []) (flagged_lines source)) =
    walks-all source.cut known all texts ends lines first [] 1 0 0 [] false [] 0 (reached false [] 0 []) refl (record { whole = refl; past = tt; begins = refl })
    insides (no_refusal (refusal all) (blocks_of all) blocks accepted) (refl, refl) (told-source source) (subst (λ parts. GiveBlocks source.cut known texts 1 (map block_of parts)) (sym whole) gives)
    (record {
      begins = λ h. no-begun h;
      alone = λ first no_more. (refl, refl);
      owes = λ first empty some other. refl;
      named = λ first some it. (refl, refl);
      ready = (λ at empty. (refl, refl), λ printed full. absurd (omega (arith, none, full)));
      same = λ h it. no-begun h;
    }) in
    let same : flagged_lines new ≡ flagged_from source.cut first (lines_of text) = ap (λ known. flagged_from source.cut (at_first known) (lines_of text)) (redefined-again quiet columns source given within) in
    sym (frame-runs new again again_accepted) ∙ ap (runs (reached false [] 0 [])) same ∙ walked (subst (Clean false) same clean)
    ∙ ap (λ ss. ss ++ runs (reached false [] 0 []) (flagged_lines source)) (owed-nothing (has_run 0 all) next_stands 0) ∙ frame-runs source blocks accepted

first-shape : (x y : Shape) (xs ys : List Shape) → x ∷ xs ≡ y ∷ ys → (x ≡ y) × (xs ≡ ys)
first-shape x y xs ys h = (cc, cc)

no-shape : (x : Shape) (xs : List Shape) → [] ≡ x ∷ xs → ⊥
no-shape x xs h = cc

-- frames that are the same but for their lines have no difference
pub same-none : (old new : List FramePart) → shapes new ≡ shapes old → first_difference old new ≡ None
same-none [] [] same = refl
same-none [] (q ∷ qs) same = absurd (no-shape (shape_of q) (shapes qs) (sym same))
same-none (p ∷ ps) [] same = absurd (no-shape (shape_of p) (shapes ps) same)
same-none (p ∷ ps) (q ∷ qs) same =
    let both = first-shape (shape_of q) (shape_of p) (shapes qs) (shapes ps) same in
    ap (λ t. if t then first_difference ps qs else Some (record { old = Some p.line; new = Some q.line })) (same-alike p q (sym both.0)) ∙ same-none ps qs both.1
