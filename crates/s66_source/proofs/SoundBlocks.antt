-- The blocks of a source: their lines spell their instructions, and how they may be printed.
use Rattle.std.proofs.Common.{◌≡◌, ◌≤◌, ◌==◌, ℕ, zero, suc, Bool, true, false, true≢false, if◌then◌else◌, Option, None, Some, List, [], ◌∷◌, ◌++◌, get_or, length, map, refl, sym, ap, ◌∙◌, subst, inl}
use Rattle.std.proofs.Common.{inr, arith, Ok, ne_eqb, eq-eqb}
use Rattle.std.proofs.lemmas.Bool.{and_parts}
use Rattle.std.proofs.lemmas.List.{length-map}
use Rattle.s66_isa.specs.{Among, every, Instr, BLOCK_LIMIT}
use Rattle.s66_line.specs.{Block, begins_run, class_of, instr_in, is_code, body, from_operation, is_return, label_bytes, lines_of, is_filled, Class, Comment, Other, Refused, Pad, Instruction}
use Rattle.s66_line.proofs.Wholes.{AreLines-lines_of, is_inside}
use Rattle.s66_source.specs.{all_of, bytes_on, indent, Flagged, Reading, Standing, after_line, at_first, class_at, flagged_from, is_alone, is_continued, is_held, redefined_by, Placed, Redefined}
use Rattle.s66_source.specs.{AreGiven, anew_text, text_for, texts_of, Line, block_of, blocks_of, classed_lines, classes_from, entry_of, instructions, label_after, label_at, label_in, parts_of}
use Rattle.s66_source.specs.{place_after, place_at, run_after, run_at, source_of}
use Rattle.s66_source.specs.declared.columns.Columns.{Columns}
use Rattle.s66_source.proofs.FarOperands.{Fits, clear-read, fits-read}
use Rattle.s66_source.proofs.PartsLaw.{parts}
use Rattle.s66_source.proofs.PrintedLines.{accepted-is}
use Rattle.s66_source.proofs.ReadBlock.{AreFitting, AreSound, IsSound, IsSoundBlock}
use Rattle.s66_source.proofs.ReadLine.{IsLabel, every-from_operation, every-trimmed, label-of_code}
use Rattle.s66_source.proofs.ReadStanding.{flagged_at}
use Rattle.s66_source.proofs.ReaderBlocks.{from_class}
use Rattle.s66_source.proofs.Standings.{same-redefined}
use Rattle.s66_source.proofs.Classes.{class-tells}

-- LABELS

-- what is in front of code that isn't left alone is a label
pub located-label : (after alone : Bool) (line : List ℕ) → begins_run (class_at after (record { alone = alone; bytes = line })) ≡ true → every is_inside line ≡ true →
    IsLabel (label_bytes (body line)) × (is_filled (label_bytes (body line)) ≡ true)
located-label after true line begins inside = absurd (true≢false (sym begins))
located-label after false line begins inside = label-of_code after line begins inside

label-at : (after alone : Bool) (line label : List ℕ) → every is_inside line ≡ true → IsLabel label → IsLabel (label_at label (class_at after (record { alone = alone; bytes = line })) line)
label-at after alone line label inside is = by_test (begins_run c) refl
  where
    c : Class
    c = class_at after (record { alone = alone; bytes = line })

    by_test : (t : Bool) → begins_run c ≡ t → IsLabel (if t then label_bytes (body line) else label)
    by_test true begins = (located-label after alone line begins inside).0
    by_test false begins = is

label-behind : (c : Class) (label line : List ℕ) → IsLabel (label_at label c line) → IsLabel (label_after label c line)
label-behind Other label line is = (refl, refl)
label-behind Comment label line is = is
label-behind Refused label line is = is
label-behind (Pad located) label line is = is
label-behind (Instruction located i) label line is = is

label-or_none : (t : Bool) (label : List ℕ) → IsLabel label → IsLabel (if t then label else [])
label-or_none true label is = is
label-or_none false label is = (refl, refl)

-- INSTRUCTIONS

pub taken-by : (alone : Bool) (c : Class) (located : Bool) (n : Instr) → (if alone then Other else c) ≡ Instruction located n → (alone ≡ false) × (c ≡ Instruction located n)
taken-by true c located n h = cc
taken-by false c located n h = (refl, h)

-- a line of an instruction: what it spells, how it may be indented, and the label of its run
record IsSoundLine (cut : Bool) (known : Redefined) (columns : Columns) (all : List Line) (l : Line) : Type 0 where
  entry : IsSound cut known (entry_of l)
  fits : Fits cut (indent columns (bytes_on all l.number)) (from_operation (body l.bytes))
  label : IsLabel l.label

abbrev AreSoundLines : Bool → Redefined → Columns → List Line → List Line → Type 0
AreSoundLines cut known columns all [] = Unit {0}
AreSoundLines cut known columns all (l ∷ lines) = IsSoundLine cut known columns all l × AreSoundLines cut known columns all lines

-- the bytes on the lines from this number on are theirs
abbrev Has : List Line → ℕ → List Line → Type 0
Has all number lines = (k : ℕ) → number ≤ k → bytes_on all k ≡ bytes_on lines k

has-rest : (all : List Line) (l : Line) (lines : List Line) → Has all l.number (l ∷ lines) → Has all (suc l.number) lines
has-rest all l lines has k later = has k (omega (arith, later)) ∙ ap (λ t. if t then l.bytes else bytes_on lines k) (ne_eqb l.number k (λ same. absurd (omega (arith, same, later))))

has-first : (all : List Line) (l : Line) (lines : List Line) → Has all l.number (l ∷ lines) → bytes_on all l.number ≡ l.bytes
has-first all l lines has = has l.number (omega arith) ∙ ap (λ t. if t then l.bytes else bytes_on lines l.number) (eq-eqb l.number l.number refl)

sound-line : (cut : Bool) (columns : Columns) (all : List Line) (s : Standing) (after continued located : Bool) (n : Instr) (l : Line) → l.class ≡ Instruction located n → class_at after (flagged_at cut s l.bytes continued) ≡ Instruction located n →
    every is_inside l.bytes ≡ true → bytes_on all l.number ≡ l.bytes → IsLabel l.label → IsSoundLine cut s.redefined columns all l
sound-line cut columns all s after continued located n l is stated inside own label =
    let taken = taken-by (is_alone cut s l.bytes continued) (class_of after l.bytes) located n stated in
    record {
      entry = subst (λ c. IsSound cut s.redefined (record { instr = instr_in c; line = l.number; bytes = from_operation (body l.bytes) })) (sym is) (
        (class-tells after l.bytes).spelled located n taken.1,
        every-from_operation is_inside (body l.bytes) (every-trimmed is_inside is_return l.bytes inside),
        clear-read cut (is_held cut s l.bytes continued) after s.redefined l.bytes located n taken.0 taken.1,
      );
      fits = subst (λ bytes. Fits cut (indent columns bytes) (from_operation (body l.bytes))) (sym own) (fits-read cut (is_held cut s l.bytes continued) after columns s.redefined l.bytes located n taken.0 taken.1);
      label = label;
    }

sound-lines : (cut : Bool) (columns : Columns) (all : List Line) (s : Standing) (lines : List (List ℕ)) (number run index : ℕ) (label : List ℕ) (after : Bool) → every (every is_inside) lines ≡ true → IsLabel label →
    Has all number (classes_from number run index label after (flagged_from cut s lines)) → AreSoundLines cut s.redefined columns all (instructions (classes_from number run index label after (flagged_from cut s lines)))
sound-lines cut columns all s [] number run index label after inside is has = tt
sound-lines cut columns all s (line ∷ lines) number run index label after inside is has =
    let both = and_parts (every is_inside line) (every (every is_inside) lines) inside in
    let c : Class = class_at after (flagged_at cut s line (is_continued lines)) in
    let here : IsLabel (label_at label c line) = label-at after (is_alone cut s line (is_continued lines)) line label both.0 is in
    by_class c refl both.0 here has
    (λ later. subst (λ known. AreSoundLines cut known columns all (instructions (classes_from (suc number) (run_after run c) (place_after index c) (label_after label c line) (is_code c) rest))) (same-redefined cut s line)
    (sound-lines cut columns all (after_line cut s line) lines (suc number) (run_after run c) (place_after index c) (label_after label c line) (is_code c) both.1 (label-behind c label line here) later))
  where
    rest : List Flagged
    rest = flagged_from cut (after_line cut s line) lines

    by_class : (c : Class) → class_at after (flagged_at cut s line (is_continued lines)) ≡ c → every is_inside line ≡ true → IsLabel (label_at label c line) → Has all number (from_class number run index label c line rest) →
        (Has all (suc number) (classes_from (suc number) (run_after run c) (place_after index c) (label_after label c line) (is_code c) rest) →
        AreSoundLines cut s.redefined columns all (instructions (classes_from (suc number) (run_after run c) (place_after index c) (label_after label c line) (is_code c) rest))) →
        AreSoundLines cut s.redefined columns all (instructions (from_class number run index label c line rest))
    by_class Comment stated inside is has sound = sound (has-rest all (record { number = number; bytes = line; class = Comment; run = run; index = index; label = label }) (classes_from (suc number) run index label false rest) has)
    by_class Other stated inside is has sound = sound (has-rest all (record { number = number; bytes = line; class = Other; run = run; index = index; label = label }) (classes_from (suc number) (suc run) 0 [] false rest) has)
    by_class Refused stated inside is has sound = sound (has-rest all (record { number = number; bytes = line; class = Refused; run = run; index = index; label = label }) (classes_from (suc number) run index label false rest) has)
    by_class (Pad located) stated inside is has sound =
        let l : Line = record { number = number; bytes = line; class = Pad located; run = run_at run (Pad located); index = place_at index (Pad located); label = label_at label (Pad located) line } in
        sound (has-rest all l (classes_from (suc number) (run_after run (Pad located)) (place_after index (Pad located)) (label_after label (Pad located) line) true rest) has)
    by_class (Instruction located n) stated inside is has sound =
        let c : Class = Instruction located n in
        let l : Line = record { number = number; bytes = line; class = c; run = run_at run c; index = place_at index c; label = label_at label c line } in
        let after_it : List Line = classes_from (suc number) (run_after run c) (place_after index c) (label_after label c line) true rest in
        (sound-line cut columns all s after (is_continued lines) located n l refl stated inside (has-first all l after_it has) is, sound (has-rest all l after_it has))

-- BLOCKS

abbrev pub AreSoundBlocks : Bool → Redefined → Columns → (all : List Line) → List Block → Type 0
AreSoundBlocks cut known columns all [] = Unit {0}
AreSoundBlocks cut known columns all (block ∷ blocks) = IsSoundBlock cut known columns all block × AreSoundBlocks cut known columns all blocks

module _ (cut : Bool) (known : Redefined) (columns : Columns) (all : List Line) where
  front : (lines more : List Line) → AreSoundLines cut known columns all (lines ++ more) → AreSoundLines cut known columns all lines × AreSoundLines cut known columns all more
  front [] more are = (tt, are)
  front (l ∷ lines) more are = let both = front lines more are.1 in ((are.0, both.0), both.1)

  entries-sound : (part : List Line) → AreSoundLines cut known columns all part → AreSound cut known (map entry_of part) × AreFitting cut columns all (map entry_of part)
  entries-sound [] are = (tt, tt)
  entries-sound (l ∷ part) are = let rest = entries-sound part are.1 in ((are.0.entry, rest.0), (are.0.fits, rest.1))

  label-sound : (part : List Line) → AreSoundLines cut known columns all part → IsLabel (label_in part)
  label-sound [] are = (refl, refl)
  label-sound (l ∷ part) are = label-or_none (l.index == 0) l.label are.0.label

  parts-sound : (found : List (List Line)) → AreSoundLines cut known columns all (all_of found) → ((part : List Line) → Among part found → length part ≤ BLOCK_LIMIT) → AreSoundBlocks cut known columns all (map block_of found)
  parts-sound [] are few = tt
  parts-sound (part ∷ found) are few =
      let both = front part (all_of found) are in
      let entries = entries-sound part both.0 in
      let count : length (map entry_of part) ≡ length part = length-map part entry_of in (
        record { label = label-sound part both.0; entries = entries.0; fits = entries.1; few = omega (arith, count, few part (inl refl)) },
        parts-sound found both.1 (λ p among. few p (inr among)),
      )

-- all of a source
pub sound-source : (columns : Columns) (source : Reading) → AreSoundBlocks source.cut (redefined_by source) columns (classed_lines source) (blocks_of (classed_lines source))
sound-source columns source =
    let all : List Line = classed_lines source in
    let cut = parts source in
    let lines = sound-lines source.cut columns all (at_first (redefined_by source)) (lines_of source.text) 1 0 0 [] false (AreLines-lines_of source.text).no_newline (refl, refl) (λ k later. refl) in
    parts-sound source.cut (redefined_by source) columns all (parts_of (instructions all)) (subst (AreSoundLines source.cut (redefined_by source) columns all) (sym cut.whole) lines) (λ part among. (cut.sizes part among).1)

sound-among : (cut : Bool) (known : Redefined) (columns : Columns) (all : List Line) (blocks : List Block) (block : Block) → AreSoundBlocks cut known columns all blocks → Among block blocks → IsSoundBlock cut known columns all block
sound-among cut known columns all [] block are among = absurd among
sound-among cut known columns all (b ∷ blocks) block are (inl same) = subst (IsSoundBlock cut known columns all) (sym same) are.0
sound-among cut known columns all (b ∷ blocks) block are (inr among) = sound-among cut known columns all blocks block are.1 among

-- each of an accepted source
pub sound-block : (columns : Columns) (source : Reading) (blocks : List Block) (block : Block) → source_of source ≡ Ok blocks → Among block blocks → IsSoundBlock source.cut (redefined_by source) columns (classed_lines source) block
sound-block columns source blocks block accepted among =
    sound-among source.cut (redefined_by source) columns (classed_lines source) blocks block
    (subst (AreSoundBlocks source.cut (redefined_by source) columns (classed_lines source)) (accepted-is source blocks accepted) (sound-source columns source)) among

-- TEXTS of blocks that are printed anew

abbrev pub AllTexts : (List ℕ → Type 0) → List (Option (List ℕ)) → Type 0
AllTexts Are texts = (n : ℕ) (text : List ℕ) → text_for texts n ≡ Some text → Are text

-- each number of an order is one of its block's
abbrev pub AreWithin : Block → List ℕ → Type 0
AreWithin block order = (n : ℕ) → Among n order → (1 ≤ n) × (n ≤ length block.entries)

no-text : {X : Type 0} (text : List ℕ) → None ≡ Some text → X
no-text text h = cc

same-text : (first second : List ℕ) → Some first ≡ Some second → first ≡ second
same-text first second h = cc

module _ (cut quiet : Bool) (columns : Columns) (known : Redefined) (all : List Line) (Are : List ℕ → Type 0)
    (anew : (n : ℕ) (block : Block) (p : Placed) → IsSoundBlock cut known columns all block → AreWithin block p.order → Are (anew_text quiet columns all n block p)) where
  texts-are : (n : ℕ) (blocks : List Block) (given : List (Option Placed)) → AreSoundBlocks cut known columns all blocks → AreGiven blocks given → (k : ℕ) (text : List ℕ) → get_or (texts_of quiet columns all n blocks given) k None ≡ Some text → Are text
  texts-are n [] given sound within k text is = no-text text is
  texts-are n (block ∷ blocks) [] sound within k text is = no-text text is
  texts-are n (block ∷ blocks) (None ∷ given) sound within zero text is = no-text text is
  texts-are n (block ∷ blocks) (None ∷ given) sound within (suc k) text is = texts-are (suc n) blocks given sound.1 within k text is
  texts-are n (block ∷ blocks) (Some p ∷ given) sound within zero text is = subst Are (same-text (anew_text quiet columns all n block p) text is) (anew n block p sound.0 within.0)
  texts-are n (block ∷ blocks) (Some p ∷ given) sound within (suc k) text is = texts-are (suc n) blocks given sound.1 within.1 k text is

  pub all-texts : (blocks : List Block) (given : List (Option Placed)) → AreSoundBlocks cut known columns all blocks → AreGiven blocks given → AllTexts Are (texts_of quiet columns all 1 blocks given)
  all-texts blocks given sound within zero text is = no-text text is
  all-texts blocks given sound within (suc k) text is = texts-are 1 blocks given sound within k text is
