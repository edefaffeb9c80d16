-- The lines of a source with their classes, in order, and the blocks of an accepted one, as printing and the frame go over them.
use Rattle.std.proofs.Common.{◌≡◌, ◌≤◌, ◌+◌, ℕ, suc, Bool, true, false, if◌then◌else◌, None, List, [], ◌∷◌, length, map, refl, ap, ◌∙◌, inl, inr, arith, Result, Ok}
use Rattle.s66_isa.specs.{Among}
use Rattle.s66_line.specs.{lines_of, Block, is_instruction, is_code, ends_run, Class, Comment, Other, Refused, Pad, Instruction}
use Rattle.s66_source.specs.{Reading, Flagged, class_at, at_first, flagged_lines, redefined_by, Line, run_at, run_after, place_after, label_after, classes_from, classed_lines, refusal, refusal_at}
use Rattle.s66_source.specs.{instructions, blocks_of, source_of, place_at, label_at, SOURCE_LINES_LIMIT, SourceError}
use Rattle.s66_source.proofs.ReaderBlocks.{Gives-accepted}
use Rattle.s66_source.proofs.FlaggedLines.{length-flagged}
use Rattle.s66_source.proofs.LineLaw.{no_refusal, neither, taken-line}

-- LINES IN ORDER: numbers that rise by one, runs that do not fall

abbrev pub run_behind : Line → ℕ
run_behind l = if ends_run l.class then suc l.run else l.run

abbrev pub Ordered : ℕ → ℕ → List Line → Type 0
Ordered number run [] = Unit {0}
Ordered number run (l ∷ lines) = (l.number ≡ number) × (run ≤ l.run) × Ordered (suc number) (run_behind l) lines

run_at-le : (run : ℕ) (c : Class) → (run ≤ run_at run c) × (run_at run c ≤ run_after run c)
run_at-le run Comment = (omega arith, omega arith)
run_at-le run Other = (omega arith, omega arith)
run_at-le run Refused = (omega arith, omega arith)
run_at-le run (Pad true) = (omega arith, omega arith)
run_at-le run (Pad false) = (omega arith, omega arith)
run_at-le run (Instruction true n) = (omega arith, omega arith)
run_at-le run (Instruction false n) = (omega arith, omega arith)

pub ordered-classed : (lines : List Flagged) (number run index : ℕ) (label : List ℕ) (after : Bool) → Ordered number run (classes_from number run index label after lines)
ordered-classed [] number run index label after = tt
ordered-classed (line ∷ lines) number run index label after =
    let c : Class = class_at after line in
    (refl, (run_at-le run c).0, ordered-classed lines (suc number) (run_after run c) (place_after index c) (label_after label c line.bytes) (is_code c))

pub bytes-classed : (lines : List Flagged) (number run index : ℕ) (label : List ℕ) (after : Bool) → map (λ (l : Line). l.bytes) (classes_from number run index label after lines) ≡ map (λ (m : Flagged). m.bytes) lines
bytes-classed [] number run index label after = refl
bytes-classed (line ∷ lines) number run index label after =
    let c : Class = class_at after line in
    ap (λ ls. line.bytes ∷ ls) (bytes-classed lines (suc number) (run_after run c) (place_after index c) (label_after label c line.bytes) (is_code c))

pub run_behind-le : (l : Line) → l.run ≤ run_behind l
run_behind-le l = elim (ends_run l.class) as (λ t. l.run ≤ (if t then suc l.run else l.run)) [ true ↦ omega arith | false ↦ omega arith ]

-- it is one of the lines
pub of-instructions : (lines : List Line) (m : Line) → Among m (instructions lines) → Among m lines × (is_instruction m.class ≡ true)
of-instructions [] m among = absurd among
of-instructions (l ∷ lines) m among = by_test (is_instruction l.class) refl (of-instructions lines m) among
  where
    by_test : (t : Bool) → is_instruction l.class ≡ t → (Among m (instructions lines) → Among m lines × (is_instruction m.class ≡ true)) →
        Among m (if t then l ∷ instructions lines else instructions lines) → Among m (l ∷ lines) × (is_instruction m.class ≡ true)
    by_test true stated later (inl same) = (inl same, ap (λ (x : Line). is_instruction x.class) same ∙ stated)
    by_test true stated later (inr among) = (inr (later among).0, (later among).1)
    by_test false stated later among = (inr (later among).0, (later among).1)

-- A WHOLE SOURCE

pub same-blocks : (found blocks : List Block) (read : Result (List Block) SourceError) → read ≡ Ok found → read ≡ Ok blocks → found ≡ blocks
same-blocks found blocks read h g = cc

pub accepted-is : (source : Reading) (blocks : List Block) → source_of source ≡ Ok blocks → blocks_of (classed_lines source) ≡ blocks
accepted-is source blocks accepted = same-blocks (blocks_of (classed_lines source)) blocks (source_of source) (Gives-accepted source blocks accepted) accepted

few-from : (lines : List Flagged) (count run index : ℕ) (label : List ℕ) (after : Bool) → count ≤ SOURCE_LINES_LIMIT → refusal (classes_from (suc count) run index label after lines) ≡ None → count + length lines ≤ SOURCE_LINES_LIMIT
few-from [] count run index label after few taken = omega (arith, few)
few-from (line ∷ lines) count run index label after few taken =
    let c : Class = class_at after line in
    let l : Line = record { number = suc count; bytes = line.bytes; class = c; run = run_at run c; index = place_at index c; label = label_at label c line.bytes } in
    let rest : List Line = classes_from (suc (suc count)) (run_after run c) (place_after index c) (label_after label c line.bytes) (is_code c) lines in
    let both = neither (refusal_at l) (refusal rest) taken in
    let here = taken-line l both.0 in
    let later = few-from lines (suc count) (run_after run c) (place_after index c) (label_after label c line.bytes) (is_code c) here.few both.1 in
    omega (arith, later)

-- an accepted source has no more lines than are allowed
pub few-lines : (source : Reading) (blocks : List Block) → source_of source ≡ Ok blocks → length (lines_of source.text) ≤ SOURCE_LINES_LIMIT
few-lines source blocks accepted =
    let few = few-from (flagged_lines source) 0 0 0 [] false (omega arith) (no_refusal (refusal (classed_lines source)) (blocks_of (classed_lines source)) blocks accepted) in
    omega (arith, few, length-flagged source.cut (at_first (redefined_by source)) (lines_of source.text))
