-- How many blocks a source has: at most as many as it has lines.
use Rattle.std.proofs.Common.{ℕ, suc, ◌+◌, ◌≡◌, ◌≤◌, ◌∙◌, Bool, true, false, if◌then◌else◌, List, [], ◌∷◌, length, refl, ap, sym, arith, Ok}
use Rattle.std.proofs.lemmas.List.{length-map}
use Rattle.s66_line.specs.{Block, is_code, is_instruction, lines_of}
use Rattle.s66_source.specs.{Flagged, Reading, at_first, class_at, flagged_lines, redefined_by, Line, begins_block, block_of, classed_lines, classes_from, instructions, label_after, parts_of}
use Rattle.s66_source.specs.{place_after, put_before, run_after, source_of, SOURCE_LINES_LIMIT}
use Rattle.s66_source.proofs.FlaggedLines.{length-flagged}
use Rattle.s66_source.proofs.PrintedLines.{accepted-is, few-lines}

length-put : (line : Line) (parts : List (List Line)) → length (put_before line parts) ≤ length parts + 1
length-put line [] = omega arith
length-put line ([] ∷ parts) = omega arith
length-put line ((next ∷ more) ∷ parts) =
    elim (begins_block next) as (λ t. length (if t then (line ∷ []) ∷ (next ∷ more) ∷ parts else (line ∷ next ∷ more) ∷ parts) ≤ length ((next ∷ more) ∷ parts) + 1)
    [ true ↦ omega arith | false ↦ omega arith ]

length-parts : (lines : List Line) → length (parts_of lines) ≤ length lines
length-parts [] = omega arith
length-parts (line ∷ lines) = omega (arith, length-put line (parts_of lines), length-parts lines)

length-kept : (lines : List Line) → length (instructions lines) ≤ length lines
length-kept [] = omega arith
length-kept (line ∷ lines) =
    let more = length-kept lines in
    elim (is_instruction line.class) as (λ t. length (if t then line ∷ instructions lines else instructions lines) ≤ length (line ∷ lines))
    [ true ↦ omega (arith, more) | false ↦ omega (arith, more) ]

length-classed : (lines : List Flagged) (number run index : ℕ) (label : List ℕ) (after : Bool) → length (classes_from number run index label after lines) ≡ length lines
length-classed [] number run index label after = refl
length-classed (line ∷ lines) number run index label after =
    let c = class_at after line in
    ap suc (length-classed lines (suc number) (run_after run c) (place_after index c) (label_after label c line.bytes) (is_code c))

pub few-blocks : (source : Reading) (blocks : List Block) → source_of source ≡ Ok blocks → length blocks ≤ SOURCE_LINES_LIMIT
few-blocks source blocks accepted =
    let all = classed_lines source in
    let parts = parts_of (instructions all) in
    let made : length blocks ≡ length parts = ap (λ (bs : List Block). length bs) (sym (accepted-is source blocks accepted)) ∙ length-map parts block_of in
    omega (arith, made, length-parts (instructions all), length-kept all, length-classed (flagged_lines source) 1 0 0 [] false, length-flagged source.cut (at_first (redefined_by source)) (lines_of source.text), few-lines source blocks accepted)
