-- The lines that reading keeps are those of the definition.
use Rattle.std.proofs.Common.{◌≡◌, ◌∙◌, ℕ, suc, Bool, false, List, [], ◌∷◌, ◌++◌, map, sym, append_assoc, append-nil}
use Rattle.s66_line.specs.{is_code, Class}
use Rattle.s66_source.specs.Kept.{Kept}
use Rattle.s66_source.specs.{kept_line, nothing_kept, put_line, put_lines, Flagged, Reading, class_at, flagged_lines, Line, classed_lines, classes_from, label_after, label_at, place_at, run_at}

kept-from : (lines : List Flagged) (after : Bool) (k : Kept) (number : ℕ) (label : List ℕ) → (put_lines after k lines).lines ≡ k.lines ++ map kept_line (classes_from number k.run k.index label after lines)
kept-from [] after k number label = sym (append-nil k.lines)
kept-from (line ∷ lines) after k number label =
    let c : Class = class_at after line in
    let l : Line = record { number = number; bytes = line.bytes; class = c; run = run_at k.run c; index = place_at k.index c; label = label_at label c line.bytes } in
    let next : Kept = put_line c line.bytes k in
    let more : List Line = classes_from (suc number) next.run next.index (label_after label c line.bytes) (is_code c) lines in
    kept-from lines (is_code c) next (suc number) (label_after label c line.bytes) ∙ append_assoc k.lines (kept_line l ∷ []) (map kept_line more)

pub kept-read : (source : Reading) → (put_lines false nothing_kept (flagged_lines source)).lines ≡ map kept_line (classed_lines source)
kept-read source = kept-from (flagged_lines source) false nothing_kept 1 []
