-- The lines of a text, each flagged as left alone or not.
use Rattle.std.proofs.Common.{◌≡◌, ◌&&◌, ℕ, suc, true, false, Bool, List, [], ◌∷◌, length, map, refl, sym, ap, ◌∙◌}
use Rattle.s66_line.specs.{lines_from}
use Rattle.s66_source.specs.{Flagged, after_line, is_alone, is_continued, flagged_from, Standing}

-- THE LINES THEMSELVES are those of the text

pub bytes-flagged : (cut : Bool) (s : Standing) (lines : List (List ℕ)) → map (λ (m : Flagged). m.bytes) (flagged_from cut s lines) ≡ lines
bytes-flagged cut s [] = refl
bytes-flagged cut s (line ∷ lines) = ap (λ ls. line ∷ ls) (bytes-flagged cut (after_line cut s line) lines)

pub length-flagged : (cut : Bool) (s : Standing) (lines : List (List ℕ)) → length (flagged_from cut s lines) ≡ length lines
length-flagged cut s [] = refl
length-flagged cut s (line ∷ lines) = ap suc (length-flagged cut (after_line cut s line) lines)

-- A LINE THAT IS CONTINUED

-- without `--cut` it is the same whether it is
pub same-alone : (cut : Bool) (s : Standing) (line : List ℕ) (continued other : Bool) → (cut && continued) ≡ (cut && other) → is_alone cut s line continued ≡ is_alone cut s line other
same-alone true s line continued other same = ap (is_alone true s line) same
same-alone false s line continued other same = refl

-- the first line of a text, and then those after it
pub flagged-found : (cut : Bool) (s : Standing) (text line more : List ℕ) (continued : Bool) → lines_from [] text ≡ line ∷ lines_from [] more → (cut && continued) ≡ (cut && is_continued (lines_from [] more)) →
    flagged_from cut s (lines_from [] text) ≡ record { alone = is_alone cut s line continued; bytes = line } ∷ flagged_from cut (after_line cut s line) (lines_from [] more)
flagged-found cut s text line more continued is same =
    ap (flagged_from cut s) is
    ∙ ap (λ alone. record { alone = alone; bytes = line } ∷ flagged_from cut (after_line cut s line) (lines_from [] more)) (sym (same-alone cut s line continued (is_continued (lines_from [] more)) same))
