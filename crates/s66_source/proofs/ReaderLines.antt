-- What the lines of a text make of a reader, one after the other (`take_all`).
use Rattle.std.proofs.Common.{◌≡◌, ◌&&◌, ℕ, Bool, List, [], ◌∷◌, sym, ap, ◌∙◌, Result, Ok, Err}
use Rattle.s66_line.specs.{lines_from}
use Rattle.s66_source.specs.{Flagged, after_line, is_alone, is_continued, flagged_from, Standing, SourceState, Steps, line_step, lines_step, and_then, SourceError, OutOfMemory}
use Rattle.s66_source.proofs.FlaggedLines.{flagged-found}

-- a text's first line, continued or not
abbrev pub first_flagged : Bool → Standing → (line : List ℕ) → Bool → Flagged
first_flagged cut standing line continued = record { alone = is_alone cut standing line continued; bytes = line }

-- the first line, and then those after it
pub lines_step-found : (cut : Bool) (standing : Standing) (s t : SourceState) (text line more : List ℕ) (continued : Bool) (whole : Result SourceState SourceError) → lines_from [] text ≡ line ∷ lines_from [] more →
    (cut && continued) ≡ (cut && is_continued (lines_from [] more)) → line_step s (first_flagged cut standing line continued) ≡ Ok t → lines_step s (flagged_from cut standing (lines_from [] text)) ≡ whole → lines_step t (flagged_from cut (after_line cut standing line) (lines_from [] more)) ≡ whole
lines_step-found cut standing s t text line more continued whole is next made same =
    sym (ap (λ r. and_then r (λ u. lines_step u (flagged_from cut (after_line cut standing line) (lines_from [] more)))) made) ∙ sym (ap (lines_step s) (flagged-found cut standing text line more continued is next)) ∙ same

-- a line's refusal is that of all
Steps-line : (e : SourceError) (s new any : SourceState) (line : Flagged) (lines : List Flagged) (whole : Result SourceState SourceError) → Steps new (Err e) (line_step s line) → lines_step s (line ∷ lines) ≡ whole → Steps any (Err e) whole
Steps-line OutOfMemory s new any line lines whole h same = tt
Steps-line e s new any line lines whole h same = sym same ∙ ap (λ r. and_then r (λ t. lines_step t lines)) h

pub Steps-found : (cut : Bool) (standing : Standing) (e : SourceError) (s new any : SourceState) (text line more : List ℕ) (continued : Bool) (whole : Result SourceState SourceError) → lines_from [] text ≡ line ∷ lines_from [] more →
    (cut && continued) ≡ (cut && is_continued (lines_from [] more)) → Steps new (Err e) (line_step s (first_flagged cut standing line continued)) → lines_step s (flagged_from cut standing (lines_from [] text)) ≡ whole → Steps any (Err e) whole
Steps-found cut standing e s new any text line more continued whole is next made same =
    Steps-line e s new any (first_flagged cut standing line continued) (flagged_from cut (after_line cut standing line) (lines_from [] more)) whole made (sym (ap (lines_step s) (flagged-found cut standing text line more continued is next)) ∙ same)
