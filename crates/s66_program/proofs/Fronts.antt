-- A text that is too long is refused as a source for what is in its front, whatever follows.
use Rattle.std.proofs.Common.{◌≡◌, ◌≤◌, ◌<◌, ◌+◌, ◌*◌, ℕ, suc, Bool, true, false, if◌then◌else◌, List, [], ◌∷◌, ◌++◌, Option, None, Some, Err, inl, inr, length, refl, sym, ap, ◌∙◌, arith, ◌==◌}
use Rattle.std.proofs.Common.{length-append, le-ltb, lt-ltb}
use Rattle.std.proofs.lemmas.Bool.{cases_lt}
use Rattle.s66_line.specs.{lines_from, is_code, LINE_BYTES_LIMIT}
use Rattle.s66_source.specs.{Flagged, Reading, after_line, at_first, class_at, is_alone, is_continued, flagged_from, redefined_by, Standing, blocks_of, classed_lines, classes_from, label_after}
use Rattle.s66_source.specs.{operand_refusal, or_else, place_after, refusal, run_after, source_of, unless_refused, SourceError, LineTooLong, TooLarge, SOURCE_LINES_LIMIT}
use Rattle.s66_source.proofs.CutLaw.{none-refused}
use Rattle.s66_program.specs.{SOURCE_FRONT}

-- both are refused, for the same
abbrev AreRefused : Option SourceError → Option SourceError → Type 0
AreRefused r r' = (e : SourceError) × (r ≡ Some e) × (r' ≡ Some e)

-- what is carried from line to line
record Carried : Type 0 where
  run : ℕ
  index : ℕ
  label : List ℕ
  after : Bool
  standing : Standing

-- the refusal of lines with these numbers and so on
abbrev refusal-from : Bool → ℕ → Carried → List (List ℕ) → Option SourceError
refusal-from cut number c lines = refusal (classes_from number c.run c.index c.label c.after (flagged_from cut c.standing lines))

one-of : (P : List (List ℕ) → Type 0) (t : Bool) (a b : List (List ℕ)) → P a → P b → P (if t then a else b)
one-of P true a b x y = x
one-of P false a b x y = y

both-of : (P : List (List ℕ) → List (List ℕ) → Type 0) (t : Bool) (a a' b b' : List (List ℕ)) → P a a' → P b b' → P (if t then a else b) (if t then a' else b')
both-of P true a a' b b' x y = x
both-of P false a a' b b' x y = y

longer : (line : List ℕ) (b : ℕ) → length (line ++ b ∷ []) ≡ length line + 1
longer line b = length-append line (b ∷ [])

-- WHAT IS REFUSED FOR ITS OPERAND, of a line that is continued or not; with `--cut` nothing is

abbrev flagged-at : Bool → Standing → List ℕ → Bool → Flagged
flagged-at cut s line continued = record { alone = is_alone cut s line continued; bytes = line }

-- with `--cut` nothing of what is carried matters, and without it the same is carried
abbrev Same : Bool → Carried → Carried → Type 0
Same true c c' = Unit {0}
Same false c c' = c ≡ c'

same-operands : (cut : Bool) (c c' : Carried) (continued continued' : Bool) (line : List ℕ) (number : ℕ) → Same cut c c' →
    operand_refusal number (class_at c.after (flagged-at cut c.standing line continued)) ≡ operand_refusal number (class_at c'.after (flagged-at cut c'.standing line continued'))
same-operands true c c' continued continued' line number same = none-refused number c.after continued c.standing line ∙ sym (none-refused number c'.after continued' c'.standing line)
same-operands false c c' continued continued' line number same = ap (λ (d : Carried). operand_refusal number (class_at d.after (flagged-at false d.standing line continued))) same

-- what is carried after a line
abbrev carried-after : Bool → Carried → List ℕ → Bool → Carried
carried-after cut c line continued =
    record {
      run = run_after c.run (class_at c.after (flagged-at cut c.standing line continued));
      index = place_after c.index (class_at c.after (flagged-at cut c.standing line continued));
      label = label_after c.label (class_at c.after (flagged-at cut c.standing line continued)) line;
      after = is_code (class_at c.after (flagged-at cut c.standing line continued));
      standing = after_line cut c.standing line;
    }

same-after : (cut : Bool) (c c' : Carried) (continued continued' : Bool) (line : List ℕ) → Same cut c c' → Same cut (carried-after cut c line continued) (carried-after cut c' line continued')
same-after true c c' continued continued' line same = tt
same-after false c c' continued continued' line same = ap (λ (d : Carried). carried-after false d line continued) same

-- A LINE

too-long : (cut : Bool) (number : ℕ) (c : Carried) (line : List ℕ) (lines : List (List ℕ)) → LINE_BYTES_LIMIT < length line →
    refusal-from cut number c (line ∷ lines) ≡ Some (LineTooLong number)
too-long cut number c line lines long = rw (lt-ltb LINE_BYTES_LIMIT (length line) long) refl

too-many : (cut : Bool) (number : ℕ) (c : Carried) (line : List ℕ) (lines : List (List ℕ)) → length line ≤ LINE_BYTES_LIMIT → SOURCE_LINES_LIMIT < number →
    refusal-from cut number c (line ∷ lines) ≡ Some TooLarge
too-many cut number c line lines short many =
    rw (le-ltb LINE_BYTES_LIMIT (length line) short) (rw (lt-ltb SOURCE_LINES_LIMIT number many) refl)

by-operand : (o o' r r' : Option SourceError) → o ≡ o' → AreRefused r r' → AreRefused (or_else o r) (or_else o' r')
by-operand None None r r' same h = h
by-operand None (Some e) r r' same h = cc
by-operand (Some e) None r r' same h = cc
by-operand (Some e) (Some e') r r' same h = (e, refl, sym same)

-- a line that begins so is too long however it goes on
long-line : (cut : Bool) (rest line : List ℕ) (number : ℕ) (c : Carried) → LINE_BYTES_LIMIT < length line →
    refusal-from cut number c (lines_from line rest) ≡ Some (LineTooLong number)
long-line cut [] [] number c long = absurd (omega (arith, long))
long-line cut [] (b ∷ line) number c long = too-long cut number c (b ∷ line) [] long
long-line cut (b ∷ rest) line number c long =
    one-of (λ lines. refusal-from cut number c lines ≡ Some (LineTooLong number)) (b == 10) (line ∷ lines_from [] rest) (lines_from (line ++ b ∷ []) rest)
    (too-long cut number c line (lines_from [] rest) long)
    (long-line cut rest (line ++ b ∷ []) number c (omega (arith, long, longer line b)))

-- LINES of a front, of which line begins the first

abbrev Front : (cut : Bool) (bytes rest line : List ℕ) (number : ℕ) (c c' : Carried) → Type 0
Front cut bytes rest line number c c' = AreRefused (refusal-from cut number c (lines_from line (bytes ++ rest))) (refusal-from cut number c' (lines_from line bytes))

-- the first line is whole
whole-line : (cut : Bool) (line : List ℕ) (lines lines' : List (List ℕ)) (number : ℕ) (c c' : Carried) → Same cut c c' →
    (length line ≤ LINE_BYTES_LIMIT → number ≤ SOURCE_LINES_LIMIT →
    AreRefused (refusal-from cut (suc number) (carried-after cut c line (is_continued lines)) lines) (refusal-from cut (suc number) (carried-after cut c' line (is_continued lines')) lines')) →
    AreRefused (refusal-from cut number c (line ∷ lines)) (refusal-from cut number c' (line ∷ lines'))
whole-line cut line lines lines' number c c' same later =
    elim (cases_lt LINE_BYTES_LIMIT (length line)) [
      | inl long ↦ (LineTooLong number, too-long cut number c line lines long, too-long cut number c' line lines' long)
      | inr short ↦ elim (cases_lt SOURCE_LINES_LIMIT number) [
        | inl many ↦ (TooLarge, too-many cut number c line lines short many, too-many cut number c' line lines' short many)
        | inr few ↦ rw (le-ltb LINE_BYTES_LIMIT (length line) short) (rw (le-ltb SOURCE_LINES_LIMIT number few)
            (by-operand _ _ _ _ (same-operands cut c c' (is_continued lines) (is_continued lines') line number same) (later short few)))
      ]
    ]

front-lines : (cut : Bool) (bytes rest line : List ℕ) (number : ℕ) (c c' : Carried) → Same cut c c' → number ≤ SOURCE_LINES_LIMIT + 1 → SOURCE_FRONT + (LINE_BYTES_LIMIT + 1) ≤ length line + length bytes + (LINE_BYTES_LIMIT + 1) * number →
    Front cut bytes rest line number c c'
front-lines cut [] rest line number c c' same few enough =
    let long : LINE_BYTES_LIMIT < length line = omega (arith, few, enough) in
    (LineTooLong number, long-line cut rest line number c long, long-line cut [] line number c' long)
front-lines cut (b ∷ bytes) rest line number c c' same few enough =
    both-of (λ lines lines'. AreRefused (refusal-from cut number c lines) (refusal-from cut number c' lines')) (b == 10)
    (line ∷ lines_from [] (bytes ++ rest)) (line ∷ lines_from [] bytes) (lines_from (line ++ b ∷ []) (bytes ++ rest)) (lines_from (line ++ b ∷ []) bytes)
    (whole-line cut line (lines_from [] (bytes ++ rest)) (lines_from [] bytes) number c c' same
    (λ short below. front-lines cut bytes rest [] (suc number) _ _ (same-after cut c c' _ _ line same) (omega (arith, below)) (omega (arith, short, enough))))
    (front-lines cut bytes rest (line ++ b ∷ []) number c c' same few (omega (arith, enough, longer line b)))

abbrev begun : Reading → Carried
begun source = record { run = 0; index = 0; label = []; after = false; standing = at_first (redefined_by source) }

same-begun : (cut : Bool) (text front : List ℕ) → Same cut (begun (record { cut = cut; text = text })) (begun (record { cut = cut; text = front }))
same-begun true text front = tt
same-begun false text front = refl

pub front-refused : (cut : Bool) (front rest : List ℕ) → SOURCE_FRONT ≤ length front →
    (e : SourceError) × (source_of (record { cut = cut; text = front ++ rest }) ≡ Err e) × (source_of (record { cut = cut; text = front }) ≡ Err e)
front-refused cut front rest long =
    let stated = front-lines cut front rest [] 1 (begun (record { cut = cut; text = front ++ rest })) (begun (record { cut = cut; text = front })) (same-begun cut (front ++ rest) front) (omega arith) (omega (arith, long)) in
    (stated.0, ap (λ r. unless_refused r (blocks_of (classed_lines (record { cut = cut; text = front ++ rest })))) stated.1, ap (λ r. unless_refused r (blocks_of (classed_lines (record { cut = cut; text = front })))) stated.2)
