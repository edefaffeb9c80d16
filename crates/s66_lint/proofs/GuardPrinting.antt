-- A source is printed with switches around the lines that `guard` marks, line by line, with the reasons of each switch.
use Rattle.std.proofs.Common.{◌≡◌, ◌≤◌, ◌||◌, ◌&&◌, ◌++◌, ◌∷◌, ℕ, Bool, true, false, not, List, [], length, map, refl, sym, ap, ◌∙◌, arith, append_assoc, append-nil}
use Rattle.std.proofs.lemmas.List.{length-map}
use Rattle.s66_isa.specs.{tally}
use Rattle.s66_isa.proofs.Lists.{tally-append}
use Rattle.s66_line.specs.{body, lines_from, lines_of}
use Rattle.s66_source.specs.{Flagged, flagged_from, is_alone, is_off_switch, is_on_switch, off_after}
use Rattle.s66_source.proofs.FlaggedLines.{flagged-found}
use Rattle.s66_lint.specs.{Begins, IsGuard, Kept, Mark, GuardedLine, beginnings, between, guarded_bytes, guarded_lines, is_end, is_guarded, marked_line, marked_lines, guarded_text, written_from}
use Rattle.s66_lint.specs.{Finishes, GainsLines, first_mark, later_marks, mark_of, marks_of, LineMark}
use Rattle.s66_lint.specs.declared.guard.guard.Guarded.{Guarded}
use Rattle.s66_lint.proofs.SwitchedLines.{standing}

-- THE TEXT of lines

pub text-append : (xs ys : List GuardedLine) → guarded_text (xs ++ ys) ≡ guarded_text xs ++ guarded_text ys
text-append [] ys = refl
text-append (x ∷ xs) ys = ap (λ more. guarded_bytes x ++ 10 ∷ more) (text-append xs ys) ∙ sym (append_assoc (guarded_bytes x) (10 ∷ guarded_text xs) (guarded_text ys))

pub text-more : (old : List ℕ) (x : GuardedLine) (ys : List GuardedLine) → (old ++ guarded_text (x ∷ [])) ++ guarded_text ys ≡ old ++ guarded_text (x ∷ ys)
text-more old x ys = append_assoc old (guarded_text (x ∷ [])) (guarded_text ys) ∙ ap (λ more. old ++ more) (sym (text-append (x ∷ []) ys))

-- what is printed so far, and the lines after it
pub completes-grown : (old new : Guarded) (xs ys all : List GuardedLine) → GainsLines old new xs → Finishes old (xs ++ ys) all → Finishes new ys all
completes-grown old new xs ys all grown whole =
    let ends = grown.ends in
    let guarded = grown.guarded in
    let ends_all = whole.ends in
    let guarded_all = whole.guarded in
    record {
      text = ap (λ text. text ++ guarded_text ys) grown.text ∙ append_assoc old.text.items (guarded_text xs) (guarded_text ys) ∙ ap (λ more. old.text.items ++ more) (sym (text-append xs ys)) ∙ whole.text;
      ends = omega (arith, ends, ends_all, tally-append is_end xs ys);
      guarded = omega (arith, guarded, guarded_all, tally-append is_guarded xs ys);
    }

-- COUNTS

begins-no_end : (reasons : List (List ℕ)) → tally is_end (map Begins reasons) ≡ 0
begins-no_end [] = refl
begins-no_end (reason ∷ reasons) = omega (arith, begins-no_end reasons)

begins-no_line : (reasons : List (List ℕ)) → tally is_guarded (map Begins reasons) ≡ 0
begins-no_line [] = refl
begins-no_line (reason ∷ reasons) = omega (arith, begins-no_line reasons)

pub beginnings-no_end : (reasons : List (List ℕ)) → tally is_end (beginnings reasons) ≡ 0
beginnings-no_end [] = refl
beginnings-no_end (reason ∷ reasons) = begins-no_end (reason ∷ reasons)

pub beginnings-no_line : (reasons : List (List ℕ)) → tally is_guarded (beginnings reasons) ≡ 0
beginnings-no_line [] = refl
beginnings-no_line (reason ∷ reasons) = begins-no_line (reason ∷ reasons)

pub between-no_line : (inside here : Bool) (reasons : List (List ℕ)) → tally is_guarded (between inside here reasons) ≡ 0
between-no_line false false reasons = refl
between-no_line false true reasons = beginnings-no_line reasons
between-no_line true false reasons = refl
between-no_line true true reasons = refl

pub between-one_end : (inside here : Bool) (reasons : List (List ℕ)) → tally is_end (between inside here reasons) ≤ 1
between-one_end false false reasons = omega arith
between-one_end false true reasons = let none = beginnings-no_end reasons in omega (arith, none)
between-one_end true false reasons = omega arith
between-one_end true true reasons = omega arith

pub kept-one_line : (here : Bool) (line : Flagged) → tally is_guarded (Kept here line ∷ []) ≤ 1
kept-one_line true line = omega arith
kept-one_line false line = omega arith

-- THE NEXT LINE

places-first : (marks : List Mark) (line : Flagged) (lines : List Flagged) → marked_lines marks (line ∷ lines) ≡ marked_line (first_mark marks) line ∷ marked_lines (later_marks marks) lines
places-first [] line lines = refl
places-first (mark ∷ marks) line lines = refl

alone-plain : (mark off switch on : Bool) → (mark && not ((off || switch) || on)) ≡ (mark && not (((off || (switch || false)) || false) || on))
alone-plain false off switch on = refl
alone-plain true true switch on = refl
alone-plain true false true on = refl
alone-plain true false false on = refl

-- what is known of a line by the text after it
abbrev pub next_line : Bool → List ℕ → List ℕ → Flagged
next_line off line more = record { alone = is_alone false (standing off) line false; bytes = line }

-- what comes of the rest
abbrev pub written_rest : (inside off : Bool) (marks : List Mark) (rest : List ℕ) → List GuardedLine
written_rest inside off marks rest = written_from inside (marked_lines marks (flagged_from false (standing off) (lines_from [] rest)))

pub written-line : (inside off here : Bool) (marks : List Mark) (rest line more : List ℕ) → lines_from [] rest ≡ line ∷ lines_from [] more →
    here ≡ ((first_mark marks).is_harmed && not ((off || is_off_switch (body line)) || is_on_switch (body line))) →
    written_rest inside off marks rest ≡ between inside here (first_mark marks).reasons ++ Kept here (next_line off line more) ∷ written_rest here (off_after off (body line)) (later_marks marks) more
written-line inside off here marks rest line more cut is =
    let flag : Flagged = next_line off line more in
    let lines : List Flagged = flagged_from false (standing (off_after off (body line))) (lines_from [] more) in
    let same : here ≡ (marked_line (first_mark marks) flag).is_guarded = is ∙ alone-plain (first_mark marks).is_harmed off (is_off_switch (body line)) (is_on_switch (body line)) in
    ap (λ flags. written_from inside (marked_lines marks flags)) (flagged-found false (standing off) rest line more false cut refl)
    ∙ ap (written_from inside) (places-first marks flag lines)
    ∙ ap (λ (h : Bool). between inside h (first_mark marks).reasons ++ Kept h flag ∷ written_from h (marked_lines (later_marks marks) lines)) (sym same)

-- ALL is printed

pub is-guard : (marks : List LineMark) (text : List ℕ) (printed : Guarded) → length marks ≡ length (lines_of text) → Finishes printed [] (guarded_lines (marks_of marks) text) →
    IsGuard text printed.text.items printed.regions printed.lines
is-guard marks text printed each whole =
    let ends = whole.ends in
    let guarded = whole.guarded in
    (marks_of marks, length-map marks mark_of ∙ each, sym (append-nil printed.text.items) ∙ whole.text, omega (arith, ends), omega (arith, guarded))
