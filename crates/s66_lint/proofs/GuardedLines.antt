-- The lines of a source with switches around those that are marked, read again.
use Rattle.std.proofs.Common.{◌≡◌, ◌==◌, ◌||◌, ◌&&◌, ℕ, zero, suc, Bool, true, false, true≢false, not, if◌then◌else◌, List, [], ◌∷◌, ◌++◌, map, drop, Some, refl, sym, ap, ap₂, ◌∙◌, slice_get}
use Rattle.std.proofs.Common.{option_map, filter}
use Rattle.std.proofs.lemmas.Bool.{and_parts, and_from, eqb-true}
use Rattle.std.proofs.lemmas.Option.{slice_get-map}
use Rattle.s66_isa.specs.{every}
use Rattle.s66_device.specs.{is_control, printable, printable_byte}
use Rattle.s66_line.specs.{class_of, body, continues, is_comment, is_newline, lines_of, operation, upper}
use Rattle.s66_line.proofs.Wholes.{AreLines-lines_of}
use Rattle.s66_source.specs.{counting_text, is_one_of, with_cover, Flagged, Reading, after_line, after_operation, at_first, directive_cover, flagged_from, flagged_lines, has_operation, is_alone}
use Rattle.s66_source.specs.{is_continued, is_directive, is_doubtful, is_off_switch, is_on_switch, off_after, plain, redefined_by, with_directive, Covered, Redefined, defined_by, forming, is_short}
use Rattle.s66_source.specs.{nothing_redefined, redefined_in, renaming, owner, Line, classed_lines, Standing}
use Rattle.s66_source.proofs.DefinedNames.{defined_by-append}
use Rattle.s66_source.proofs.FlaggedLines.{bytes-flagged}
use Rattle.s66_source.proofs.AloneLines.{alone-none}
use Rattle.s66_lint.specs.{Begins, Ends, Kept, Mark, MarkedLine, GuardedLine, beginnings, between, guarded_bytes, flag_of, guarded, guarded_flags, guarded_lines, is_left_alone, marked_line}
use Rattle.s66_lint.specs.{marked_lines, read_flags, shown_reason, source_lines, unmarked, written_from, after_blank}
use Rattle.s66_lint.proofs.SwitchedLines.{at_plain, is_one_line, lines_of-with_newlines, standing}

-- THE LINES OF THE SOURCE are kept

kept-begins : (reasons : List (List ℕ)) (rest : List GuardedLine) → source_lines (map Begins reasons ++ rest) ≡ source_lines rest
kept-begins [] rest = refl
kept-begins (reason ∷ reasons) rest = kept-begins reasons rest

kept-between : (inside here : Bool) (reasons : List (List ℕ)) (rest : List GuardedLine) → source_lines (between inside here reasons ++ rest) ≡ source_lines rest
kept-between false false reasons rest = refl
kept-between false true [] rest = refl
kept-between false true (reason ∷ reasons) rest = kept-begins reasons rest
kept-between true false reasons rest = refl
kept-between true true reasons rest = refl

kept-places : (inside : Bool) (marks : List Mark) (lines : List Flagged) → source_lines (written_from inside (marked_lines marks lines)) ≡ lines
kept-places false marks [] = refl
kept-places true marks [] = refl
kept-places inside [] (line ∷ lines) =
    let p : MarkedLine = marked_line unmarked line in
    kept-between inside p.is_guarded p.reasons _ ∙ ap (λ ls. line ∷ ls) (kept-places p.is_guarded [] lines)
kept-places inside (mark ∷ marks) (line ∷ lines) =
    let p : MarkedLine = marked_line mark line in
    kept-between inside p.is_guarded p.reasons _ ∙ ap (λ ls. line ∷ ls) (kept-places p.is_guarded marks lines)

pub same-lines : (marks : List Mark) (text : List ℕ) → source_lines (guarded_lines marks text) ≡ flagged_lines (plain text)
same-lines marks text = kept-places false marks (flagged_lines (plain text))

pub same-source : (marks : List Mark) (text : List ℕ) → map (λ (m : Flagged). m.bytes) (source_lines (guarded_lines marks text)) ≡ lines_of text
same-source marks text = ap (map (λ (m : Flagged). m.bytes)) (same-lines marks text) ∙ bytes-flagged false at_plain (lines_of text)

-- EACH LINE IS ONE LINE

inside-printable : (b : ℕ) → not (is_newline (printable_byte b)) ≡ true
inside-printable b = by (is_control b) (b == 10) refl refl
  where
    by : (control newline : Bool) → is_control b ≡ control → (b == 10) ≡ newline → not (is_newline (if control then 63 else b)) ≡ true
    by true newline is at = refl
    by false true is at = absurd (true≢false (sym (ap is_control (eqb-true b 10 at)) ∙ is))
    by false false is at = rw at refl

one-printable : (bytes : List ℕ) → is_one_line (printable bytes) ≡ true
one-printable [] = refl
one-printable (b ∷ bytes) = and_from (not (is_newline (printable_byte b))) (is_one_line (printable bytes)) (inside-printable b) (one-printable bytes)

one-after_blank : (word : List ℕ) → is_one_line (after_blank word) ≡ true
one-after_blank [] = refl
one-after_blank (b ∷ word) = one-printable (b ∷ word)

abbrev AreOneLines : List GuardedLine → Type 0
AreOneLines lines = every is_one_line (map guarded_bytes lines) ≡ true

one-begins : (reasons : List (List ℕ)) (rest : List GuardedLine) → AreOneLines rest → AreOneLines (map Begins reasons ++ rest)
one-begins [] rest h = h
one-begins (reason ∷ reasons) rest h =
    and_from (is_one_line (guarded_bytes (Begins reason))) (every is_one_line (map guarded_bytes (map Begins reasons ++ rest))) (one-after_blank (shown_reason reason)) (one-begins reasons rest h)

one-between : (inside here : Bool) (reasons : List (List ℕ)) (rest : List GuardedLine) → AreOneLines rest → AreOneLines (between inside here reasons ++ rest)
one-between false false reasons rest h = h
one-between false true [] rest h = one-begins ([] ∷ []) rest h
one-between false true (reason ∷ reasons) rest h = one-begins (reason ∷ reasons) rest h
one-between true false reasons rest h = h
one-between true true reasons rest h = h

one-places : (inside : Bool) (ps : List MarkedLine) → every is_one_line (map (λ (p : MarkedLine). p.line.bytes) ps) ≡ true → AreOneLines (written_from inside ps)
one-places false [] h = refl
one-places true [] h = refl
one-places inside (p ∷ ps) h =
    let (here, rest) = and_parts (is_one_line p.line.bytes) (every is_one_line (map (λ (p : MarkedLine). p.line.bytes) ps)) h in
    one-between inside p.is_guarded p.reasons (Kept p.is_guarded p.line ∷ written_from p.is_guarded ps)
    (and_from (is_one_line p.line.bytes) (every is_one_line (map guarded_bytes (written_from p.is_guarded ps))) here (one-places p.is_guarded ps rest))

bytes-places : (marks : List Mark) (lines : List Flagged) → map (λ (p : MarkedLine). p.line.bytes) (marked_lines marks lines) ≡ map (λ (m : Flagged). m.bytes) lines
bytes-places marks [] = refl
bytes-places [] (line ∷ lines) = ap (λ ls. line.bytes ∷ ls) (bytes-places [] lines)
bytes-places (mark ∷ marks) (line ∷ lines) = ap (λ ls. line.bytes ∷ ls) (bytes-places marks lines)

pub read-lines : (marks : List Mark) (text : List ℕ) → lines_of (guarded marks text) ≡ map guarded_bytes (guarded_lines marks text)
read-lines marks text =
    let flags : List Flagged = flagged_lines (plain text) in
    let same : map (λ (p : MarkedLine). p.line.bytes) (marked_lines marks flags) ≡ lines_of text = bytes-places marks flags ∙ bytes-flagged false at_plain (lines_of text) in
    lines_of-with_newlines (map guarded_bytes (guarded_lines marks text)) (one-places false (marked_lines marks flags) (ap (every is_one_line) same ∙ (AreLines-lines_of text).no_newline))

-- AN ADDED LINE is a comment

-- so the line before it is continued, if it is, by the line behind it
continued-begins : (reasons : List (List ℕ)) (rest : List GuardedLine) → is_continued (map guarded_bytes (map Begins reasons ++ rest)) ≡ is_continued (map guarded_bytes rest)
continued-begins [] rest = refl
continued-begins (reason ∷ reasons) rest = continued-begins reasons rest

continued-between : (inside here : Bool) (reasons : List (List ℕ)) (rest : List GuardedLine) → is_continued (map guarded_bytes (between inside here reasons ++ rest)) ≡ is_continued (map guarded_bytes rest)
continued-between false false reasons rest = refl
continued-between false true [] rest = refl
continued-between false true (reason ∷ reasons) rest = continued-begins reasons rest
continued-between true false reasons rest = refl
continued-between true true reasons rest = refl

continued-lines : (inside : Bool) (ps : List MarkedLine) → is_continued (map guarded_bytes (written_from inside ps)) ≡ is_continued (map (λ (p : MarkedLine). p.line.bytes) ps)
continued-lines false [] = refl
continued-lines true [] = refl
continued-lines inside (p ∷ ps) =
    continued-between inside p.is_guarded p.reasons (Kept p.is_guarded p.line ∷ written_from p.is_guarded ps)
    ∙ ap (λ more. if is_comment (body p.line.bytes) then more else continues p.line.bytes) (continued-lines p.is_guarded ps)

-- and it redefines nothing
abbrev defined : List (List ℕ) → List (List ℕ) → List (List ℕ)
defined names lines = defined_by names (map body lines)

defined-begins : (names : List (List ℕ)) (reasons : List (List ℕ)) (rest : List GuardedLine) → is_one_of names [] ≡ false → defined names (map guarded_bytes (map Begins reasons ++ rest)) ≡ defined names (map guarded_bytes rest)
defined-begins names [] rest none = refl
defined-begins names (reason ∷ reasons) rest none = rw none (defined-begins names reasons rest none)

defined-between : (names : List (List ℕ)) (inside here : Bool) (reasons : List (List ℕ)) (rest : List GuardedLine) → is_one_of names [] ≡ false →
    defined names (map guarded_bytes (between inside here reasons ++ rest)) ≡ defined names (map guarded_bytes rest)
defined-between names false false reasons rest none = refl
defined-between names false true [] rest none = defined-begins names ([] ∷ []) rest none
defined-between names false true (reason ∷ reasons) rest none = defined-begins names (reason ∷ reasons) rest none
defined-between names true false reasons rest none = rw none refl
defined-between names true true reasons rest none = refl

defined-lines : (names : List (List ℕ)) (inside : Bool) (ps : List MarkedLine) → is_one_of names [] ≡ false →
    defined names (map guarded_bytes (written_from inside ps)) ≡ defined names (map (λ (p : MarkedLine). p.line.bytes) ps)
defined-lines names false [] none = refl
defined-lines names true [] none = rw none refl
defined-lines names inside (p ∷ ps) none =
    let line : List (List ℕ) = body p.line.bytes ∷ [] in
    defined-between names inside p.is_guarded p.reasons (Kept p.is_guarded p.line ∷ written_from p.is_guarded ps) none
    ∙ defined_by-append names line (map body (map guarded_bytes (written_from p.is_guarded ps)))
    ∙ ap (λ more. defined_by names line ++ more) (defined-lines names p.is_guarded ps none)
    ∙ sym (defined_by-append names line (map body (map (λ (p : MarkedLine). p.line.bytes) ps)))

same-redefined : (marks : List Mark) (text : List ℕ) → redefined_in (lines_of (guarded marks text)) ≡ redefined_in (lines_of text)
same-redefined marks text =
    let flags : List Flagged = flagged_lines (plain text) in
    let source : map (λ (p : MarkedLine). p.line.bytes) (marked_lines marks flags) ≡ lines_of text = bytes-places marks flags ∙ bytes-flagged false at_plain (lines_of text) in
    ap redefined_in (read-lines marks text)
    ∙ ap₂ (λ operations forms. record { operations = filter is_short operations; forms = forms }) (defined-lines renaming false (marked_lines marks flags) refl) (defined-lines forming false (marked_lines marks flags) refl)
    ∙ ap redefined_in source

-- WHICH LINES ARE LEFT ALONE

-- what stands, after a switch or not
abbrev with_off : Bool → Standing → Standing
with_off off s = record s { off = off }

-- a switch before a line changes nothing else of what stands after it
after-off : (cut off : Bool) (s : Standing) (line : List ℕ) → after_line cut (with_off off s) line ≡ with_off (off_after off (body line)) (after_line cut s line)
after-off cut off s line =
    elim (cut && has_operation (body line)) as (λ t.
    with_off after (if t then after_operation (with_off off s) name text else with_directive cut (with_off off s) (body line)) ≡ with_off after (if t then after_operation s name text else with_directive cut s (body line)))
    [ true ↦ refl | false ↦ by_directive (cut && is_directive (body line)) (s.bodies == 0) ]
  where
    after : Bool
    after = off_after off (body line)

    name : List ℕ
    name = upper (operation (body line))

    text : List ℕ
    text = upper (counting_text (body line))

    cover : Covered
    cover = with_cover s.cover (directive_cover (upper (drop 1 (body line))))

    by_directive : (directive outside : Bool) →
        with_off after (if directive then (if outside then record (with_off off s) { cover = cover } else with_off off s) else with_off off s)
        ≡ with_off after (if directive then (if outside then record s { cover = cover } else s) else s)
    by_directive true true = refl
    by_directive true false = refl
    by_directive false outside = refl

or-true : (b : Bool) → true ≡ (b || true)
or-true true = refl
or-true false = refl

or-false : (b : Bool) → b ≡ (b || false)
or-false true = refl
or-false false = refl

after-begins : (cut : Bool) (s : Standing) (reason : List ℕ) → after_line cut s (guarded_bytes (Begins reason)) ≡ with_off true s
after-begins true s reason = ap (λ off. with_off off s) (sym (or-true s.off))
after-begins false s reason = ap (λ off. with_off off s) (sym (or-true s.off))

after-ends : (cut : Bool) (s : Standing) → after_line cut s (guarded_bytes Ends) ≡ with_off false s
after-ends true s = refl
after-ends false s = refl

alone-begins : (cut : Bool) (s : Standing) (reason : List ℕ) (continued : Bool) → is_alone cut s (guarded_bytes (Begins reason)) continued ≡ true
alone-begins cut s reason continued = ap (λ held. held || (cut && is_doubtful s.redefined (class_of true (guarded_bytes (Begins reason))) (body (guarded_bytes (Begins reason))))) (sym (or-true s.off))

-- these lines are read so, by the flags of those of the source
abbrev AreFlagged : (cut : Bool) → Standing → List GuardedLine → List Flagged → Type 0
AreFlagged cut s lines source = flagged_from cut s (map guarded_bytes lines) ≡ read_flags lines source

-- ONE LINE MORE, by whether it is left alone

with-begin : (alone : Bool) (reason : List ℕ) (rest : List GuardedLine) (source more : List Flagged) → alone ≡ true → more ≡ read_flags rest source →
    record { alone = alone; bytes = guarded_bytes (Begins reason) } ∷ more ≡ read_flags (Begins reason ∷ rest) source
with-begin alone reason rest source more is h = ap₂ (λ alone lines. record { alone = alone; bytes = guarded_bytes (Begins reason) } ∷ lines) is h

with-end : (rest : List GuardedLine) (source more : List Flagged) → more ≡ read_flags rest source → record { alone = true; bytes = guarded_bytes Ends } ∷ more ≡ read_flags (Ends ∷ rest) source
with-end rest source more h = ap (λ lines. record { alone = true; bytes = guarded_bytes Ends } ∷ lines) h

with-kept : (alone guarded : Bool) (line flag : Flagged) (rest : List GuardedLine) (source more : List Flagged) → alone ≡ (flag.alone || guarded) → more ≡ read_flags rest source →
    record { alone = alone; bytes = line.bytes } ∷ more ≡ read_flags (Kept guarded line ∷ rest) (flag ∷ source)
with-kept alone guarded line flag rest source more is h = ap₂ (λ alone lines. record { alone = alone; bytes = line.bytes } ∷ lines) is h

-- from one line on that is added before a region
flags-begin : (cut : Bool) (s : Standing) (reason : List ℕ) (rest : List GuardedLine) (source : List Flagged) → AreFlagged cut (with_off true s) rest source → AreFlagged cut s (Begins reason ∷ rest) source
flags-begin cut s reason rest source h =
    with-begin _ reason rest source _ (alone-begins cut s reason (is_continued (map guarded_bytes rest))) (ap (λ t. flagged_from cut t (map guarded_bytes rest)) (after-begins cut s reason) ∙ h)

-- from the first of them on
flags-begins : (cut : Bool) (s : Standing) (reason : List ℕ) (reasons : List (List ℕ)) (rest : List GuardedLine) (source : List Flagged) → AreFlagged cut (with_off true s) rest source →
    AreFlagged cut s (map Begins (reason ∷ reasons) ++ rest) source
flags-begins cut s reason [] rest source h = flags-begin cut s reason rest source h
flags-begins cut s reason (next ∷ reasons) rest source h =
    flags-begin cut s reason (map Begins (next ∷ reasons) ++ rest) source (flags-begins cut (with_off true s) next reasons rest source h)

flags-beginnings : (cut : Bool) (s : Standing) (reasons : List (List ℕ)) (rest : List GuardedLine) (source : List Flagged) → AreFlagged cut (with_off true s) rest source →
    AreFlagged cut s (beginnings reasons ++ rest) source
flags-beginnings cut s [] rest source h = flags-begins cut s [] [] rest source h
flags-beginnings cut s (reason ∷ reasons) rest source h = flags-begins cut s reason reasons rest source h

-- from the line on that is added behind one
flags-ends : (cut : Bool) (s : Standing) (rest : List GuardedLine) (source : List Flagged) → s.off ≡ false → AreFlagged cut s rest source → AreFlagged cut (with_off true s) (Ends ∷ rest) source
flags-ends cut s rest source on h =
    with-end rest source _ (ap (λ t. flagged_from cut t (map guarded_bytes rest)) (after-ends cut (with_off true s) ∙ ap (λ off. with_off off s) (sym on)) ∙ h)

-- after a guarded line, by whether it is a switch ON
still-off : (on : Bool) → on ≡ false → (if on then false else true) ≡ true
still-off on none = rw none refl

-- a guarded line
flags-guarded : (cut : Bool) (s : Standing) (line flag : Flagged) (rest : List GuardedLine) (source : List Flagged) → is_on_switch (body line.bytes) ≡ false →
    AreFlagged cut (with_off true (after_line cut s line.bytes)) rest source → AreFlagged cut (with_off true s) (Kept true line ∷ rest) (flag ∷ source)
flags-guarded cut s line flag rest source none h =
    let after : after_line cut (with_off true s) line.bytes ≡ with_off true (after_line cut s line.bytes) =
    after-off cut true s line.bytes ∙ ap (λ off. with_off off (after_line cut s line.bytes)) (still-off (is_on_switch (body line.bytes)) none) in
    with-kept true true line flag rest source _ (or-true flag.alone) (ap (λ t. flagged_from cut t (map guarded_bytes rest)) after ∙ h)

-- another line, which is left alone as it is in the source
flags-other : (cut : Bool) (s : Standing) (line flag : Flagged) (rest : List GuardedLine) (source : List Flagged) → is_alone cut s line.bytes (is_continued (map guarded_bytes rest)) ≡ flag.alone →
    AreFlagged cut (after_line cut s line.bytes) rest source → AreFlagged cut s (Kept false line ∷ rest) (flag ∷ source)
flags-other cut s line flag rest source same h = with-kept _ false line flag rest source _ (same ∙ or-false flag.alone) h

-- one line more, with what is added before it
flags-line : (cut inside here : Bool) (s : Standing) (reasons : List (List ℕ)) (line flag : Flagged) (rest : List GuardedLine) (source : List Flagged) →
    (inside ≡ true → s.off ≡ false) → (here ≡ true → is_on_switch (body line.bytes) ≡ false) → is_alone cut s line.bytes (is_continued (map guarded_bytes rest)) ≡ flag.alone →
    AreFlagged cut (with_off (here || off_after s.off (body line.bytes)) (after_line cut s line.bytes)) rest source →
    AreFlagged cut (with_off (inside || s.off) s) (between inside here reasons ++ Kept here line ∷ rest) (flag ∷ source)
flags-line cut false false s reasons line flag rest source on free same h = flags-other cut s line flag rest source same h
flags-line cut false true s reasons line flag rest source on free same h =
    flags-beginnings cut s reasons (Kept true line ∷ rest) (flag ∷ source) (flags-guarded cut s line flag rest source (free refl) h)
flags-line cut true false s reasons line flag rest source on free same h =
    flags-ends cut s (Kept false line ∷ rest) (flag ∷ source) (on refl) (flags-other cut s line flag rest source same h)
flags-line cut true true s reasons line flag rest source on free same h = flags-guarded cut s line flag rest source (free refl) h

-- a guarded line is neither a switch nor left alone without it
free-line : (mark off switch on : Bool) → (mark && not (((off || (switch || false)) || false) || on)) ≡ true → (off ≡ false) × (switch ≡ false) × (on ≡ false)
free-line false off switch on h = cc
free-line true true switch on h = cc
free-line true false true on h = cc
free-line true false false true h = cc
free-line true false false false h = (refl, refl, refl)

-- so none is off after it
still-on : (on off switch : Bool) → on ≡ false → off ≡ false → switch ≡ false → (if on then false else (off || switch)) ≡ false
still-on on off switch h k l = rw (h, k, l) refl

-- lines of a source with what is added, whatever stands before them
abbrev AreGuarded : (cut : Bool) → List Mark → List (List ℕ) → Type 0
AreGuarded cut marks lines =
    (inside : Bool) (s : Standing) → (inside ≡ true → s.off ≡ false) →
    AreFlagged cut (with_off (inside || s.off) s) (written_from inside (marked_lines marks (flagged_from false (standing s.off) lines))) (flagged_from cut s lines)

-- a line of the source, read without `--cut`
abbrev plain_flag : Bool → List ℕ → Bool → Flagged
plain_flag off line continued = record { alone = is_alone false (standing off) line continued; bytes = line }

flags-mark : (cut inside : Bool) (s : Standing) (mark : Mark) (marks : List Mark) (line : List ℕ) (lines : List (List ℕ)) → (inside ≡ true → s.off ≡ false) → AreGuarded cut marks lines →
    AreFlagged cut (with_off (inside || s.off) s)
    (written_from inside (marked_line mark (plain_flag s.off line (is_continued lines)) ∷ marked_lines marks (flagged_from false (standing (off_after s.off (body line))) lines)))
    (flagged_from cut s (line ∷ lines))
flags-mark cut inside s mark marks line lines on more =
    let p : MarkedLine = marked_line mark (plain_flag s.off line (is_continued lines)) in
    let later : List Flagged = flagged_from false (standing (off_after s.off (body line))) lines in
    let rest : List GuardedLine = written_from p.is_guarded (marked_lines marks later) in
    let free : p.is_guarded ≡ true → (s.off ≡ false) × (is_off_switch (body line) ≡ false) × (is_on_switch (body line) ≡ false) = free-line mark.is_harmed s.off (is_off_switch (body line)) (is_on_switch (body line)) in
    let same : is_continued (map guarded_bytes rest) ≡ is_continued lines =
    continued-lines p.is_guarded (marked_lines marks later) ∙ ap is_continued (bytes-places marks later ∙ bytes-flagged false (standing (off_after s.off (body line))) lines) in
    flags-line cut inside p.is_guarded s p.reasons p.line (record { alone = is_alone cut s line (is_continued lines); bytes = line }) rest (flagged_from cut (after_line cut s line) lines)
    on (λ here. (free here).2) (ap (is_alone cut s line) same)
    (more p.is_guarded (after_line cut s line) (λ here. still-on (is_on_switch (body line)) s.off (is_off_switch (body line)) (free here).2 (free here).0 (free here).1))

flags-from : (cut : Bool) (marks : List Mark) (lines : List (List ℕ)) → AreGuarded cut marks lines
flags-from cut marks [] = λ inside s on. none inside s
  where
    none : (inside : Bool) (s : Standing) → AreFlagged cut (with_off (inside || s.off) s) (between inside false []) []
    none false s = refl
    none true s = refl
flags-from cut [] (line ∷ lines) = λ inside s on. flags-mark cut inside s unmarked [] line lines on (flags-from cut [] lines)
flags-from cut (mark ∷ marks) (line ∷ lines) = λ inside s on. flags-mark cut inside s mark marks line lines on (flags-from cut marks lines)

pub same-flags : (marks : List Mark) (text : List ℕ) (cut : Bool) → flagged_lines (record { cut = cut; text = guarded marks text }) ≡ guarded_flags cut marks text
same-flags marks text cut =
    ap₂ (λ (known : Redefined) lines. flagged_from cut (at_first (if cut then known else nothing_redefined)) lines) (same-redefined marks text) (read-lines marks text)
    ∙ flags-from cut marks (lines_of text) false (at_first (redefined_by (record { cut = cut; text = text }))) (λ inside. refl)

-- without `--cut` each line of the source has its flag
own-flags : (lines : List GuardedLine) → read_flags lines (source_lines lines) ≡ map flag_of lines
own-flags [] = refl
own-flags (Begins reason ∷ lines) = ap (λ flags. flag_of (Begins reason) ∷ flags) (own-flags lines)
own-flags (Ends ∷ lines) = ap (λ flags. flag_of Ends ∷ flags) (own-flags lines)
own-flags (Kept guarded line ∷ lines) = ap (λ flags. flag_of (Kept guarded line) ∷ flags) (own-flags lines)

pub same-plainly : (marks : List Mark) (text : List ℕ) → flagged_lines (plain (guarded marks text)) ≡ map flag_of (guarded_lines marks text)
same-plainly marks text =
    same-flags marks text false ∙ ap (read_flags (guarded_lines marks text)) (sym (same-lines marks text)) ∙ own-flags (guarded_lines marks text)

-- WHAT IS LEFT ALONE WITHOUT `--cut` is left alone with it

alone-by : (off switch held refused : Bool) → ((off || (switch || false)) || false) ≡ true → ((off || (switch || held)) || refused) ≡ true
alone-by true switch held refused h = refl
alone-by false true held refused h = refl
alone-by false false held refused h = cc

alone-too : (s t : Standing) (line : List ℕ) (continued : Bool) → s.off ≡ t.off → is_alone false s line continued ≡ true → is_alone true t line continued ≡ true
alone-too s t line continued same h = alone-by t.off (is_off_switch (body line)) _ _ (ap (λ off. (off || (is_off_switch (body line) || false)) || false) (sym same) ∙ h)

flags-too : (s t : Standing) (lines : List (List ℕ)) (k : ℕ) (m : Flagged) → s.off ≡ t.off → slice_get (flagged_from false s lines) k ≡ Some m → m.alone ≡ true →
    slice_get (flagged_from true t lines) k ≡ Some (record { alone = true; bytes = m.bytes })
flags-too s t [] k m same at alone = cc
flags-too s t (line ∷ lines) zero m same at alone =
    let is : record { alone = is_alone false s line (is_continued lines); bytes = line } ≡ m = cc in
    ap₂ (λ a bs. Some (record { alone = a; bytes = bs })) (alone-too s t line (is_continued lines) same (ap (λ (x : Flagged). x.alone) is ∙ alone)) (ap (λ (x : Flagged). x.bytes) is)
flags-too s t (line ∷ lines) (suc k) m same at alone =
    flags-too (after_line false s line) (after_line true t line) lines k m (ap (λ off. off_after off (body line)) same) at alone

-- A LINE THAT IS LEFT ALONE is of no block

abbrev IsOfNone : Reading → ℕ → List ℕ → Type 0
IsOfNone source k bytes = (line : Line) × (slice_get (classed_lines source) k ≡ Some line) × (line.bytes ≡ bytes) × (owner (classed_lines source) line ≡ 0)

pub guard-kept : (marks : List Mark) (text : List ℕ) (cut : Bool) (k : ℕ) (w : GuardedLine) → slice_get (guarded_lines marks text) k ≡ Some w → is_left_alone w ≡ true →
    IsOfNone (record { cut = cut; text = guarded marks text }) k (guarded_bytes w)
guard-kept marks text cut k w at alone = by cut
  where
    plainly : slice_get (flagged_lines (plain (guarded marks text))) k ≡ Some (flag_of w)
    plainly = ap (λ flags. slice_get flags k) (same-plainly marks text) ∙ slice_get-map flag_of (guarded_lines marks text) k ∙ ap (option_map flag_of) at

    by : (cut : Bool) → IsOfNone (record { cut = cut; text = guarded marks text }) k (guarded_bytes w)
    by false = alone-none (plain (guarded marks text)) k (flag_of w) plainly alone
    by true = alone-none (record { cut = true; text = guarded marks text }) k (record { alone = true; bytes = guarded_bytes w }) (flags-too at_plain (at_first (redefined_in (lines_of (guarded marks text)))) (lines_of (guarded marks text)) k (flag_of w) refl plainly alone) refl
