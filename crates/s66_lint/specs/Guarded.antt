-- To be believed: a source with the comments `*S66 OFF GUARD` and `*S66 ON GUARD` around the lines that are marked.
use Rattle.std.specs.Prelude.{◌≡◌, ℕ, Bool, true, false, not, ◌&&◌, ◌||◌, List, [], ◌∷◌, ◌++◌, codes, length, map, take, take_while}
use Rattle.s66_isa.specs.{tally}
use Rattle.s66_line.specs.{body, is_newline, lines_of, trim, with_newlines, is_trailing}
use Rattle.s66_source.specs.{Flagged, flagged_lines, is_on_switch, plain}
use Rattle.s66_lint.specs.Listing.{after_blank}
use Rattle.s66_lint.specs.declared.guard.guard.TheConstants.{REASON_LIMIT}

-- THE LINES OF THE SOURCE

-- what is known of one: whether it is in danger, or stands between such lines of one region; and the reasons that are to stand before a
-- region that it begins
pub record Mark : Type 0 where
  pub is_harmed : Bool
  pub reasons : List (List ℕ)

-- a line, by its mark
pub record MarkedLine : Type 0 where
  pub is_guarded : Bool
  pub reasons : List (List ℕ)
  pub line : Flagged

-- it is guarded if it is marked, isn't left alone without `--cut`, and is no switch
abbrev pub marked_line : Mark → Flagged → MarkedLine
marked_line mark line =
    record { is_guarded = mark.is_harmed && not (line.alone || is_on_switch (body line.bytes)); reasons = mark.reasons; line = line }

-- of a line without a mark
abbrev pub unmarked : Mark
unmarked = record { is_harmed = false; reasons = [] }

-- a mark for each line, from the first on
abbrev pub marked_lines : List Mark → List Flagged → List MarkedLine
marked_lines marks [] = []
marked_lines [] (line ∷ lines) = marked_line unmarked line ∷ marked_lines [] lines
marked_lines (mark ∷ marks) (line ∷ lines) = marked_line mark line ∷ marked_lines marks lines

-- THE LINES OF THE OUTPUT

-- a line of the output: added before a region, for a reason, or behind it; or one of the source, guarded or not
pub data GuardedLine : Type 0 where
  Begins : List ℕ → GuardedLine
  Ends : GuardedLine
  Kept : Bool → Flagged → GuardedLine

-- what a line says of a reason, but for control characters (`after_blank`): one line, cut where the added line would be longer than 72
-- bytes, and without blanks at its end
abbrev pub shown_reason : List ℕ → List ℕ
shown_reason reason = trim is_trailing (take REASON_LIMIT (take_while (λ b. not (is_newline b)) reason))

abbrev pub guarded_bytes : GuardedLine → List ℕ
guarded_bytes (Begins reason) = codes "*S66 OFF GUARD" ++ after_blank (shown_reason reason)
guarded_bytes Ends = codes "*S66 ON GUARD"
guarded_bytes (Kept guarded line) = line.bytes

-- one line for each reason, and one if there is none
abbrev pub beginnings : List (List ℕ) → List GuardedLine
beginnings [] = Begins [] ∷ []
beginnings (reason ∷ reasons) = map Begins (reason ∷ reasons)

-- what is added between two lines of the source, by whether each is guarded; reasons: of the second
abbrev pub between : (first second : Bool) (reasons : List (List ℕ)) → List GuardedLine
between false false reasons = []
between false true reasons = beginnings reasons
between true false reasons = Ends ∷ []
between true true reasons = []

-- marked lines, with what is added before, between and behind them; inside: the line before them is guarded
abbrev pub written_from : (inside : Bool) → List MarkedLine → List GuardedLine
written_from inside [] = between inside false []
written_from inside (m ∷ more) = between inside m.is_guarded m.reasons ++ Kept m.is_guarded m.line ∷ written_from m.is_guarded more

-- A REGION is a longest row of guarded lines: it has lines added before it and behind it, and none within
abbrev pub guarded_lines : List Mark → List ℕ → List GuardedLine
guarded_lines marks text = written_from false (marked_lines marks (flagged_lines (plain text)))

-- lines as a text
abbrev pub guarded_text : List GuardedLine → List ℕ
guarded_text lines = with_newlines (map guarded_bytes lines)

-- what is printed
abbrev pub guarded : List Mark → List ℕ → List ℕ
guarded marks text = guarded_text (guarded_lines marks text)

-- a region ends
abbrev pub is_end : GuardedLine → Bool
is_end (Begins reason) = false
is_end Ends = true
is_end (Kept guarded line) = false

-- a line of the source that is guarded
abbrev pub is_guarded : GuardedLine → Bool
is_guarded (Begins reason) = false
is_guarded Ends = false
is_guarded (Kept guarded line) = guarded

-- the text that is printed of a source, by some marks of its lines; and how many regions and how many guarded lines it has
abbrev pub IsGuard : (text printed : List ℕ) (regions lines : ℕ) → Type 0
IsGuard text printed regions lines =
    (marks : List Mark) × (length marks ≡ length (lines_of text)) × (printed ≡ guarded marks text) × (regions ≡ tally is_end (guarded_lines marks text))
    × (lines ≡ tally is_guarded (guarded_lines marks text))

-- WHAT IS READ of it

-- the lines of the source among them
abbrev pub source_lines : List GuardedLine → List Flagged
source_lines [] = []
source_lines (Begins reason ∷ lines) = source_lines lines
source_lines (Ends ∷ lines) = source_lines lines
source_lines (Kept guarded line ∷ lines) = line ∷ source_lines lines

-- these lines, by the flags of the source's lines: a line is left alone if it was added, or is so in the source, or is guarded
abbrev pub read_flags : List GuardedLine → (source : List Flagged) → List Flagged
read_flags [] source = []
read_flags (Begins reason ∷ lines) source = record { alone = true; bytes = guarded_bytes (Begins reason) } ∷ read_flags lines source
read_flags (Ends ∷ lines) source = record { alone = true; bytes = guarded_bytes Ends } ∷ read_flags lines source
read_flags (Kept guarded line ∷ lines) [] = []
read_flags (Kept guarded line ∷ lines) (flag ∷ source) = record { alone = flag.alone || guarded; bytes = line.bytes } ∷ read_flags lines source

-- the lines of what is printed, read with `--cut` or without it: by the source, read in the same way
abbrev pub guarded_flags : (cut : Bool) → List Mark → List ℕ → List Flagged
guarded_flags cut marks text = read_flags (guarded_lines marks text) (flagged_lines (record { cut = cut; text = text }))

-- a line is left alone without `--cut`: it was added, or it was left alone before, or is guarded
abbrev pub is_left_alone : GuardedLine → Bool
is_left_alone (Begins reason) = true
is_left_alone Ends = true
is_left_alone (Kept guarded line) = line.alone || guarded

abbrev pub flag_of : GuardedLine → Flagged
flag_of line = record { alone = is_left_alone line; bytes = guarded_bytes line }
