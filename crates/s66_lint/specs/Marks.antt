-- To be believed: which findings of `lint` are marked by `(CUT)`: those of what `--cut` leaves alone.
use Rattle.std.specs.Prelude.{ℕ, ◌-◌, Bool, true, false, List, [], ◌∷◌, if◌then◌else◌, length, nat_lt, slice_index_or, take}
use Rattle.s66_line.specs.{lines_of, LINE_BYTES_LIMIT}
use Rattle.s66_source.specs.{Standing, after_line, at_first, is_alone, is_continued, redefined_in, SOURCE_LINES_LIMIT}
use Rattle.s66_lint.specs.declared.finding.Finding.{Finding}
use Rattle.s66_lint.specs.declared.finding.FindingRule.{FindingRule}
use Rattle.s66_lint.specs.declared.finding.FindingRule.TheVariants.{BadOperand, CountsLines, Directive, FarOperand, HasABody, Redefined}

-- a line that is too long is read as an empty one
abbrev pub as_read : List ℕ → List ℕ
as_read line = if nat_lt LINE_BYTES_LIMIT (length line) then [] else line

-- whether `--cut` leaves each of these lines alone, by what stands before them
abbrev pub alone_from : Standing → List (List ℕ) → List Bool
alone_from s [] = []
alone_from s (line ∷ lines) = is_alone true s (as_read line) (is_continued lines) ∷ alone_from (after_line true s (as_read line)) lines

-- whether it leaves each line of a text alone, up to the limit of lines
abbrev pub alone_lines : List ℕ → List Bool
alone_lines text = take SOURCE_LINES_LIMIT (alone_from (at_first (redefined_in (lines_of text))) (lines_of text))

-- the line at a place, from 0, is left alone
abbrev pub is_alone_at : List Bool → ℕ → Bool
is_alone_at alone place = slice_index_or alone place false

-- what a finding of this rule means is left alone: a refused line, one with an operand that
-- isn't seen, a redefined one or a directive itself, the line after one that covers others; any
-- other means no line
abbrev pub means_alone : FindingRule → (here next : Bool) → Bool
means_alone BadOperand here next = here
means_alone FarOperand here next = here
means_alone Redefined here next = here
means_alone Directive here next = here
means_alone HasABody here next = next
means_alone CountsLines here next = next
means_alone rule here next = false

-- a finding is marked
abbrev pub is_marked : List Bool → Finding → Bool
is_marked alone f = means_alone f.rule (is_alone_at alone (f.number - 1)) (is_alone_at alone f.number)
