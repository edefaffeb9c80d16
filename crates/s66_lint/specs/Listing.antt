-- To be believed: what `lint` prints of a source: a line for each finding, in the order of the lines of the source; with `--cut`, those
-- alone that aren't marked.
--
-- Which findings there are isn't defined: they are advice, and `FORMATS.md` says what they are.
use Rattle.std.specs.Prelude.{◌≡◌, ℕ, suc, Bool, true, false, ◌&&◌, not, if◌then◌else◌, List, [], ◌∷◌, ◌++◌, codes, decimal, length, min, nat_le, nat_lt}
use Rattle.s66_device.specs.{printable}
use Rattle.s66_line.specs.{lines_of}
use Rattle.s66_source.specs.{Reading, SOURCE_LINES_LIMIT}
use Rattle.s66_lint.specs.Marks.{alone_lines, is_marked}
use Rattle.s66_lint.specs.declared.finding.Finding.{Finding}
use Rattle.s66_lint.specs.declared.finding.FindingRule.{FindingRule}
use Rattle.s66_lint.specs.declared.finding.FindingRule.TheVariants.{TooLong, BadOperand, FarOperand, Redefined, NotAComment, NotAnInstruction, InColumn1, InColumn2, Directive, HasABody, PastColumn72, LoadsCode}
use Rattle.s66_lint.specs.declared.finding.FindingRule.TheVariants.{StoresIntoCode, TakesCode, PassesCode, SkipsWords, JoinsAWord, CountsWords, FallsIntoData, RowOfNo, CountsLines}

abbrev pub rule_words : FindingRule → List ℕ
rule_words TooLong = codes " TOO LONG"
rule_words BadOperand = codes " BAD OPERAND"
rule_words FarOperand = codes " FAR OPERAND"
rule_words Redefined = codes " REDEFINED"
rule_words NotAComment = codes " NOT A COMMENT"
rule_words NotAnInstruction = codes " NOT AN INSTRUCTION"
rule_words InColumn1 = codes " IN COLUMN 1"
rule_words InColumn2 = codes " IN COLUMN 2"
rule_words Directive = codes " DIRECTIVE"
rule_words HasABody = codes " HAS A BODY"
rule_words PastColumn72 = codes " PAST COLUMN 72"
rule_words LoadsCode = codes " LOADS CODE"
rule_words StoresIntoCode = codes " STORES INTO CODE"
rule_words TakesCode = codes " TAKES CODE"
rule_words PassesCode = codes " PASSES CODE"
rule_words SkipsWords = codes " SKIPS WORDS"
rule_words JoinsAWord = codes " JOINS A WORD"
rule_words CountsWords = codes " COUNTS WORDS"
rule_words FallsIntoData = codes " FALLS INTO DATA"
rule_words RowOfNo = codes " ROW OF NO"
rule_words CountsLines = codes " COUNTS LINES"

-- a word after a blank, if there is one, with `?` for each control character
abbrev pub after_blank : List ℕ → List ℕ
after_blank [] = []
after_blank (b ∷ word) = 32 ∷ printable (b ∷ word)

-- what was found in the line of a number, with up to two words of it, and marked if `--cut` leaves alone what is meant; alone: whether it
-- does so with each line
abbrev pub finding_line : (alone : List Bool) → Finding → List ℕ
finding_line alone f =
    codes "LINE " ++ decimal f.number ++ rule_words f.rule ++ after_blank f.first.now ++ after_blank f.second.now
    ++ (if is_marked alone f then codes " (CUT)\n" else codes "\n")

-- it is listed, with `--cut` or without
abbrev pub is_listed : (cut : Bool) (alone : List Bool) → Finding → Bool
is_listed cut alone f = not (cut && is_marked alone f)

-- a line for each that is listed
abbrev pub listing : (cut : Bool) (alone : List Bool) → List Finding → List ℕ
listing cut alone [] = []
listing cut alone (f ∷ found) = (if is_listed cut alone f then finding_line alone f else []) ++ listing cut alone found

-- of lines from number first to number last, in their order
abbrev pub is_in_order : ℕ → ℕ → List Finding → Bool
is_in_order first last [] = true
is_in_order first last (f ∷ found) = nat_le first f.number && nat_le f.number last && is_in_order f.number last found

-- FINDINGS of a source: of its lines, in their order; none after the first one past the limit is read
abbrev pub AreFindings : (text : List ℕ) → List Finding → Type 0
AreFindings text found = is_in_order 1 (min (suc SOURCE_LINES_LIMIT) (length (lines_of text))) found ≡ true

-- a text has more lines than a source may have
abbrev pub has_more : (text : List ℕ) → Bool
has_more text = nat_lt SOURCE_LINES_LIMIT (length (lines_of text))

-- what stands last if the source has too many lines
abbrev pub past_line : (has_more : Bool) → List ℕ
past_line false = []
past_line true = codes "TOO MANY LINES\n"

-- the text lists some findings of a source
abbrev pub IsFindings : (source : Reading) (text : List ℕ) → Type 0
IsFindings source text =
    (found : List Finding) × AreFindings source.text found
    × (text ≡ listing source.cut (alone_lines source.text) found ++ past_line (has_more source.text))
