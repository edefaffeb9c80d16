-- To be believed: what `order` reports of each block, as one reads it in the bytes of the text.
use Rattle.std.specs.Prelude.{ℕ, suc, ◌≡◌, ◌<◌, ◌⊎◌, ◌^◌, ◌==◌, ◌||◌, Bool, true, not, if◌then◌else◌, List, [], ◌∷◌, ◌++◌, Option, Some, None, Ok, codes, decimal, length}
use Rattle.s66_isa.specs.{every, Profile}
use Rattle.s66_model.specs.{source_time, IsBound, IsLegal, total_of}
use Rattle.s66_command.specs.{OrderStyle}
use Rattle.s66_line.specs.{Block, instrs_of, is_newline}
use Rattle.s66_source.specs.{indented_lines, indents, Reading, notes_text, splits_line, times_text, replaced, Line, classed_lines, source_of}
use Rattle.s66_answer.specs.{problem_of, before}
use Rattle.s66_program.specs.OrderText.{columns_by}

abbrev pub BeginsWith : (line front : List ℕ) → Type 0
BeginsWith line front = (rest : List ℕ) × (line ≡ front ++ rest)

abbrev pub EndsIn : (line ending : List ℕ) → Type 0
EndsIn line ending = (front : List ℕ) × (line ≡ front ++ ending)

-- what is reported of a block above its instructions: its line and with the trace that of its splits, unless there are to be none
abbrev pub report_text : OrderStyle → (line : List ℕ) (splits : ℕ) → List ℕ
report_text style line splits =
    if style.quiet then [] else line ++ codes "\n" ++ splits_line (if style.trace then Some splits else None)

-- the text of a block, the n-th of a source of these lines: its report, its notes, and its instructions in some order
pub record IsReported (p : Profile) (style : OrderStyle) (all : List Line) (n : ℕ) (block : Block) (text : List ℕ) : Type 0 where
  pub line : List ℕ
  pub splits : ℕ
  pub order : List ℕ
  -- the text is the report with this line and these splits, the notes, and the instructions in this order
  pub whole : text ≡ report_text style line splits ++ notes_text block all
      ++ indented_lines (indents (columns_by style.columns) all block) block block.label order
  pub legal : IsLegal (instrs_of block) order
  -- one line, which tells the block's number and what this order takes
  pub one : every (λ b. not (is_newline b)) line ≡ true
  pub times : BeginsWith line (times_text n (length block.entries) (source_time (problem_of p block)) (total_of (problem_of p block) order) ++ codes " ")
  -- which ends in BEST, and no legal order takes less than this order, or in AT LEAST and a number, and none takes less than that
  pub says : (EndsIn line (codes " BEST") × IsBound (problem_of p block) (total_of (problem_of p block) order))
      ⊎ ((bound : ℕ) × (bound < 2 ^ 64) × EndsIn line (codes " AT LEAST " ++ decimal bound) × IsBound (problem_of p block) bound)

-- the n-th block is asked for: each is, or the one of a number
abbrev pub is_asked : Option ℕ → ℕ → Bool
is_asked None n = true
is_asked (Some m) n = n == suc (before (Some m))

-- a block stands only with `--keep`, or if it isn't asked for; the text of any other is reported
abbrev pub IsChosen : Profile → OrderStyle → (only : Option ℕ) → List Line → ℕ → Block → Option (List ℕ) → Type 0
IsChosen p style only all n block None = (style.keep || not (is_asked only n)) ≡ true
IsChosen p style only all n block (Some text) = (is_asked only n ≡ true) × IsReported p style all n block text

-- for each block, the first of which is the n-th, its text, or None if it stands; further blocks stand
abbrev pub AreChosen : Profile → OrderStyle → (only : Option ℕ) → List Line → ℕ → List Block → List (Option (List ℕ)) → Type 0
AreChosen p style only all n [] texts = Unit {0}
AreChosen p style only all n (block ∷ blocks) [] = IsChosen p style only all n block None × AreChosen p style only all (suc n) blocks []
AreChosen p style only all n (block ∷ blocks) (text ∷ texts) = IsChosen p style only all n block text × AreChosen p style only all (suc n) blocks texts

-- the text is the source with these texts in the places of their blocks, and each other line as it was read
abbrev pub ReportsBlocks : Profile → OrderStyle → (only : Option ℕ) (source : Reading) (text : List ℕ) → Type 0
ReportsBlocks p style only source text =
    (blocks : List Block) × (source_of source ≡ Ok blocks)
    × ((texts : List (Option (List ℕ))) × (text ≡ replaced (classed_lines source) texts (classed_lines source)) × AreChosen p style only (classed_lines source) 1 blocks texts)
