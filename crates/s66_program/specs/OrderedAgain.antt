-- To be believed: how long the blocks take, as written, of what `order` wrote.
use Rattle.std.specs.Prelude.{ℕ, ◌≡◌, List, ◌++◌, Ok, Option, None, drop, length, map, replicate, take}
use Rattle.s66_isa.specs.{Profile}
use Rattle.s66_command.specs.{OrderStyle, Strategy}
use Rattle.s66_line.specs.{instrs_of, Block}
use Rattle.s66_source.specs.{Reading, printed_in, source_of}
use Rattle.s66_answer.specs.{Answer, AreAnswers, before, shown}
use Rattle.s66_program.specs.AsWritten.{as_written, total_time}
use Rattle.s66_program.specs.OrderText.{all_given, columns_by}

-- the time that `time` writes of a block
abbrev pub written_time : Profile → Block → ℕ
written_time p block = total_time (as_written p (instrs_of block))

-- the times, with these in the place of as many, before which so many come
abbrev pub with_times : (before : ℕ) → (new times : List ℕ) → List ℕ
with_times before new times = take before times ++ new ++ drop (length new) (drop before times)

-- for some answers to the blocks that are shown, by which it is the source printed, these blocks take their times, which are printed; any
-- other takes as long as it did in the source
abbrev pub TakePrintedTimes : Strategy → Profile → OrderStyle → (only : Option ℕ) (source : Reading) (text : List ℕ) → List Block → Type 0
TakePrintedTimes strategy p style only source text again =
    (blocks : List Block) × (source_of source ≡ Ok blocks)
    × ((answers : List Answer) × AreAnswers strategy p (shown only blocks) answers
    × (text ≡ printed_in style.quiet (columns_by style.columns) source (replicate (before only) None ++ all_given p style (shown only blocks) answers))
    × (map (written_time p) again ≡ with_times (before only) (map (λ (a : Answer). a.time) answers) (map (written_time p) blocks)))
