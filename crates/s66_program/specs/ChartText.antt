-- To be believed: what `chart` writes of a source, and how it ends: for each block a line, and the chart of the block as it was
-- written, with `--text` also its texts and a ruler, and with `--units` below these what holds units and registers.
use Rattle.std.specs.Prelude.{ℕ, Bool, if◌then◌else◌, List, ◌++◌, Option}
use Rattle.s66_isa.specs.{Profile}
use Rattle.s66_line.specs.{instrs_of, Block}
use Rattle.s66_source.specs.{Reading}
use Rattle.s66_time.specs.TimedOrder.{TimedOrder}
use Rattle.s66_why.specs.{chart_text, units_chart, text_chart}
use Rattle.s66_answer.specs.{Status}
use Rattle.s66_program.specs.AsWritten.{as_written}
use Rattle.s66_program.specs.BlockHead.{timed_line}
use Rattle.s66_program.specs.Listing.{IsListing}

-- its chart in an order
abbrev pub chart_of : (texts units : Bool) → Block → TimedOrder → List ℕ
chart_of texts units block t = if units then units_chart block t else (if texts then text_chart block t else chart_text t)

-- the lines of the n-th block, from 1
abbrev pub chart_lines : Profile → (texts units : Bool) → ℕ → Block → List ℕ
chart_lines p texts units n block = timed_line n block (as_written p (instrs_of block)) ++ chart_of texts units block (as_written p (instrs_of block))

-- the lines of the blocks that are shown
abbrev pub IsChartOutput : Profile → (texts units : Bool) (only : Option ℕ) (source : Reading) (text : List ℕ) → Status → Type 0
IsChartOutput p texts units only source text status = IsListing (chart_lines p texts units) only source text status
