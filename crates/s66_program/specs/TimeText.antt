-- To be believed: what `time` writes of a source, and how it ends: for each block a line and, with its trace, a line for each
-- instruction.
use Rattle.std.specs.Prelude.{ℕ, ◌+◌, Bool, if◌then◌else◌, List, [], ◌∷◌, ◌++◌, length, map, Option, codes, decimal}
use Rattle.s66_isa.specs.{Instr, Profile, weigh, parcels_of, numbers}
use Rattle.s66_model.specs.{fillers, len_at, latest_result}
use Rattle.s66_line.specs.{instrs_of, Block}
use Rattle.s66_source.specs.{Reading}
use Rattle.s66_time.specs.TimedOrder.{TimedOrder}
use Rattle.s66_time.specs.{point_at}
use Rattle.s66_answer.specs.{Status}
use Rattle.s66_program.specs.AsWritten.{as_written, total_time}
use Rattle.s66_program.specs.BlockHead.{block_head}
use Rattle.s66_program.specs.Listing.{IsListing}

-- the parcels of the instructions, no NO among them
abbrev pub block_parcels : List Instr → ℕ
block_parcels block = weigh (λ (n : Instr). parcels_of n.op.code) block

-- how many NOs fill up words if the instructions are in the order in which they were written
abbrev pub fillers_as_written : List Instr → ℕ
fillers_as_written block = length (fillers 0 (map (len_at block) (numbers block)))

-- the line of the n-th block, from 1
abbrev pub time_line : Profile → ℕ → Block → List ℕ
time_line p n block =
    block_head n block ++ codes " COUNT " ++ decimal (length (instrs_of block))
    ++ codes " PARCELS " ++ decimal (block_parcels (instrs_of block)) ++ codes " NO " ++ decimal (fillers_as_written (instrs_of block))
    ++ codes " TIME " ++ decimal (total_time (as_written p (instrs_of block))) ++ codes "\n"

-- the line of the instruction of this number, at a position, from 0
abbrev pub trace_line : TimedOrder → ℕ → ℕ → List ℕ
trace_line t position number =
    codes "I " ++ decimal number ++ codes " PARCEL " ++ decimal (point_at t position).parcel ++ codes " ISSUE " ++ decimal (point_at t position).issue
    ++ codes " START " ++ decimal (point_at t position).start ++ codes " DONE " ++ decimal (latest_result (point_at t position))
    ++ codes " FREE " ++ decimal (point_at t position).free ++ codes "\n"

-- the lines of the instructions of these numbers, before which this many come
abbrev pub trace_lines : TimedOrder → ℕ → List ℕ → List ℕ
trace_lines t position [] = []
trace_lines t position (n ∷ ns) = trace_line t position n ++ trace_lines t (position + 1) ns

-- the lines of the n-th block, from 1
abbrev pub time_lines : Profile → Bool → ℕ → Block → List ℕ
time_lines p trace n block = time_line p n block ++ (if trace then trace_lines (as_written p (instrs_of block)) 0 (numbers (instrs_of block)) else [])

-- the lines of the blocks that are shown
abbrev pub IsTimeOutput : Profile → (trace : Bool) (only : Option ℕ) (source : Reading) (text : List ℕ) → Status → Type 0
IsTimeOutput p trace only source text status = IsListing (time_lines p trace) only source text status
