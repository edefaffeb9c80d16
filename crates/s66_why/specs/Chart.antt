-- To be believed: a timed order as a picture: a row for each instruction and for each NO between two of them, a column for each minor cycle.
use Rattle.std.specs.Prelude.{ℕ, ◌+◌, ◌-◌, Bool, if◌then◌else◌, ◌&&◌, ◌==◌, not, List, [], ◌++◌, codes, decimal, flat_map, length, map, nat_le, nat_lt, replicate}
use Rattle.std.specs.List.{range_with_len}
use Rattle.s66_isa.specs.{latency_of}
use Rattle.s66_model.specs.{Point, latest_result, total_of}
use Rattle.s66_time.specs.TimedOrder.{TimedOrder}
use Rattle.s66_time.specs.{point_at}
use Rattle.s66_why.specs.declared.activity.Activity.{Activity}
use Rattle.s66_why.specs.declared.activity.TheConstants.{ISSUES, WAITS, WORKS, WAITS_FOR_READERS, IDLE}
-- the examples open it, to compute numbers
unfoldable pub use Rattle.std.specs.Fmt.{digits}

-- WHAT A ROW SHOWS

-- when an instruction issues, when its unit starts and has worked, and when its last result is done
abbrev pub activity : Point → Activity
activity p = record { issue = p.issue; start = p.start; finish = p.start + latency_of p.row; done = latest_result p }

-- a NO issues after the parcels of the instruction before it, and is done
abbrev pub filler_activity : Point → Activity
filler_activity p =
    let issue = p.issue + p.row.parcels in
    record { issue = issue; start = issue; finish = issue; done = issue }

-- the letter of a minor cycle: the first that fits
abbrev pub letter : Activity → ℕ → ℕ
letter a cycle =
    if cycle == a.issue then ISSUES
    else (if nat_lt a.issue cycle && nat_lt cycle a.start then WAITS
    else (if nat_le a.start cycle && nat_lt cycle a.finish then WORKS
    else (if nat_le a.finish cycle && nat_lt cycle a.done then WAITS_FOR_READERS
    else IDLE)))

-- THE ROWS

-- right in three places
abbrev pub name_in_three : List ℕ → List ℕ
name_in_three name = replicate (3 - length name) 32 ++ name

-- a name, a blank, and the letters of this many minor cycles
abbrev pub chart_row_text : List ℕ → Activity → ℕ → List ℕ
chart_row_text name a cycles = name_in_three name ++ codes " " ++ map (letter a) (range_with_len 0 cycles) ++ codes "\n"

abbrev pub cycles_of : TimedOrder → ℕ
cycles_of t = total_of t.problem t.numbers

-- the row of the instruction at a position, from 0
abbrev pub instruction_row : TimedOrder → ℕ → List ℕ
instruction_row t position = chart_row_text (decimal (point_at t position).number) (activity (point_at t position)) (cycles_of t)

-- a NO is between the instruction at a position and the next one
abbrev pub has_filler : TimedOrder → ℕ → Bool
has_filler t position =
    nat_lt (position + 1) (length t.numbers) && not ((point_at t (position + 1)).parcel == (point_at t position).parcel + (point_at t position).row.parcels)

-- the row of a NO after the instruction at a position
abbrev pub no_row : TimedOrder → ℕ → List ℕ
no_row t position = chart_row_text (codes "NO") (filler_activity (point_at t position)) (cycles_of t)

-- that row, if there is one
abbrev pub filler_row : TimedOrder → ℕ → List ℕ
filler_row t position = if has_filler t position then no_row t position else []

abbrev pub chart_text : TimedOrder → List ℕ
chart_text t = flat_map (λ position. instruction_row t position ++ filler_row t position) (range_with_len 0 (length t.numbers))
