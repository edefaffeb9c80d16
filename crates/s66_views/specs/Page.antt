-- To be believed: the page that shows orders of blocks, a row for each unit, each register and each instruction, in minor cycles.
--
-- Coordinates are minor cycles, and points are the newest first. `PAGE_START` and `PAGE_HEAD` are constants: what stands before its
-- title, and from there to the list of blocks, with how it looks and what its colours mean.
use Rattle.std.specs.Prelude.{ℕ, zero, suc, Bool, false, ◌+◌, ◌-◌, ◌*◌, ◌/◌, if◌then◌else◌, ◌==◌, List, [], ◌∷◌, ◌++◌, codes, decimal, flat_map, length, nat_lt, reverse}
use Rattle.std.specs.List.{range_with_len, list_any}
use Rattle.s66_isa.specs.{tally, weigh, Profile, REGISTER_COUNT, register_at, numbers, Kind, Boolean, Shift, Add, LongAdd, Multiply, Divide, Increment, kind_name}
use Rattle.s66_isa.specs.Table.{Reg}
use Rattle.s66_model.specs.{Point, points_of}
use Rattle.s66_command.specs.{changes, changes_text, Change}
use Rattle.s66_line.specs.{Block, bytes_of, instrs_of, line_of}
use Rattle.s66_time.specs.TimedOrder.{TimedOrder}
use Rattle.s66_why.specs.{Cause, Writes, Takes, References, Reads, Ends, Holder, Stretch, Reservation, Work, cycles_of, register_reservations, left_from, taken_from, work, works, works_of_kind}
use Rattle.s66_why.specs.{conflict_name, in_three, path, register_name, stretches_at, why_text}
use Rattle.s66_views.specs.declared.page.row.Shown.{Shown}
use Rattle.s66_views.specs.declared.page.row.Shown.TheVariants.{Bar, Words}
use Rattle.s66_views.specs.declared.page.summary.Summary.{Summary}
use Rattle.s66_views.specs.declared.page.page.Part.{Part}
use Rattle.s66_views.specs.declared.page.page.Part.TheVariants.{Row, Orders}
use Rattle.s66_views.specs.declared.page.start.TheConstants.{PAGE_START, PAGE_HEAD, PAGE_LIST}
use Rattle.s66_views.specs.FoundOrders.{FoundOrder}
use Rattle.s66_views.specs.Escape.{escaped, escaped_lines}

-- Points are in order, the newest first, as in Timing: s are all points before p.

-- BARS

-- from a minor cycle on, this many
unfoldable pub span : (from cycles : ℕ) → List ℕ
span from cycles = codes " x='" ++ decimal from ++ codes "em' width='" ++ decimal cycles ++ codes "em'><title>"

unfoldable pub bar_start : (class : List ℕ) (from cycles : ℕ) → List ℕ
bar_start class from cycles = codes "<rect class='" ++ class ++ codes "'" ++ span from cycles

abbrev pub bar : (class : List ℕ) (from cycles : ℕ) (title : List ℕ) → List ℕ
bar class from cycles title = bar_start class from cycles ++ title ++ codes "</title></rect>"

-- what is waited for
abbrev pub cause_words : Cause → List ℕ
cause_words (Writes r) = register_name r ++ codes " still to come from "
cause_words (Takes kind) = kind_name kind ++ codes " taken by "
cause_words (References memory) = codes "memory used by "
cause_words (Reads r) = register_name r ++ codes " still to be read by "
cause_words Ends = codes "the end of "

abbrev pub words : Holder → List ℕ
words h = cause_words h.cause ++ decimal h.number

unfoldable pub stretch_title : Stretch → List ℕ
stretch_title x = conflict_name x.conflict ++ codes " " ++ decimal x.from ++ codes " TO " ++ decimal x.to ++ codes ": " ++ words x.holder

unfoldable pub stretch_bar : Stretch → List ℕ
stretch_bar x = bar (conflict_name x.conflict) x.from (x.to - x.from) (stretch_title x)

unfoldable pub stretch_words : Stretch → List ℕ
stretch_words x = codes " <tspan class='" ++ conflict_name x.conflict ++ codes "'>" ++ words x.holder ++ codes "</tspan>"

abbrev pub shown_as : Shown → Stretch → List ℕ
shown_as Bar x = stretch_bar x
shown_as Words x = stretch_words x

unfoldable pub work_title : Work → List ℕ
work_title w = codes "ISSUE " ++ decimal w.issue ++ codes " START " ++ decimal w.start ++ codes " DONE " ++ decimal w.done ++ codes " FREE " ++ decimal w.free

-- from its start to its last result, if that waits for no reader
unfoldable pub work_bar : Work → List ℕ
work_bar w = bar (kind_name w.kind) w.start w.latency (work_title w)

-- ROWS OF INSTRUCTIONS

-- an arrow up if the number is greater than this place of the order, from 1, and down if it is less
abbrev pub arrow : (number place : ℕ) → List ℕ
arrow number place = if nat_lt place number then codes "&#8593; " else (if nat_lt number place then codes "&#8595; " else codes "  ")

-- the class of a row, by whether its number is on the path
abbrev pub row_start : (number : ℕ) (on_path : List ℕ) → List ℕ
row_start number on_path = if list_any (λ n. n == number) on_path then codes "<tr class='path'><th>" else codes "<tr><th>"

-- the number, an arrow, the text of the source
unfoldable pub row_head : (text on_path : List ℕ) (number place : ℕ) → List ℕ
row_head text on_path number place = row_start number on_path ++ in_three number ++ arrow number place ++ escaped text ++ codes "<td><svg>"

-- why it waits in words, after its last result
unfoldable pub row_words : List Stretch → (done : ℕ) → List ℕ
row_words xs done = codes "<text x='" ++ decimal done ++ codes "em' y='12' dx='2'>" ++ flat_map (shown_as Words) xs ++ codes "</text></svg>\n"

-- why it waits and how long it works, in bars
unfoldable pub row_marks : List Stretch → Work → List ℕ
row_marks xs w = flat_map (shown_as Bar) xs ++ work_bar w ++ row_words xs w.done

abbrev pub page_instruction_row : Block → (on_path : List ℕ) → List Point → Point → List ℕ
page_instruction_row block on_path s p = row_head (bytes_of block p.number) on_path p.number (length s + 1) ++ row_marks (stretches_at s p) (work p)

abbrev pub instruction_rows : Block → (on_path : List ℕ) → List Point → List ℕ
instruction_rows block on_path [] = []
instruction_rows block on_path (p ∷ s) = instruction_rows block on_path s ++ page_instruction_row block on_path s p

-- ROWS OF UNITS

unfoldable pub numbered_bar : (class : List ℕ) (from cycles number : ℕ) → List ℕ
numbered_bar class from cycles number = bar class from cycles (decimal number)

-- a number from a minor cycle on
unfoldable pub number_at : (cycle number : ℕ) → List ℕ
number_at cycle number = codes "<text x='" ++ decimal cycle ++ codes "em' y='12'><tspan>" ++ decimal number ++ codes "</tspan></text>"

-- taken from issue to free, and at work from start on
unfoldable pub unit_bars : Work → List ℕ
unit_bars w = numbered_bar (codes "taken") w.issue (w.free - w.issue) w.number ++ numbered_bar (kind_name w.kind) w.start w.hold w.number ++ number_at w.start w.number

-- of the time of the order, in per cent, rounded down; every order takes some time
abbrev pub percentage_of : (cycles total : ℕ) → ℕ
percentage_of cycles total = if total == 0 then 0 else 100 * cycles / total

abbrev pub taken : List Work → ℕ
taken ws = weigh (λ (w : Work). w.free - w.issue) ws

abbrev pub worked : List Work → ℕ
worked ws = weigh (λ (w : Work). w.hold) ws

unfoldable pub unit_shares : (taken works : ℕ) → List ℕ
unit_shares taken works = codes " TAKEN " ++ decimal taken ++ codes " % WORKS " ++ decimal works ++ codes " %<td><svg>"

unfoldable pub page_unit_head : (name : List ℕ) (taken works : ℕ) → List ℕ
page_unit_head name taken works = codes "<tr class='unit'><th>     " ++ name ++ unit_shares taken works

unfoldable pub page_unit_row : Kind → (total : ℕ) → List Work → List ℕ
page_unit_row kind total ws = page_unit_head (kind_name kind) (percentage_of (taken ws) total) (percentage_of (worked ws) total) ++ flat_map unit_bars ws ++ codes "</svg>\n"

-- if it takes any
abbrev pub unit_row_of : Kind → (total : ℕ) → List Work → List ℕ
unit_row_of kind total [] = []
unit_row_of kind total (w ∷ ws) = page_unit_row kind total (w ∷ ws)

-- of as many units as the first number at most, one after the other
abbrev pub unit_rows : (most : ℕ) → Kind → (total : ℕ) → List Work → List ℕ
unit_rows zero kind total ws = []
unit_rows (suc most) kind total ws = unit_row_of kind total (taken_from 0 ws) ++ unit_rows most kind total (left_from 0 ws)

-- of the units of a kind
unfoldable pub page_kind_rows : (total : ℕ) → List Work → Kind → List ℕ
page_kind_rows total ws kind = unit_rows (length ws) kind total (works_of_kind kind ws)

-- of all units
unfoldable pub all_kind_rows : (total : ℕ) → List Work → List ℕ
all_kind_rows total ws =
    page_kind_rows total ws Boolean ++ page_kind_rows total ws Shift ++ page_kind_rows total ws Add ++ page_kind_rows total ws LongAdd ++ page_kind_rows total ws Multiply
    ++ page_kind_rows total ws Divide ++ page_kind_rows total ws Increment

-- ROWS OF REGISTERS

-- from the issue of an instruction until its result is done
unfoldable pub register_bar : Reservation → List ℕ
register_bar x = numbered_bar (codes "taken") x.from (x.until - x.from) x.number ++ number_at x.from x.number

unfoldable pub page_register_head : Reg → List ℕ
page_register_head r = codes "<tr class='register'><th>     " ++ register_name r ++ codes "<td><svg>"

unfoldable pub page_register_row : Reg → List Reservation → List ℕ
page_register_row r xs = page_register_head r ++ flat_map register_bar xs ++ codes "</svg>\n"

-- if it is reserved at all
abbrev pub register_row_of : Reg → List Reservation → List ℕ
register_row_of r [] = []
register_row_of r (x ∷ xs) = page_register_row r (x ∷ xs)

-- of all registers that these write
abbrev pub page_register_rows : List Point → List ℕ
page_register_rows points =
    flat_map (λ index. register_row_of (register_at index) (register_reservations (register_at index) points)) (range_with_len 0 REGISTER_COUNT)

-- ORDERS

-- a number above every tenth minor cycle
abbrev pub tick : ℕ → List ℕ
tick ten = number_at (10 * ten) (10 * ten)

abbrev pub ticks : (total : ℕ) → List ℕ
ticks total = flat_map tick (range_with_len 0 (total / 10 + 1))

unfoldable pub heading_end : (total : ℕ) → List ℕ
heading_end total = codes ": " ++ decimal total ++ codes " minor cycles</h3>\n"

unfoldable pub heading : (title : List ℕ) (total : ℕ) → List ℕ
heading title total = codes "<h3>" ++ title ++ heading_end total

-- the table of an order, whose width follows from its time; the ruler is its head, which a printer repeats on each sheet
unfoldable pub table_start : (total : ℕ) → List ℕ
table_start total = codes "<table class='order' style='--n:" ++ decimal total ++ codes "'>\n<thead><tr class='ruler'><th><td><svg>"

unfoldable pub order_head : (title : List ℕ) (total : ℕ) → List ℕ
order_head title total = heading title total ++ table_start total ++ ticks total ++ codes "</svg>\n<tbody>\n"

-- the numbers of the path
abbrev pub on_path : TimedOrder → List ℕ
on_path t = path (points_of t.problem t.numbers)

-- of the units, of the registers, and of the instructions
abbrev pub all_rows : Block → TimedOrder → List ℕ
all_rows block t =
    all_kind_rows (cycles_of t) (works t) ++ page_register_rows (reverse (points_of t.problem t.numbers))
    ++ instruction_rows block (on_path t) (points_of t.problem t.numbers)

-- what `why` says of it, without texts
unfoldable pub why_below : Block → TimedOrder → List ℕ
why_below block t = codes "</table>\n<pre>" ++ why_text false block t ++ codes "</pre>\n"

-- the rows of an order, and below them what `why` says of it
unfoldable pub page_order_text : Block → (title : List ℕ) → TimedOrder → List ℕ
page_order_text block title t = order_head title (cycles_of t) ++ all_rows block t ++ why_below block t

-- BLOCKS

unfoldable pub page_bound_text : (time bound : ℕ) → List ℕ
page_bound_text time bound = if bound == time then codes "BEST" else (codes "AT LEAST " ++ decimal bound)

-- of the n-th block, from 1, by its source order, the best order found, and what every order takes at least
abbrev pub summary : ℕ → Block → (source best : TimedOrder) (bound : ℕ) → Summary
summary n block source best bound =
    record { number = n; line = line_of block 1; count = length (instrs_of block); source = cycles_of source; time = cycles_of best; bound = bound }

unfoldable pub block_place : (number line count : ℕ) → List ℕ
block_place number line count = codes " BLOCK " ++ decimal number ++ codes " LINE " ++ decimal line ++ codes " COUNT " ++ decimal count

unfoldable pub block_times : (source time : ℕ) → List ℕ
block_times source time = codes " SOURCE " ++ decimal source ++ codes " TIME " ++ decimal time ++ codes " "

unfoldable pub block_anchor : (number : ℕ) → List ℕ
block_anchor number = codes "<h2 id='b" ++ decimal number ++ codes "'>"

unfoldable pub block_title : (entry : List ℕ) → Summary → List ℕ
block_title entry b = block_anchor b.number ++ escaped entry ++ block_place b.number b.line b.count

unfoldable pub block_verdict : Summary → List ℕ
block_verdict b = block_times b.source b.time ++ page_bound_text b.time b.bound ++ codes " <a href='#top'>&#8593;</a></h2>\n"

unfoldable pub page_block_head : (entry : List ℕ) → Summary → List ℕ
page_block_head entry b = block_title entry b ++ block_verdict b

-- the best order, if it takes less
abbrev pub best_text : Block → (source best : TimedOrder) → List ℕ
best_text block source best = if nat_lt (cycles_of best) (cycles_of source) then page_order_text block (codes "In the best order found") best else []

-- lines below each other
unfoldable pub page_listing : List ℕ → List ℕ
page_listing text = codes "<pre style='columns:auto'>" ++ escaped_lines text ++ codes "</pre>\n"

-- why no order is faster, if that is said
abbrev pub reasons_below : (reasons : List ℕ) → List ℕ
reasons_below reasons = if length reasons == 0 then [] else page_listing reasons

unfoldable pub block_text : ℕ → (entry : List ℕ) → Block → (source best : TimedOrder) (bound : ℕ) (reasons : List ℕ) → List ℕ
block_text n entry block source best bound reasons =
    page_block_head entry (summary n block source best bound) ++ page_order_text block (codes "As it is written") source ++ best_text block source best
    ++ reasons_below reasons

-- THE LIST OF BLOCKS

-- a link to the block
unfoldable pub index_link : (number : ℕ) → List ℕ
index_link number = codes "<tr><td><a href='#b" ++ decimal number ++ codes "'>" ++ decimal number ++ codes "</a>"

unfoldable pub table_cell : ℕ → List ℕ
table_cell n = codes "<td>" ++ decimal n

unfoldable pub bound_cell : (time bound : ℕ) → List ℕ
bound_cell time bound = codes "<td>" ++ page_bound_text time bound ++ codes "\n"

unfoldable pub entry_cell : (entry : List ℕ) → List ℕ
entry_cell entry = codes "<td>" ++ escaped entry

-- of the source order and of the best one, and how much less that takes
unfoldable pub time_cells : (source time : ℕ) → List ℕ
time_cells source time = table_cell source ++ table_cell time ++ table_cell (source - time)

unfoldable pub index_row : (entry : List ℕ) → Summary → List ℕ
index_row entry b = index_link b.number ++ entry_cell entry ++ table_cell b.line ++ table_cell b.count ++ time_cells b.source b.time ++ bound_cell b.time b.bound

unfoldable pub best_cell : (best : ℕ) → List ℕ
best_cell best = codes "<td>BEST " ++ decimal best ++ codes "\n"

-- below the rows: their instructions, their times, and how many of the orders are best
unfoldable pub total_row : (count source time best : ℕ) → List ℕ
total_row count source time best = codes "<tr><td>TOTAL<td><td>" ++ table_cell count ++ time_cells source time ++ best_cell best

abbrev pub is_best : Summary → Bool
is_best b = b.bound == b.time

-- of these blocks
abbrev pub total_of_all : List Summary → List ℕ
total_of_all bs =
    total_row (weigh (λ (b : Summary). b.count) bs) (weigh (λ (b : Summary). b.source) bs) (weigh (λ (b : Summary). b.time) bs) (tally is_best bs)

-- THE PAGE

abbrev pub as_written : Profile → Block → TimedOrder
as_written p block = record { problem = record { block = instrs_of block; profile = p }; numbers = numbers (instrs_of block) }

abbrev pub as_found : Profile → Block → FoundOrder → TimedOrder
as_found p block f = record { problem = record { block = instrs_of block; profile = p }; numbers = f.order.numbers }

-- of the n-th block
unfoldable pub index_entry : Profile → ℕ → Block → FoundOrder → List ℕ
index_entry p n block f = index_row f.entry (summary n block (as_written p block) (as_found p block f) f.bound)

unfoldable pub block_entry : Profile → ℕ → Block → FoundOrder → List ℕ
block_entry p n block f = block_text n f.entry block (as_written p block) (as_found p block f) f.bound f.reasons

abbrev pub entry : Part → Profile → ℕ → Block → FoundOrder → List ℕ
entry Row p n block f = index_entry p n block f
entry Orders p n block f = block_entry p n block f

-- of these blocks, before which n come
abbrev pub page_entries : (ℕ → Block → FoundOrder → List ℕ) → ℕ → List Block → List FoundOrder → List ℕ
page_entries entry n (b ∷ bs) (f ∷ fs) = entry (n + 1) b f ++ page_entries entry (n + 1) bs fs
page_entries entry n (b ∷ bs) [] = []
page_entries entry n [] fs = []

abbrev pub summaries : Profile → ℕ → List Block → List FoundOrder → List Summary
summaries p n (b ∷ bs) (f ∷ fs) = summary (n + 1) b (as_written p b) (as_found p b f) f.bound ∷ summaries p (n + 1) bs fs
summaries p n (b ∷ bs) [] = []
summaries p n [] fs = []

-- the name and the number of the first of these blocks, before which n come
abbrev pub page_title : ℕ → List FoundOrder → List ℕ
page_title n [] = codes "s66"
page_title n (f ∷ fs) = escaped f.entry ++ codes " BLOCK " ++ decimal (n + 1)

-- the numbers of the profile that aren't the standard profile's, if there are any
abbrev pub profile_line : List Change → List ℕ
profile_line [] = []
profile_line (c ∷ cs) = codes "<p>Profile:" ++ changes_text (c ∷ cs) ++ codes "</p>\n"

abbrev pub page_head : Profile → ℕ → List FoundOrder → List ℕ
page_head p n found = PAGE_START.now ++ page_title n found ++ PAGE_HEAD.now ++ profile_line (changes p) ++ PAGE_LIST.now

-- the list of these blocks, before which n come, and their total
abbrev pub index : Profile → ℕ → List Block → List FoundOrder → List ℕ
index p n blocks found = page_entries (entry Row p) n blocks found ++ total_of_all (summaries p n blocks found) ++ codes "</table>\n"

-- the list, and the blocks
abbrev pub page_text : Profile → ℕ → List Block → List FoundOrder → List ℕ
page_text p n blocks found = page_head p n found ++ index p n blocks found ++ page_entries (entry Orders p) n blocks found
