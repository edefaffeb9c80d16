-- To be believed: which instruction holds each functional unit and each register, as a picture: a row for each, a column for each minor cycle.
use Rattle.std.specs.Prelude.{ℕ, zero, suc, ◌+◌, ◌-◌, Bool, if◌then◌else◌, ◌&&◌, max, List, [], ◌∷◌, ◌++◌, codes, decimal, flat_map, get_or, length, map, nat_le, nat_lt, replicate, reverse}
use Rattle.std.specs.List.{range_with_len}
use Rattle.s66_isa.specs.{Kind, REGISTER_COUNT, kind_name, register_at, all_kinds}
use Rattle.s66_isa.specs.Table.{Reg}
use Rattle.s66_model.specs.{Point, done_at, points_of, writes_reg}
use Rattle.s66_line.specs.{Block}
use Rattle.s66_time.specs.TimedOrder.{TimedOrder}
use Rattle.s66_why.specs.declared.reservation.Reservation.{Reservation}
use Rattle.s66_why.specs.declared.reservation.TheConstants.{CONTINUES, FREE}
use Rattle.s66_why.specs.declared.row.TheConstants.{NAME_ROOM}
use Rattle.s66_why.specs.declared.units_chart.TheConstants.{KIND_ROOM}
use Rattle.s66_why.specs.declared.work.Work.{Work}
use Rattle.s66_why.specs.Chart.{cycles_of}
use Rattle.s66_why.specs.TextChart.{chart_in_places, in_places, text_width}
use Rattle.s66_why.specs.Units.{left_from, taken_from, works, works_of_kind}
use Rattle.s66_why.specs.Why.{register_name}

-- WHEN

-- a unit is reserved from the issue of an instruction until it is free
abbrev pub unit_reservation : Work → Reservation
unit_reservation w = record { number = w.number; from = w.issue; until = w.free }

-- the register of a result is reserved from the issue of its instruction until the result is done
abbrev pub register_reservation : Reg → Point → List Reservation
register_reservation r p = if writes_reg r p then record { number = p.number; from = p.issue; until = done_at p r } ∷ [] else []

-- in the order in which the instructions issue
abbrev pub register_reservations : Reg → List Point → List Reservation
register_reservations r points = flat_map (register_reservation r) points

-- ROWS

-- it holds in this minor cycle
abbrev pub holds : Reservation → ℕ → Bool
holds x cycle = nat_le x.from cycle && nat_lt cycle x.until

-- a digit of the number of who holds, from the first minor cycle on, and then a dash
abbrev pub mark : Reservation → ℕ → ℕ
mark x cycle = get_or (decimal x.number) (cycle - x.from) CONTINUES

-- by the first that holds
abbrev pub cell : List Reservation → ℕ → ℕ
cell [] cycle = FREE
cell (x ∷ xs) cycle = if holds x cycle then mark x cycle else cell xs cycle

-- the minor cycles, below those of an instruction's row
abbrev pub cells : (cycles : ℕ) → List Reservation → List ℕ
cells cycles xs = replicate (NAME_ROOM + 1) 32 ++ map (cell xs) (range_with_len 0 cycles) ++ codes "\n"

-- after this head, if anything is reserved
abbrev pub row_if_reserved : (head : List ℕ) (cycles : ℕ) → List Reservation → List ℕ
row_if_reserved head cycles [] = []
row_if_reserved head cycles (x ∷ xs) = head ++ cells cycles (x ∷ xs)

-- UNITS

-- the kind, and which of its units, in as many places as a text
abbrev pub unit_head : (width : ℕ) → Kind → (copy : ℕ) → List ℕ
unit_head width kind copy = in_places KIND_ROOM (kind_name kind) ++ in_places (width - (KIND_ROOM + 1)) (decimal copy)

abbrev pub unit_row : (width cycles : ℕ) → Kind → (copy : ℕ) → List Work → List ℕ
unit_row width cycles kind copy ws = row_if_reserved (unit_head width kind copy) cycles (map unit_reservation ws)

-- of as many units as the first number at most, one after the other: the first is this copy
abbrev pub copy_rows : (most copy width cycles : ℕ) → Kind → List Work → List ℕ
copy_rows zero copy width cycles kind ws = []
copy_rows (suc most) copy width cycles kind ws = unit_row width cycles kind copy (taken_from 0 ws) ++ copy_rows most (copy + 1) width cycles kind (left_from 0 ws)

-- of the units of a kind that these instructions take
abbrev pub kind_rows : (width cycles : ℕ) → List Work → Kind → List ℕ
kind_rows width cycles ws kind = copy_rows (length ws) 1 width cycles kind (works_of_kind kind ws)

-- REGISTERS

-- the name of a register in as many places as a text
abbrev pub register_head : (width : ℕ) → Reg → List ℕ
register_head width r = register_name r ++ replicate (width - 2) 32 ++ codes " "

abbrev pub register_row : (width cycles : ℕ) → List Point → Reg → List ℕ
register_row width cycles points r = row_if_reserved (register_head width r) cycles (register_reservations r points)

abbrev pub register_rows : (width cycles : ℕ) → List Point → List ℕ
register_rows width cycles points = flat_map (λ index. register_row width cycles points (register_at index)) (range_with_len 0 REGISTER_COUNT)

-- THE CHART

-- below texts of this many places a row for each unit that is taken, and for each register that is written
abbrev pub reservation_rows : (width : ℕ) → TimedOrder → List ℕ
reservation_rows width t =
    flat_map (kind_rows width (cycles_of t) (works t)) all_kinds ++ register_rows width (cycles_of t) (reverse (points_of t.problem t.numbers))

-- enough for the texts of a block, and for a kind and the greatest number of its units
abbrev pub units_width : Block → ℕ
units_width block = max (text_width block) (KIND_ROOM + 4)

-- the chart of the instructions with their texts, and those rows below
abbrev pub units_chart : Block → TimedOrder → List ℕ
units_chart block t = chart_in_places (units_width block) block t ++ reservation_rows (units_width block) t
