-- Used by contracts within the crate alone: the text of a value in pieces, as it is appended.
use Rattle.std.specs.Prelude.{ℕ, Bool, true, false, List, [], ◌∷◌, ◌++◌, codes, decimal, length}
use Rattle.serde_json.specs.Written.{comma_if, compact_text}
use Rattle.s66_isa.specs.{Kind, Memory, Profile, Row, Write, numbers}
use Rattle.s66_isa.specs.Table.{Reg}
use Rattle.s66_model.specs.{needs, Point, ResultAt, latest_result, total_of}
use Rattle.s66_command.specs.{changes, name_at, Change}
use Rattle.s66_line.specs.{Block, instrs_of, line_of, whole_text_of}
use Rattle.s66_time.specs.TimedOrder.{TimedOrder}
use Rattle.s66_why.specs.{Cause, Conflict, First, Second, Third, Stretch, added, lost, path, stretches, stretches_at}
use Rattle.s66_views.specs.Json.{conflict_data, fillers_in, label_data, memory_data, name_data, parcels_in, points, register_data, row_of, sort_data, text_data, unit_data}

-- SHORT VALUES

unfoldable pub string_text : List ℕ → List ℕ
string_text text = compact_text (text_data text)

unfoldable pub json_register_text : Reg → List ℕ
json_register_text r = compact_text (register_data r)

unfoldable pub unit_text : Kind → List ℕ
unit_text kind = compact_text (unit_data kind)

unfoldable pub memory_text : Memory → List ℕ
memory_text memory = compact_text (memory_data memory)

unfoldable pub conflict_text : Conflict → List ℕ
conflict_text conflict = compact_text (conflict_data conflict)

unfoldable pub sort_text : Cause → List ℕ
sort_text cause = compact_text (sort_data cause)

unfoldable pub name_text : Cause → List ℕ
name_text cause = compact_text (name_data cause)

unfoldable pub label_text : List ℕ → List ℕ
label_text label = compact_text (label_data label)

-- LISTS

-- these after others or not, with the bracket that closes them
abbrev pub json_listed : {X : Type 0} → (X → List ℕ) → Bool → List X → List ℕ
json_listed text later [] = codes "]"
json_listed text later (x ∷ xs) = comma_if later ++ (text x ++ json_listed text true xs)

abbrev pub list_text : {X : Type 0} → (X → List ℕ) → List X → List ℕ
list_text text xs = codes "[" ++ json_listed text false xs

abbrev pub write_text : Write → List ℕ
write_text w = json_register_text w.reg

unfoldable pub numbers_text : List ℕ → List ℕ
numbers_text ns = list_text decimal ns

unfoldable pub registers_text : List Reg → List ℕ
registers_text rs = list_text json_register_text rs

unfoldable pub writes_text : List Write → List ℕ
writes_text ws = list_text write_text ws

-- WAITS

unfoldable pub wait_start : Stretch → List ℕ
wait_start x = codes "{\"conflict\":" ++ (conflict_text x.conflict ++ (codes ",\"from\":" ++ (decimal x.from ++ (codes ",\"to\":" ++ decimal x.to))))

unfoldable pub json_cause_text : Cause → List ℕ
json_cause_text cause = codes ",\"for\":" ++ (sort_text cause ++ (codes ",\"name\":" ++ name_text cause))

unfoldable pub wait_text : Stretch → List ℕ
wait_text x = wait_start x ++ (json_cause_text x.holder.cause ++ (codes ",\"by\":" ++ (decimal x.holder.number ++ codes "}")))

unfoldable pub waits_text : List Stretch → List ℕ
waits_text xs = list_text wait_text xs

-- AN ORDER

unfoldable pub result_text : ResultAt → List ℕ
result_text d = codes "{\"register\":" ++ (json_register_text d.reg ++ (codes ",\"done\":" ++ (decimal d.time ++ codes "}")))

unfoldable pub results_text : List ResultAt → List ℕ
results_text ds = list_text result_text ds

unfoldable pub place_text : Point → List ℕ
place_text p = codes "{\"n\":" ++ (decimal p.number ++ (codes ",\"parcel\":" ++ (decimal p.parcel ++ (codes ",\"issue\":" ++ decimal p.issue))))

unfoldable pub json_times_text : Point → List ℕ
json_times_text p = codes ",\"start\":" ++ (decimal p.start ++ (codes ",\"done\":" ++ (decimal (latest_result p) ++ (codes ",\"free\":" ++ decimal p.free))))

unfoldable pub lists_text : Point → List Stretch → List ℕ
lists_text p waits = codes ",\"results\":" ++ (results_text p.results ++ (codes ",\"waits\":" ++ (waits_text waits ++ codes "}")))

-- of an instruction, which waits so
unfoldable pub point_text : Point → List Stretch → List ℕ
point_text p waits = place_text p ++ (json_times_text p ++ lists_text p waits)

abbrev pub is_some : List Point → Bool
is_some [] = false
is_some (p ∷ s) = true

-- the points, the first first
abbrev pub points_text : List Point → List ℕ
points_text [] = []
points_text (p ∷ s) = points_text s ++ (comma_if (is_some s) ++ point_text p (stretches_at s p))

unfoldable pub lost_text : (first second third : ℕ) → List ℕ
lost_text first second third =
    codes ",\"lost\":{\"first\":" ++ (decimal first ++ (codes ",\"second\":" ++ (decimal second ++ (codes ",\"third\":" ++ (decimal third ++ codes "}")))))

abbrev pub lost_of : List Stretch → List ℕ
lost_of xs = lost_text (lost First xs) (lost Second xs) (lost Third xs)

unfoldable pub order_text : (time filled : ℕ) → List ℕ → List ℕ
order_text time filled ns = codes "{\"time\":" ++ (decimal time ++ (codes ",\"no\":" ++ (decimal filled ++ (codes ",\"order\":" ++ (numbers_text ns ++ codes ",\"at\":[")))))

unfoldable pub path_text : List ℕ → List ℕ
path_text ns = codes "],\"path\":" ++ numbers_text ns

unfoldable pub steps_text : List ℕ → List ℕ
steps_text ns = codes ",\"steps\":" ++ numbers_text ns

-- of a timed order, without the brace that closes it
unfoldable pub timed_text : TimedOrder → List ℕ
timed_text t =
    order_text (total_of t.problem t.numbers) (fillers_in t) t.numbers
    ++ (points_text (points t) ++ (path_text (path (points t)) ++ (steps_text (added (points t)) ++ lost_of (stretches (points t)))))

abbrev pub truth_text : Bool → List ℕ
truth_text true = codes "true"
truth_text false = codes "false"

unfoldable pub json_bound_text : (bound splits : ℕ) → Bool → List ℕ
json_bound_text bound splits best = codes ",\"bound\":" ++ (decimal bound ++ (codes ",\"best\":" ++ (truth_text best ++ (codes ",\"splits\":" ++ decimal splits))))

-- INSTRUCTIONS

unfoldable pub source_text : Block → ℕ → List ℕ
source_text block n = codes "{\"n\":" ++ (decimal n ++ (codes ",\"line\":" ++ (decimal (line_of block n) ++ (codes ",\"text\":" ++ string_text (whole_text_of block n)))))

unfoldable pub work_text : Row → List ℕ
work_text r = codes ",\"unit\":" ++ (unit_text r.kind ++ (codes ",\"parcels\":" ++ (decimal r.parcels ++ (codes ",\"works\":" ++ decimal r.hold))))

unfoldable pub operands_text : Row → List ℕ
operands_text r = codes ",\"reads\":" ++ (registers_text r.reads ++ (codes ",\"writes\":" ++ writes_text r.writes))

unfoldable pub needs_text : Row → List ℕ → List ℕ
needs_text r ns = codes ",\"memory\":" ++ (memory_text r.memory ++ (codes ",\"after\":" ++ (numbers_text ns ++ codes "}")))

unfoldable pub json_instruction_text : Profile → Block → ℕ → List ℕ
json_instruction_text p block n =
    source_text block n ++ (work_text (row_of p block n) ++ (operands_text (row_of p block n) ++ needs_text (row_of p block n) (needs (instrs_of block) n)))

unfoldable pub json_instructions_text : Profile → Block → List ℕ
json_instructions_text p block = codes ",\"instructions\":" ++ list_text (json_instruction_text p block) (numbers (instrs_of block))

-- A BLOCK

unfoldable pub name_of_block : ℕ → (label entry : List ℕ) → List ℕ
name_of_block n label entry =
    codes "{\"schema\":1,\"block\":" ++ (decimal n ++ (codes ",\"label\":" ++ (label_text label ++ (codes ",\"entry\":" ++ label_text entry))))

unfoldable pub json_lines_text : Block → List ℕ
json_lines_text block = codes ",\"line\":" ++ (decimal (line_of block 1) ++ (codes ",\"last_line\":" ++ decimal (line_of block (length (instrs_of block)))))

unfoldable pub size_text : Block → List ℕ
size_text block = codes ",\"count\":" ++ (decimal (length (instrs_of block)) ++ (codes ",\"parcels\":" ++ decimal (parcels_in (instrs_of block))))

-- these numbers after others or not, with the brace that closes them
abbrev pub changes_listed : Bool → List Change → List ℕ
changes_listed later [] = codes "}"
changes_listed later (c ∷ cs) = comma_if later ++ (string_text (name_at c.place) ++ (codes ":" ++ (decimal c.value ++ changes_listed true cs)))

abbrev pub profile_member_text : List Change → List ℕ
profile_member_text [] = []
profile_member_text (c ∷ cs) = codes ",\"profile\":{" ++ changes_listed false (c ∷ cs)

unfoldable pub head_text : ℕ → (entry : List ℕ) → Profile → Block → List ℕ
head_text n entry p block = name_of_block n block.label entry ++ (json_lines_text block ++ (size_text block ++ profile_member_text (changes p)))

-- to where it is said what is found
unfoldable pub start_text : ℕ → (entry : List ℕ) → Block → TimedOrder → List ℕ
start_text n entry block t =
    head_text n entry t.problem.profile block ++ (json_instructions_text t.problem.profile block ++ (codes ",\"written\":" ++ (timed_text t ++ codes "},\"found\":")))
