-- To be believed: the JSON value that `json` writes of a block in a line: its instructions, and the orders in which it is timed.
--
-- Values are `serde_json`'s `Data`, and `compact_text` is the text of one without spaces. `FORMATS.md`, under `s66 json`, has the keys
-- of `wait_data`, `point_data`, `order_members` and `instruction_data`.
use Rattle.std.specs.Prelude.{ℕ, ◌+◌, ◌/◌, ◌%◌, if◌then◌else◌, ◌==◌, List, [], ◌∷◌, ◌++◌, codes, flat_map, length, map, nat_lt}
use Rattle.serde_json.specs.Data.{Data, null, boolean, number, string, array, object, unsigned, Items, no_items, item, Members, no_members, member}
use Rattle.serde_json.specs.Written.{compact_text}
use Rattle.s66_isa.specs.{Instr, Kind, Boolean, Shift, Add, LongAdd, Multiply, Divide, Increment, Memory, Profile, weigh, Row, Write, instr_at, numbers, parcels_of, row}
use Rattle.s66_isa.specs.declared.instr.Memory.TheVariants as memory
use Rattle.s66_isa.specs.Table.{Reg}
use Rattle.s66_model.specs.{needs, fillers, len_at, Point, ResultAt, latest_result, points_of, total_of}
use Rattle.s66_command.specs.{changes, name_at, Change}
use Rattle.s66_line.specs.{Block, instrs_of, line_of, whole_text_of}
use Rattle.s66_time.specs.TimedOrder.{TimedOrder}
use Rattle.s66_why.specs.{Cause, Writes, Takes, References, Reads, Ends, Conflict, First, Second, Third, Stretch, added, bank_name, lost, path, stretches, stretches_at}

-- NUMBERS, TEXTS AND LISTS

abbrev pub num : ℕ → Data
num n = number (unsigned n)

abbrev pub items_of : {X : Type 0} → (X → Data) → List X → Items
items_of value [] = no_items
items_of value (x ∷ xs) = item (value x) (items_of value xs)

abbrev pub list_of : {X : Type 0} → (X → Data) → List X → Data
list_of value xs = array (items_of value xs)

-- the UTF-8 of the character whose number a byte is, so that the bytes of any text can be got back
abbrev pub character : ℕ → List ℕ
character b = if nat_lt b 128 then b ∷ [] else (192 + b / 64) ∷ (128 + b % 64) ∷ []

abbrev pub characters : List ℕ → List ℕ
characters text = flat_map character text

abbrev pub text_data : List ℕ → Data
text_data text = string (characters text)

-- REGISTERS, UNITS, MEMORY

-- the letter of its bank, and its digit
abbrev pub json_register_name : Reg → List ℕ
json_register_name r = bank_name r.bank ++ (48 + r.digit) ∷ []

abbrev pub register_data : Reg → Data
register_data r = string (json_register_name r)

abbrev pub json_unit_name : Kind → List ℕ
json_unit_name Boolean = codes "boolean"
json_unit_name Shift = codes "shift"
json_unit_name Add = codes "add"
json_unit_name LongAdd = codes "longadd"
json_unit_name Multiply = codes "multiply"
json_unit_name Divide = codes "divide"
json_unit_name Increment = codes "increment"

abbrev pub unit_data : Kind → Data
unit_data kind = string (json_unit_name kind)

abbrev pub memory_data : Memory → Data
memory_data memory.None = null
memory_data memory.Load = string (codes "load")
memory_data memory.Store = string (codes "store")

-- WAITS

abbrev pub conflict_data : Conflict → Data
conflict_data First = string (codes "first")
conflict_data Second = string (codes "second")
conflict_data Third = string (codes "third")

-- of which sort is what is waited for
abbrev pub sort_data : Cause → Data
sort_data (Writes r) = string (codes "register")
sort_data (Takes kind) = string (codes "unit")
sort_data (References memory) = string (codes "memory")
sort_data (Reads r) = string (codes "register")
sort_data Ends = string (codes "end")

abbrev pub name_data : Cause → Data
name_data (Writes r) = register_data r
name_data (Takes kind) = unit_data kind
name_data (References memory) = null
name_data (Reads r) = register_data r
name_data Ends = null

-- a stretch: the conflict, from when to when, what is waited for, and who holds it
abbrev pub wait_data : Stretch → Data
wait_data x =
    object (member (codes "conflict") (conflict_data x.conflict) (member (codes "from") (num x.from) (member (codes "to") (num x.to)
    (member (codes "for") (sort_data x.holder.cause) (member (codes "name") (name_data x.holder.cause)
    (member (codes "by") (num x.holder.number) no_members))))))

-- AN ORDER: points are the newest first, as in Timing, and s are all points before p

abbrev pub result_data : ResultAt → Data
result_data d = object (member (codes "register") (register_data d.reg) (member (codes "done") (num d.time) no_members))

-- an instruction of an order, with its times, its results and what it waits for
abbrev pub point_data : List Point → Point → Data
point_data s p =
    object (member (codes "n") (num p.number) (member (codes "parcel") (num p.parcel) (member (codes "issue") (num p.issue)
    (member (codes "start") (num p.start) (member (codes "done") (num (latest_result p)) (member (codes "free") (num p.free)
    (member (codes "results") (list_of result_data p.results) (member (codes "waits") (list_of wait_data (stretches_at s p)) no_members))))))))

-- the points, the first first, and then more
abbrev pub points_items : List Point → Items → Items
points_items [] more = more
points_items (p ∷ s) more = points_items s (item (point_data s p) more)

abbrev pub lost_data : List Stretch → Data
lost_data xs = object (member (codes "first") (num (lost First xs)) (member (codes "second") (num (lost Second xs)) (member (codes "third") (num (lost Third xs)) no_members)))

abbrev pub points : TimedOrder → List Point
points t = points_of t.problem t.numbers

-- how many NOs fill up words
abbrev pub fillers_in : TimedOrder → ℕ
fillers_in t = length (fillers 0 (map (len_at t.problem.block) t.numbers))

-- of an order, and then more
abbrev pub order_members : TimedOrder → Members → Members
order_members t more =
    member (codes "time") (num (total_of t.problem t.numbers)) (member (codes "no") (num (fillers_in t)) (member (codes "order") (list_of num t.numbers)
    (member (codes "at") (array (points_items (points t) no_items)) (member (codes "path") (list_of num (path (points t)))
    (member (codes "steps") (list_of num (added (points t))) (member (codes "lost") (lost_data (stretches (points t))) more))))))

abbrev pub written_data : TimedOrder → Data
written_data t = object (order_members t no_members)

-- with what every order takes at least, whether this is the order's time, and how many splits there were
abbrev pub found_data : TimedOrder → (bound splits : ℕ) → Data
found_data t bound splits =
    object (order_members t (member (codes "bound") (num bound) (member (codes "best") (boolean (bound == total_of t.problem t.numbers))
    (member (codes "splits") (num splits) no_members))))

-- INSTRUCTIONS

abbrev pub result_register : Write → Data
result_register w = register_data w.reg

abbrev pub row_of : Profile → Block → ℕ → Row
row_of p block n = row p (instr_at (instrs_of block) n)

-- what the table has of an instruction, its line and text, and on which it depends
abbrev pub instruction_data : Profile → Block → ℕ → Data
instruction_data p block n =
    object (member (codes "n") (num n) (member (codes "line") (num (line_of block n)) (member (codes "text") (text_data (whole_text_of block n))
    (member (codes "unit") (unit_data (row_of p block n).kind) (member (codes "parcels") (num (row_of p block n).parcels) (member (codes "works") (num (row_of p block n).hold)
    (member (codes "reads") (list_of register_data (row_of p block n).reads) (member (codes "writes") (list_of result_register (row_of p block n).writes)
    (member (codes "memory") (memory_data (row_of p block n).memory) (member (codes "after") (list_of num (needs (instrs_of block) n)) no_members))))))))))

-- A BLOCK

-- without the blank before it
abbrev pub without_blank : List ℕ → List ℕ
without_blank [] = []
without_blank (b ∷ bs) = if b == 32 then bs else b ∷ bs

abbrev pub label_data : List ℕ → Data
label_data [] = null
label_data (b ∷ bs) = text_data (without_blank (b ∷ bs))

abbrev pub parcels_in : List Instr → ℕ
parcels_in block = weigh (λ (n : Instr). parcels_of n.op.code) block

-- numbers of a profile, by their names
abbrev pub change_members : List Change → Members
change_members [] = no_members
change_members (c ∷ cs) = member (characters (name_at c.place)) (num c.value) (change_members cs)

-- those that aren't the standard profile's, if there are any, and then more
abbrev pub profile_members : List Change → Members → Members
profile_members [] more = more
profile_members (c ∷ cs) more = member (codes "profile") (object (change_members (c ∷ cs))) more

-- the n-th block, from 1, which is entered by this name, as it is written, and what is found of it, or null
abbrev pub block_data : ℕ → (entry : List ℕ) → Block → (written : TimedOrder) (found : Data) → Data
block_data n entry block t found =
    object (member (codes "schema") (num 1) (member (codes "block") (num n) (member (codes "label") (label_data block.label)
    (member (codes "entry") (label_data entry) (member (codes "line") (num (line_of block 1)) (member (codes "last_line") (num (line_of block (length (instrs_of block))))
    (member (codes "count") (num (length (instrs_of block))) (member (codes "parcels") (num (parcels_in (instrs_of block)))
    (profile_members (changes t.problem.profile) (member (codes "instructions") (list_of (instruction_data t.problem.profile block) (numbers (instrs_of block)))
    (member (codes "written") (written_data t) (member (codes "found") found no_members))))))))))))

-- its line
abbrev pub json_line : ℕ → (entry : List ℕ) → Block → (written : TimedOrder) (found : Data) → List ℕ
json_line n entry block t found = compact_text (block_data n entry block t found) ++ codes "\n"
