-- Used by examples alone: worked blocks of a few instructions, their COMPASS lines above each. Words say what an order of one
-- does under the standard profile, what leaves a prefix has, and what trees there are of them.
use Rattle.std.specs.Prelude.{ℕ, Bool, zero, suc, true, false, ◌≢◌, List, [], ◌∷◌, map, reverse}
use Rattle.std.proofs.Common.{lit≤}
use Rattle.s66_isa.specs.{Instr, Kind, Boolean, Multiply, Increment, Memory, Reg, Profile, instr, numbers, Row, Write, standard, a_reg, b_reg, all_kinds, reads_of, results_of, memory_of, memory_pair}
use Rattle.s66_model.specs.declared.rule.Rule.{Rule}
use Rattle.s66_model.specs.declared.rule.Rule.TheVariants.{WrittenEarlier, ClampedStanding}
use Rattle.s66_model.specs.Packing.{parcels_from, fillers, len_at}
use Rattle.s66_model.specs.Dependence.{share}
use Rattle.s66_model.specs.Meaning.{Term, Initial, Computed, Terms, NoTerms, Then, Storage, meaning}
use Rattle.s66_model.specs.Timing.{Problem, Point, row_at, points_of, latest_result}
use Rattle.s66_model.specs.Leaves.{Leaf, Whole, Chain, Load, link, load, chain, longest_chain, floor, floor_value}
use Rattle.s66_model.specs.Tails.{longest_tail}
use Rattle.s66_model.specs.Trees.{Tree, Parted, Siblings, NoMore, Unsplit, Split}
use Rattle.s66_model.specs.Answer.{Answer}
use Rattle.s66_model.specs.DominatedLeaves.{Ending, Bounding, Dominated, tree_bounding}
use Rattle.s66_model.specs.Piece.{Terminal, Carries, Frontier}

abbrev pub standard_problem : List Instr → Problem
standard_problem block = record { block = block; profile = standard }

-- A PROFILE

-- no two entries alike, so that none can stand for another; what is loaded comes before the unit is done
abbrev pub uneven_profile : Profile
uneven_profile = record {
  boolean = 11;
  shift = 12;
  normalise = 13;
  add = 14;
  longadd = 15;
  multiply = 16;
  divide = 17;
  population = 18;
  increment = 20;
  load = 19;
  units_boolean = 1;
  units_shift = 2;
  units_add = 3;
  units_longadd = 4;
  units_multiply = 5;
  units_divide = 6;
  units_increment = 7;
  least = (lit≤ tt, lit≤ tt, lit≤ tt, lit≤ tt, lit≤ tt, lit≤ tt, lit≤ tt, lit≤ tt, lit≤ tt, lit≤ tt);
  greatest = (lit≤ tt, lit≤ tt, lit≤ tt, lit≤ tt, lit≤ tt, lit≤ tt, lit≤ tt, lit≤ tt, lit≤ tt, lit≤ tt);
  units = (lit≤ tt, lit≤ tt, lit≤ tt, lit≤ tt, lit≤ tt, lit≤ tt, lit≤ tt);
  few = (lit≤ tt, lit≤ tt, lit≤ tt, lit≤ tt, lit≤ tt, lit≤ tt, lit≤ tt);
}

-- WHAT AN ORDER DOES, one item an instruction, in the order of issue

-- its issue, its start, the latest of its results, and when its unit is free
abbrev pub times_of : List Instr → List ℕ → List (ℕ × ℕ × ℕ × ℕ)
times_of block order =
    map (λ (p : Point). (p.issue, p.start, latest_result p, p.free)) (reverse (points_of (standard_problem block) order))

-- the parcel in which it begins
abbrev pub parcels_in : List Instr → List ℕ → List ℕ
parcels_in block order = parcels_from 0 (map (len_at block) order)

-- the parcels that a NO fills
abbrev pub fillers_in : List Instr → List ℕ → List ℕ
fillers_in block order = fillers 0 (map (len_at block) order)

-- ROWS OF THE TABLE

-- a result that the unit holds
abbrev pub held_write : Reg → ℕ → Write
held_write r latency = record { reg = r; latency = latency; held = true }

-- the X result of a load
abbrev pub loaded_write : Reg → ℕ → Write
loaded_write r latency = record { reg = r; latency = latency; held = false }

abbrev pub table_row : Kind → ℕ → List Reg → List Write → ℕ → Memory → Row
table_row kind parcels reads writes hold memory =
    record { kind = kind; parcels = parcels; reads = reads; writes = writes; hold = hold; memory = memory }

-- THE BLOCKS

-- BX1 X2+X3
abbrev pub one_boolean : List Instr
one_boolean = instr 0o12 1 2 3 ∷ []

-- BX1 X2 / BX3 X4
abbrev pub two_booleans : List Instr
two_booleans = instr 0o10 1 2 0 ∷ instr 0o10 3 4 0 ∷ []

-- SA1 A1+B1 / BX6 X1 / BX7 X2
abbrev pub one_load : List Instr
one_load = instr 0o54 1 1 1 ∷ instr 0o10 6 1 0 ∷ instr 0o10 7 2 0 ∷ []

-- SA6 A6+B1
abbrev pub one_store : List Instr
one_store = instr 0o54 6 6 1 ∷ []

-- UX1 B2,X1: two results
abbrev pub one_unpack : List Instr
one_unpack = instr 0o26 1 2 1 ∷ []

-- FX1 X2*X3 / FX4 X5*X6 / FX0 X7*X7
abbrev pub three_multiplies : List Instr
three_multiplies = instr 0o40 1 2 3 ∷ instr 0o40 4 5 6 ∷ instr 0o40 0 7 7 ∷ []

-- FX1 X2*X3 / BX1 X4: both write X1
abbrev pub first_order : List Instr
first_order = instr 0o40 1 2 3 ∷ instr 0o10 1 4 0 ∷ []

-- FX1 X2/X3 / BX4 X1*X5 / SX5 B1: the second waits for X1, so that the third holds X5, which the second reads
abbrev pub third_order : List Instr
third_order = instr 0o44 1 2 3 ∷ instr 0o11 4 1 5 ∷ instr 0o76 5 1 0 ∷ []

-- FX1 X2/X3 / BX4 X1*X5 / FX5 X6+X7: the same of the Add unit
abbrev pub held_result : List Instr
held_result = instr 0o44 1 2 3 ∷ instr 0o11 4 1 5 ∷ instr 0o30 5 6 7 ∷ []

-- BX7 X2 / LX3 1 / IX4 X5+X6 / SA1 A1+100: the last takes two parcels
abbrev pub packing_gap : List Instr
packing_gap = instr 0o10 7 2 0 ∷ instr 0o20 3 0 0 ∷ instr 0o36 4 5 6 ∷ instr 0o50 1 1 0 ∷ []

-- BX7 X2 / LX3 1 / IX4 X5+X6 / SA1 A1+100 / BX5 X5 / SA2 A2+100
abbrev pub two_gaps : List Instr
two_gaps = instr 0o10 7 2 0 ∷ instr 0o20 3 0 0 ∷ instr 0o36 4 5 6 ∷ instr 0o50 1 1 0 ∷ instr 0o10 5 5 0 ∷ instr 0o50 2 2 0 ∷ []

-- SA6 A6+B1 / SA1 A2+B2: no register is in both
abbrev pub store_then_load : List Instr
store_then_load = instr 0o54 6 6 1 ∷ instr 0o54 1 2 2 ∷ []

-- SA1 A2+B2 / SA6 A6+B1
abbrev pub load_then_store : List Instr
load_then_store = instr 0o54 1 2 2 ∷ instr 0o54 6 6 1 ∷ []

-- SA6 A6+B1 / SA7 A7+B2
abbrev pub two_stores : List Instr
two_stores = instr 0o54 6 6 1 ∷ instr 0o54 7 7 2 ∷ []

-- NX1 B0,X2 / SB0 5 / SX3 B0
abbrev pub zero_register : List Instr
zero_register = instr 0o24 1 0 2 ∷ instr 0o61 0 0 0 ∷ instr 0o76 3 0 0 ∷ []

-- SA1 A1+B1 / SA1 A1+B1
abbrev pub load_twice : List Instr
load_twice = instr 0o54 1 1 1 ∷ instr 0o54 1 1 1 ∷ []

-- UX1 B1,X1 / LX1 B1: the second reads both results of the first, and writes one of them
abbrev pub unpack_then_shift : List Instr
unpack_then_shift = instr 0o26 1 1 1 ∷ instr 0o22 1 1 1 ∷ []

-- CX1 X2 / FX3 X4/X5: the Divide unit counts ones too
abbrev pub one_divide_unit : List Instr
one_divide_unit = instr 0o47 1 0 2 ∷ instr 0o44 3 4 5 ∷ []

-- BX1 X2 / FX1 X3*X4 / BX7 X1 / IX1 X5+X6: the third reads the X1 of the second, and the fourth writes X1 after it
abbrev pub latest_writer : List Instr
latest_writer = instr 0o10 1 2 0 ∷ instr 0o40 1 3 4 ∷ instr 0o10 7 1 0 ∷ instr 0o36 1 5 6 ∷ []

-- FX6 X1*X2 / SA6 A6+B1 / SA2 A2+B2: the store waits for X6, and the load for the store
abbrev pub late_store : List Instr
late_store = instr 0o40 6 1 2 ∷ instr 0o54 6 6 1 ∷ instr 0o54 2 2 2 ∷ []

-- UX3 B1,X4 / SA2 A2+B1 / SA6 A6+B2: the load waits for B1, and the store for the load
abbrev pub late_load : List Instr
late_load = instr 0o26 3 1 4 ∷ instr 0o54 2 2 1 ∷ instr 0o54 6 6 2 ∷ []

-- UX3 B1,X4 / SA2 A2+B1 / SA5 A5+B2: the first load waits for B1, and the second passes it
abbrev pub two_loads : List Instr
two_loads = instr 0o26 3 1 4 ∷ instr 0o54 2 2 1 ∷ instr 0o54 5 5 2 ∷ []

-- FX1 X2/X3 / SA5 X1+B1 / SA4 A4+B2 / SA6 A6+B3: of the two loads the first starts last, and the store waits for both
abbrev pub loads_then_store : List Instr
loads_then_store = instr 0o44 1 2 3 ∷ instr 0o53 5 1 1 ∷ instr 0o54 4 4 2 ∷ instr 0o54 6 6 3 ∷ []

-- FX1 X2/X3 / BX4 X1*X5 / IX6 X5+X7 / SX5 B1: of the two that read X5 the first starts last
abbrev pub two_readers : List Instr
two_readers = instr 0o44 1 2 3 ∷ instr 0o11 4 1 5 ∷ instr 0o36 6 5 7 ∷ instr 0o76 5 1 0 ∷ []

-- FX2 X3/X4 / BX6 X1*X2 / SA1 A1+B1: the load holds X1, which the second reads, and not its unit
abbrev pub held_load : List Instr
held_load = instr 0o44 2 3 4 ∷ instr 0o11 6 1 2 ∷ instr 0o54 1 1 1 ∷ []

-- FX3 X4/X5 / BX6 X3*X1 / NX1 B1,X2: of the two results of the third X1 is held
abbrev pub held_x : List Instr
held_x = instr 0o44 3 4 5 ∷ instr 0o11 6 3 1 ∷ instr 0o24 1 1 2 ∷ []

-- FX3 X4/X5 / SX6 X3+B1 / NX1 B1,X2: of the two results of the third B1 is held
abbrev pub held_b : List Instr
held_b = instr 0o44 3 4 5 ∷ instr 0o73 6 3 1 ∷ instr 0o24 1 1 2 ∷ []

-- SA1 A1+B1 / BX6 X2 / BX7 X3: the load takes as long as both others take their unit
abbrev pub load_and_booleans : List Instr
load_and_booleans = instr 0o54 1 1 1 ∷ instr 0o10 6 2 0 ∷ instr 0o10 7 3 0 ∷ []

-- BX1 X2 / BX3 X4 / SX5 A1+5 / SX6 A2+5: four parcels and a tail of 4 take as long as the two Booleans
abbrev pub booleans_and_sets : List Instr
booleans_and_sets = instr 0o10 1 2 0 ∷ instr 0o10 3 4 0 ∷ instr 0o70 5 1 0 ∷ instr 0o70 6 2 0 ∷ []

-- LX5 1 / LX6 1 / BX1 X2 / BX3 X4
abbrev pub shifts_and_booleans : List Instr
shifts_and_booleans = instr 0o20 5 0 0 ∷ instr 0o20 6 0 0 ∷ instr 0o10 1 2 0 ∷ instr 0o10 3 4 0 ∷ []

-- BX1 X2 / SX3 A1+100: the second takes two parcels
abbrev pub boolean_and_set : List Instr
boolean_and_set = instr 0o10 1 2 0 ∷ instr 0o70 3 1 0 ∷ []

-- FX1 X2/X3 / BX4 X5
abbrev pub divide_and_boolean : List Instr
divide_and_boolean = instr 0o44 1 2 3 ∷ instr 0o10 4 5 0 ∷ []

-- FX1 X2*X3 / BX0 X4 / FX5 X6*X7
abbrev pub boolean_between : List Instr
boolean_between = instr 0o40 1 2 3 ∷ instr 0o10 0 4 0 ∷ instr 0o40 5 6 7 ∷ []

-- BX1 X2 / FX2 X3*X4: the second writes X2, which the first reads
abbrev pub write_behind : List Instr
write_behind = instr 0o10 1 2 0 ∷ instr 0o40 2 3 4 ∷ []

-- SA1 A1+B1 / SB2 A1 / BX6 X1: the second reads the A register of the load, and the third its X register
abbrev pub load_of_both : List Instr
load_of_both = instr 0o54 1 1 1 ∷ instr 0o64 2 1 0 ∷ instr 0o10 6 1 0 ∷ []

-- SA6 A6+B1 / SA1 A6+B2: the load reads the A register of the store
abbrev pub store_and_its_address : List Instr
store_and_its_address = instr 0o54 6 6 1 ∷ instr 0o54 1 6 2 ∷ []

-- SA1 A1+B1 / SA2 A2+B1 / BX7 X2 / BX6 X1
abbrev pub crossed_chains : List Instr
crossed_chains = instr 0o54 1 1 1 ∷ instr 0o54 2 2 1 ∷ instr 0o10 7 2 0 ∷ instr 0o10 6 1 0 ∷ []

-- SA1 A1+B1 / BX6 X1 / BX7 X1
abbrev pub forked_chain : List Instr
forked_chain = instr 0o54 1 1 1 ∷ instr 0o10 6 1 0 ∷ instr 0o10 7 1 0 ∷ []

-- SA1 A1+B1 / SA6 A6+B2 / SB3 A6: the tail of the load is as long as its links to the last and the tail of that
abbrev pub early_end : List Instr
early_end = instr 0o54 1 1 1 ∷ instr 0o54 6 6 2 ∷ instr 0o64 3 6 0 ∷ []

-- FX1 X2/X3 / SX5 B1 / BX4 X1 / FX6 X7+X0: the third waits for X1
abbrev pub late_reader : List Instr
late_reader = instr 0o44 1 2 3 ∷ instr 0o76 5 1 0 ∷ instr 0o10 4 1 0 ∷ instr 0o30 6 7 0 ∷ []

-- SB0 B1 / SB0 B1 / SB0 B1
abbrev pub three_increments : List Instr
three_increments = instr 0o66 0 1 0 ∷ instr 0o66 0 1 0 ∷ instr 0o66 0 1 0 ∷ []

-- SX3 A1+5 / SX5 B1 / LX3 1: the third shifts the X3 of the first, which takes two parcels
abbrev pub late_result : List Instr
late_result = instr 0o70 3 1 0 ∷ instr 0o76 5 1 0 ∷ instr 0o20 3 0 0 ∷ []

-- SA2 A2+5 / SB5 B6 / SA1 A1+5 / SX7 A3+5 / SB1 5: only the second takes one parcel; the gap is before the third, or before the fifth if the second comes after the third
abbrev pub later_gap : List Instr
later_gap = instr 0o50 2 2 0 ∷ instr 0o66 5 6 0 ∷ instr 0o50 1 1 0 ∷ instr 0o70 7 3 0 ∷ instr 0o61 1 0 0 ∷ []

-- WHAT LEAVES A PREFIX HAS

-- its floor, and the floor's value
abbrev pub floor_in : List Instr → List ℕ → Leaf × ℕ
floor_in block prefix = (floor (standard_problem block) prefix, floor_value (standard_problem block) prefix)

-- the chain that is printed, and the greatest value of a chain
abbrev pub chain_in : List Instr → List ℕ → List ℕ × ℕ
chain_in block prefix = (longest_chain (standard_problem block) prefix, chain (standard_problem block) prefix)

-- the load of each kind of unit, as in the list of copies
abbrev pub loads_in : List Instr → List ℕ → List ℕ
loads_in block prefix = map (load (standard_problem block) prefix) all_kinds

-- the link from one number to a later one
abbrev pub link_in : List Instr → ℕ → ℕ → ℕ
link_in block m n = link (row_at (standard_problem block) m) (row_at (standard_problem block) n)

-- the longest tail of each number
abbrev pub tails_in : List Instr → List ℕ
tails_in block = map (longest_tail (standard_problem block)) (numbers block)

-- TREES, ANSWERS AND PIECES

-- the problems of three of the blocks
abbrev pub boolean_problem : Problem
boolean_problem = standard_problem two_booleans

abbrev pub load_problem : Problem
load_problem = standard_problem one_load

abbrev pub multiply_problem : Problem
multiply_problem = standard_problem three_multiplies

-- an answer's order, time, bound, number of splits and tree, which has no dominated leaves
abbrev pub answer : List ℕ → ℕ → ℕ → ℕ → Tree Leaf → Answer
answer order time bound splits tree =
    record { order = order; time = time; bound = bound; splits = splits; tree = tree_bounding tree }

-- both orders of the last two numbers
abbrev pub both_orders : {M : Type 0} → M → ℕ → ℕ → Siblings M
both_orders terminal m n = Split (n ∷ []) (Unsplit terminal NoMore) (Split (m ∷ []) (Unsplit terminal NoMore) NoMore)

-- the tree of three_multiplies that is split down to each order
abbrev pub every_order : {M : Type 0} → M → Tree M
every_order terminal =
    Parted (1 ∷ 2 ∷ 3 ∷ []) (Split (2 ∷ 3 ∷ []) (both_orders terminal 2 3) (Split (1 ∷ 3 ∷ []) (both_orders terminal 1 3) (Split (1 ∷ 2 ∷ []) (both_orders terminal 1 2) NoMore)))

-- the same without the last split: the floor of 3 2 is there
abbrev pub all_but_one : Tree Leaf
all_but_one =
    Parted (1 ∷ 2 ∷ 3 ∷ []) (Split (2 ∷ 3 ∷ []) (both_orders Whole 2 3) (Split (1 ∷ 3 ∷ []) (both_orders Whole 1 3) (Split (1 ∷ 2 ∷ []) (Split (2 ∷ []) (Unsplit Whole NoMore) (Unsplit (Load Multiply) NoMore)) NoMore)))

-- after 1 it omits 3
abbrev pub one_omitted : Tree Leaf
one_omitted =
    Parted (1 ∷ 2 ∷ 3 ∷ []) (Split (2 ∷ []) (Split (3 ∷ []) (Unsplit Whole NoMore) NoMore) (Split (1 ∷ 3 ∷ []) (both_orders Whole 1 3) (Split (1 ∷ 2 ∷ []) (both_orders Whole 1 2) NoMore)))

-- a tree of one_load with three splits: its whole order 1 3 2 takes 12, which is below the floors of 1 2 and of 3
abbrev pub load_tree : Tree Leaf
load_tree =
    Parted (1 ∷ 3 ∷ []) (Split (2 ∷ 3 ∷ []) (Unsplit (Load Boolean) (Split (2 ∷ []) (Unsplit Whole NoMore) NoMore)) (Unsplit (Chain (1 ∷ 2 ∷ [])) NoMore))

-- its tree that is split down to each order: 16, 12 and 13
abbrev pub load_orders : {M : Type 0} → M → Tree M
load_orders terminal =
    Parted (1 ∷ 3 ∷ []) (Split (2 ∷ 3 ∷ []) (both_orders terminal 2 3) (Split (1 ∷ []) (Split (2 ∷ []) (Unsplit terminal NoMore) NoMore) NoMore))

-- load_tree as a piece for the best time 16: below that is the floor of 3, which is the frontier
abbrev pub load_piece : Tree Terminal
load_piece =
    Parted (1 ∷ 3 ∷ []) (Split (2 ∷ 3 ∷ []) (Unsplit (Carries (Load Boolean)) (Split (2 ∷ []) (Unsplit (Carries Whole) NoMore) NoMore)) (Unsplit Frontier NoMore))

-- this many children that aren't split, with the same terminal
abbrev pub children : {M : Type 0} → ℕ → M → Siblings M
children zero terminal = NoMore
children (suc count) terminal = Unsplit terminal (children count terminal)

-- the empty prefix of three_multiplies split, and the same without the child 3
abbrev pub one_split : {M : Type 0} → M → Tree M
one_split terminal = Parted (1 ∷ 2 ∷ 3 ∷ []) (children 3 terminal)

abbrev pub child_omitted : {M : Type 0} → M → Tree M
child_omitted terminal = Parted (1 ∷ 2 ∷ []) (children 2 terminal)

-- TREES WITH DOMINATED LEAVES

-- it holds by either rule under which leaves may be dominated
abbrev pub ByBoth : (Rule → Type 0) → Type 0
ByBoth holds = holds WrittenEarlier × holds ClampedStanding

-- of late_reader: 1 3 2 is dominated by the node of this name, and 1 4 is as given
abbrev pub late_reader_tree : List ℕ → Siblings Ending → Tree Ending
late_reader_tree name fourth =
    Parted (1 ∷ 2 ∷ 4 ∷ [])
    (Split (2 ∷ 3 ∷ 4 ∷ [])
    (Split (3 ∷ 4 ∷ []) (Split (4 ∷ []) (Unsplit (Bounding Whole) NoMore) (Unsplit (Bounding (Chain (3 ∷ []))) NoMore))
    (Split (2 ∷ 4 ∷ []) (Unsplit (Dominated name) (Split (2 ∷ []) (Unsplit (Bounding Whole) NoMore) NoMore)) fourth))
    (children 2 (Bounding (Chain (1 ∷ 3 ∷ [])))))

-- 1 4 has a leaf, or is split, and 1 4 2 is dominated by 1 2 4
abbrev pub fourth_bounding : Siblings Ending
fourth_bounding = Unsplit (Bounding (Chain (3 ∷ []))) NoMore

abbrev pub fourth_split : Siblings Ending
fourth_split = Split (2 ∷ 3 ∷ []) (Unsplit (Dominated (1 ∷ 2 ∷ 4 ∷ [])) (Unsplit (Bounding (Chain (2 ∷ []))) NoMore)) NoMore

-- a leaf: the load of the Increment units
abbrev pub increments_load : Ending
increments_load = Bounding (Load Increment)

-- of three_increments, split at the empty prefix, 1 and 2: these endings at 1 2 and 2 1, and that leaf elsewhere
abbrev pub increments_tree : Ending → Ending → Tree Ending
increments_tree first second =
    Parted (1 ∷ 2 ∷ 3 ∷ []) (Split (2 ∷ 3 ∷ []) (Unsplit first (Unsplit increments_load NoMore)) (Split (1 ∷ 3 ∷ []) (Unsplit second (Unsplit increments_load NoMore)) (Unsplit increments_load NoMore)))

-- the same without the split at 1
abbrev pub first_unsplit : Ending → Tree Ending
first_unsplit second =
    Parted (1 ∷ 2 ∷ 3 ∷ []) (Unsplit increments_load (Split (1 ∷ 3 ∷ []) (Unsplit second (Unsplit increments_load NoMore)) (Unsplit increments_load NoMore)))

-- split at the empty prefix, 1 and 1 2: this ending at 1 2 3, and that leaf elsewhere
abbrev pub order_ending : Ending → Tree Ending
order_ending ending =
    Parted (1 ∷ 2 ∷ 3 ∷ []) (Split (2 ∷ 3 ∷ []) (Split (3 ∷ []) (Unsplit ending NoMore) (Unsplit increments_load NoMore)) (children 2 increments_load))

-- WHAT ORDERS MEAN

-- no instruction has a constant
abbrev pub no_constants : ℕ → List ℕ
no_constants n = []

-- which parts of a dependence n has on m, which comes before it: it reads what m writes, writes what m reads, both write one
-- register, both reference memory and one is a store
abbrev pub parts : Instr → Instr → List Bool
parts m n =
    share (results_of m) (reads_of n) ∷ share (reads_of m) (results_of n) ∷ share (results_of m) (results_of n) ∷ memory_pair (memory_of m) (memory_of n) ∷ []

-- exchanged, the two instructions mean something else
abbrev pub Differs : Instr → Instr → Type 0
Differs a b = meaning (a ∷ b ∷ []) no_constants (2 ∷ 1 ∷ []) ≢ meaning (a ∷ b ∷ []) no_constants (1 ∷ 2 ∷ [])

-- what a register holds at the end of an order, the texts of constants left out
abbrev pub register_at_end : List Instr → List ℕ → Reg → Term
register_at_end block order r = (meaning block no_constants order).registers r

-- and what memory holds
abbrev pub storage_at_end : List Instr → List ℕ → Storage
storage_at_end block order = (meaning block no_constants order).storage

-- operands, in order
abbrev pub terms : List Term → Terms
terms [] = NoTerms
terms (t ∷ ts) = Then t (terms ts)

-- what an instruction makes of its operands, by its octal code
abbrev pub first_result : ℕ → List Term → Term
first_result code operands = Computed code [] (terms operands) 0

abbrev pub second_result : ℕ → List Term → Term
second_result code operands = Computed code [] (terms operands) 1

-- the sum of an A and a B register that hold their initial values, as an instruction of code 54 makes it
abbrev pub a_plus_b : ℕ → ℕ → Term
a_plus_b j k = first_result 0o54 (Initial (a_reg j) ∷ Initial (b_reg k) ∷ [])
