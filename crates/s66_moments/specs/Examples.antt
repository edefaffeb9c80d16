-- Used by examples alone: worked blocks, their COMPASS lines above each, paths through their moments, and lines that show their bounds, under the standard profile.
use Rattle.std.specs.Prelude.{ℕ, Bool, List, [], ◌∷◌, Option}
use Rattle.s66_isa.specs.{Instr, Boolean, Add, Multiply, Increment, instr, x_reg}
use Rattle.s66_model.specs.{Load, Tree, Parted, Siblings, NoMore, Unsplit, Split, standard_problem}
use Rattle.s66_moments.specs.declared.moment.Stage.{Stage}
use Rattle.s66_moments.specs.declared.moment.Stage.TheVariants.{Issue, Start, Done, Free}
use Rattle.s66_moments.specs.declared.moment.Moment.{Moment}
use Rattle.s66_moments.specs.declared.moment.Moment.TheVariants.{Origin, At, End}
use Rattle.s66_moments.specs.Paths.{Hop}
use Rattle.s66_moments.specs.Networks.{Network, network, precedes}
use Rattle.s66_moments.specs.FactLines.{Use, Line, LoadArc}
use Rattle.s66_moments.specs.LineTrees.{LineEnding, AtLeaf}
use Rattle.s66_moments.specs.declared.fact_line.FactLine.{FactLine}
use Rattle.s66_moments.specs.declared.fact_line.FactLine.TheVariants as fact
use Rattle.s66_moments.specs.KnownFacts.{Known, span, known_first, known_after, is_taken, next_value, is_turned, is_loaded, start_at_least, arcs_of as known_arcs}
use Rattle.s66_moments.specs.declared.fact_line.FactStep.{FactStep}
use Rattle.s66_moments.specs.declared.fact_line.FactStep.TheVariants.{Fact, Suppose, Refuted}
use Rattle.s66_moments.specs.Suppositions.{premises_first, premises_after, are_steps_taken, shown_by_all}

-- ARCS

-- the arcs by dependence
abbrev pub arcs_of : List Instr → Network
arcs_of block = network (standard_problem block) (precedes block)

abbrev pub arc_in : List Instr → ℕ → Stage → ℕ → Stage → Option ℕ
arc_in block m e n f = arcs_of block (At m e) (At n f)

abbrev pub hop : ℕ → Moment → Hop
hop wait to = record { wait = wait; to = to }

-- FX1 X2+X3 / FX4 X1+X5: the only Add unit is free one minor cycle after X1 is there
abbrev pub two_adds : List Instr
two_adds = instr 0o30 1 2 3 ∷ instr 0o30 4 1 5 ∷ []

-- from the start of its first to the end
abbrev pub unit_path : List Hop
unit_path =
    hop 4 (At 1 (Done (x_reg 1))) ∷ hop 1 (At 1 Free) ∷ hop 0 (At 2 Issue) ∷ hop 0 (At 2 Start)
    ∷ hop 4 (At 2 (Done (x_reg 4))) ∷ hop 1 (At 2 Free) ∷ hop 0 End ∷ []

-- FX1 X2+X3 / BX4 X1*X5 / FX6 X4+X4: the third depends on the first only by the second
abbrev pub boolean_between_adds : List Instr
boolean_between_adds = instr 0o30 1 2 3 ∷ instr 0o11 4 1 5 ∷ instr 0o30 6 4 4 ∷ []

-- FX1 X2*X3 / FX4 X1*X5: there are two Multiply units
abbrev pub two_multiplies : List Instr
two_multiplies = instr 0o40 1 2 3 ∷ instr 0o40 4 1 5 ∷ []

-- LOAD ARCS

-- BX1 X2*X3 / BX4 X1*X1 / BX5 X1*X1 / FX6 X4+X5: two of one unit between the first, which has it before, and the last
abbrev pub booleans_between : List Instr
booleans_between = instr 0o11 1 2 3 ∷ instr 0o11 4 1 1 ∷ instr 0o11 5 1 1 ∷ instr 0o30 6 4 5 ∷ []

abbrev pub use_of : ℕ → ℕ → Use
use_of number amount = record { number = number; amount = amount }

-- the end comes 16 after the origin, since both are used for 4 between, at least 4 after it
abbrev pub load_line : Line
load_line = LoadArc Boolean Origin End 4 16 (use_of 2 4 ∷ use_of 3 4 ∷ [])

-- the fourth starts 11 after the first
abbrev pub inner_line : Line
inner_line = LoadArc Boolean (At 1 Start) (At 4 Start) 4 11 (use_of 2 4 ∷ use_of 3 4 ∷ [])

-- one of two Multiply units has two of three uses of 11 at least
abbrev pub two_copies_line : Line
two_copies_line = LoadArc Multiply Origin End 0 22 (use_of 1 11 ∷ use_of 2 11 ∷ use_of 3 11 ∷ [])

-- the end comes 12 after the origin, since each use lasts until its unit is free
abbrev pub until_free_line : Line
until_free_line = LoadArc Boolean Origin End 4 12 (use_of 2 4 ∷ use_of 3 4 ∷ [])

-- FX1 X2+X3 / FX4 X2+X5: one Add unit for two that don't depend on each other
abbrev pub two_free_adds : List Instr
two_free_adds = instr 0o30 1 2 3 ∷ instr 0o30 4 2 5 ∷ []

-- after the first, which leaves its unit at 5, what is left of its use from 1 on, and the second
abbrev pub still_line : Line
still_line = LoadArc Add Origin End 1 10 (use_of 1 4 ∷ use_of 2 5 ∷ [])

-- RX1 X2/X3 / BX4 X1 / BX5 X1: both copies issue at once, and start when the quotient is there
abbrev pub two_copies_of_a_quotient : List Instr
two_copies_of_a_quotient = instr 0o45 1 2 3 ∷ instr 0o10 4 1 0 ∷ instr 0o10 5 1 0 ∷ []

-- PAIRS

-- BX2 X4*X3 / IX1 X3+X1 / FX2 X1*X4: 15 minor cycles are left from the issue of either of the first two only if it issues first
abbrev pub first_of_two : List Instr
first_of_two = instr 0o11 2 4 3 ∷ instr 0o36 1 3 1 ∷ instr 0o40 2 1 4 ∷ []

-- BX5 X2*X5 / FX2 X4+X4 / FX5 X1+X4: either sum has to leave the Add unit to the other
abbrev pub two_sums : List Instr
two_sums = instr 0o11 5 2 5 ∷ instr 0o30 2 4 4 ∷ instr 0o30 5 1 4 ∷ []

-- FX1 X2+X3 / FX4 X2+X5 / FX6 X2+X7: one Add unit for three that don't depend on each other
abbrev pub three_free_adds : List Instr
three_free_adds = instr 0o30 1 2 3 ∷ instr 0o30 4 2 5 ∷ instr 0o30 6 2 7 ∷ []

-- IN USE: what follows the first two comes after them in either order

-- BX1 X2 / BX3 X4 / BX5 X1: the third waits for the only Boolean unit, and by then X1 is there
abbrev pub waits_for_the_unit : List Instr
waits_for_the_unit = instr 0o10 1 2 0 ∷ instr 0o10 3 4 0 ∷ instr 0o10 5 1 0 ∷ []

-- BX1 X2 / BX3 X4 / IX5 X1+X6: the third waits for X1
abbrev pub waits_for_x1 : List Instr
waits_for_x1 = instr 0o10 1 2 0 ∷ instr 0o10 3 4 0 ∷ instr 0o36 5 1 6 ∷ []

-- BX1 X2 / BX3 X4 / SX6 B1+5 / IX5 X1+X6: the fourth waits for the two parcels of the third, and by then X1 is there
abbrev pub waits_for_two_parcels : List Instr
waits_for_two_parcels = instr 0o10 1 2 0 ∷ instr 0o10 3 4 0 ∷ instr 0o71 6 1 5 ∷ instr 0o36 5 1 6 ∷ []

-- BX1 X2 / FX3 X4*X5 / BX6 X7: the product is the last result if it comes second, and nothing waits for it
abbrev pub product_and_booleans : List Instr
product_and_booleans = instr 0o10 1 2 0 ∷ instr 0o40 3 4 5 ∷ instr 0o10 6 7 0 ∷ []

-- FACT LINES, as a certificate has them

abbrev pub load_fact : (from to : Moment) → (after wait : ℕ) → List ℕ → FactLine
load_fact from to after wait numbers =
    fact.Load (record { from = from; to = to; after = after; wait = wait; numbers = record { items = numbers } })

-- what is known after these lines
abbrev pub known_of : List Instr → List FactLine → Known
known_of block lines = known_after (known_first (standard_problem block)) lines

abbrev pub span_after : List Instr → List FactLine → Moment → Moment → Option ℕ
span_after block lines = span (standard_problem block) (known_arcs (standard_problem block) (known_of block lines))

-- whether it is taken after these lines, for this bound
abbrev pub is_taken_after : List Instr → ℕ → List FactLine → FactLine → Bool
is_taken_after block bound lines line = is_taken (standard_problem block) bound (known_of block lines) line

abbrev pub next_after : List Instr → List FactLine → List ℕ → ℕ → ℕ
next_after block lines prefix n = next_value (standard_problem block) (known_of block lines) prefix n

abbrev pub is_turned_after : List Instr → List FactLine → List ℕ → ℕ → ℕ → Bool
is_turned_after block lines prefix m n = is_turned (standard_problem block) (known_of block lines) prefix m n

-- whether a load leaf of these numbers, from a minor cycle on, closes a prefix for this bound
abbrev pub is_loaded_after : List Instr → ℕ → List FactLine → (prefix : List ℕ) → (after : ℕ) → List ℕ → Bool
is_loaded_after block bound lines prefix after numbers =
    is_loaded (standard_problem block) (known_of block lines) prefix bound after numbers

abbrev pub start_after : List Instr → List FactLine → List ℕ → ℕ → ℕ
start_after block lines prefix n = start_at_least (standard_problem block) (known_of block lines) prefix n

-- SUPPOSITIONS

abbrev pub are_steps_taken_of : List Instr → ℕ → List FactStep → Bool
are_steps_taken_of block bound steps = are_steps_taken (standard_problem block) bound (premises_first (standard_problem block)) steps

-- what is known after these steps
abbrev pub known_after_steps : List Instr → List FactStep → Known
known_after_steps block steps = (premises_after (premises_first (standard_problem block)) steps).known

-- what they show
abbrev pub lines_shown : List Instr → List FactStep → List Line
lines_shown block steps = shown_by_all (standard_problem block) (premises_first (standard_problem block)) steps

-- of three adds, the second stands before the first: else the third stands before the second, and after the first
abbrev pub second_by_lines : List FactStep
second_by_lines = Suppose 2 1 ∷ Fact (fact.Pair 3 2) ∷ Fact (fact.Pair 1 3) ∷ Refuted ∷ []

-- TREES

-- split once, with two children
abbrev pub split_once : LineEnding → LineEnding → Tree LineEnding
split_once first second = Parted (1 ∷ 2 ∷ []) (Unsplit first (Unsplit second NoMore))

abbrev pub increments_load : LineEnding
increments_load = AtLeaf (Load Increment)

-- two children, the second with that leaf
abbrev pub and_load : LineEnding → Siblings LineEnding
and_load first = Unsplit first (Unsplit increments_load NoMore)

-- split at the empty prefix, 1 and 2: these endings at 1 2 and 2 1, and that leaf elsewhere
abbrev pub increments_tree : LineEnding → LineEnding → Tree LineEnding
increments_tree first second =
    Parted (1 ∷ 2 ∷ 3 ∷ []) (Split (2 ∷ 3 ∷ []) (and_load first) (Split (1 ∷ 3 ∷ []) (and_load second) (Unsplit increments_load NoMore)))
