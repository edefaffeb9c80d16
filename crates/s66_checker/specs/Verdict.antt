-- To be believed: the verdict on a document: yes, or its first fault.
use Rattle.std.specs.Prelude.{ℕ, suc, ◌+◌, ◌-◌, ◌==◌, ◌&&◌, if◌then◌else◌, Bool, true, false, not, List, [], ◌∷◌, Option, None, Some, length, map, nat_le, nat_lt, slice_get, unwrap_or, is_some}
use Rattle.std.specs.Prelude.{bytes_eq}
use Rattle.s66_isa.specs.{Instr, profile_of}
use Rattle.s66_model.specs.{Rule, NoneNamed, WrittenEarlier, ClampedStanding, Problem, total_of, is_remaining, ready, Leaf, Whole, Chain, Load, Parcels, value, is_linked, Vertex, AtTerminal, AtSplit}
use Rattle.s66_model.specs.{node_named, Ending, Bounding, Dominated, Factual, is_standing, may_be_named, Next, Turned, AtLine, LoadFrom}
use Rattle.s66_moments.specs.{FactStep, Known, next_value, is_turned, is_loaded, Premises, begins_supposition, premises_first, with_step, premises_after, is_step_taken}
use Rattle.s66_line.specs.{instr_in_text}
use Rattle.s66_cert.specs.{Document, tree_placed}
use Rattle.s66_checker.specs.declared.verdict.Verdict.{Verdict}
use Rattle.s66_checker.specs.declared.verdict.Verdict.TheVariants.{Yes, No}
use Rattle.s66_checker.specs.declared.verdict.Reason.{Reason}
use Rattle.s66_checker.specs.declared.verdict.Reason.TheVariants as fault
use Rattle.s66_checker.specs.Dominating.{is_beginning, is_same_set, is_earlier, dominates_by, dominates_in_use}

-- ITS BLOCK, under its own profile

-- the instructions that the document's texts spell, under its profile
abbrev pub problem_of : Document → Problem
problem_of d = record { block = map instr_in_text d.block; profile = profile_of d.profile }

-- ITS ORDER

-- each number is ready when it is placed, and there are as many as instructions
abbrev pub is_legal_order : List Instr → List ℕ → Bool
is_legal_order block order = is_beginning block order && length order == length block

-- ITS FACT LINES, which a document of version 4 may have, and in version 5 with suppositions

abbrev pub facts_of : Document → List FactStep
facts_of d = unwrap_or d.facts []

-- what is known after all of them, and the supposition that is open
abbrev pub premises_of : Document → Premises
premises_of d = premises_after (premises_first (problem_of d)) (facts_of d)

abbrev pub known_of : Document → Known
known_of d = (premises_of d).known

-- THE NUMBERS OF ITS LINES, from 1: a header, PROFILE, BLOCK, the instructions, TIME, BOUND, ORDER, the fact lines, and then the tree

abbrev pub time_line_number : Document → ℕ
time_line_number d = 4 + length d.block

abbrev pub bound_line_number : Document → ℕ
bound_line_number d = 5 + length d.block

abbrev pub order_line_number : Document → ℕ
order_line_number d = 6 + length d.block

abbrev pub fact_line_number : Document → ℕ
fact_line_number d = 7 + length d.block

abbrev pub tree_line_number : Document → ℕ
tree_line_number d = 7 + length d.block + length (facts_of d)

-- THE LINES OF ITS TREE

-- the one of this number in the document, if it is one of the tree
abbrev pub node_on : Document → ℕ → Option (List ℕ × Vertex Ending)
node_on d line = if nat_lt line (tree_line_number d) then None else slice_get (tree_placed [] d.tree) (line - tree_line_number d)

-- FAULTS OF A LEAF

abbrev pub is_complete : Problem → List ℕ → Bool
is_complete b prefix = length prefix == length b.block

-- `T` if the prefix is complete, and any other leaf if it isn't
abbrev pub is_at_its_place : Problem → List ℕ → Leaf → Bool
is_at_its_place b prefix Whole = is_complete b prefix
is_at_its_place b prefix (Chain numbers) = not (is_complete b prefix)
is_at_its_place b prefix (Load kind) = not (is_complete b prefix)
is_at_its_place b prefix Parcels = not (is_complete b prefix)

-- numbers that remain, with a link between neighbours
abbrev pub is_walk : Problem → List ℕ → ℕ → List ℕ → Bool
is_walk b prefix n [] = is_remaining b.block prefix n
is_walk b prefix n (m ∷ ms) = is_remaining b.block prefix n && is_linked b n m && is_walk b prefix m ms

-- a chain is one
abbrev pub has_links : Problem → List ℕ → Leaf → Bool
has_links b prefix Whole = true
has_links b prefix (Chain []) = false
has_links b prefix (Chain (n ∷ ns)) = is_walk b prefix n ns
has_links b prefix (Load kind) = true
has_links b prefix Parcels = true

abbrev pub leaf_fault : Problem → ℕ → List ℕ → Leaf → Option Reason
leaf_fault b bound prefix leaf =
    if not (is_at_its_place b prefix leaf) then Some fault.Place
    else (if not (has_links b prefix leaf) then Some fault.Chain
    else (if nat_lt (value b prefix leaf) bound then Some fault.Value
    else None))

-- FAULTS OF A DOMINATED LEAF

-- if the rule wants an earlier one
abbrev pub is_early_enough : Rule → List ℕ → List ℕ → Bool
is_early_enough NoneNamed name at = true
is_early_enough WrittenEarlier name at = is_earlier name at
is_early_enough ClampedStanding name at = true

-- that of a node that the rule lets be named, and a beginning over the same set
abbrev pub is_name : Document → List ℕ → List ℕ → Bool
is_name d at name =
    may_be_named d.rule (node_named [] d.tree name)
    && is_early_enough d.rule name at
    && is_beginning (problem_of d).block name
    && is_same_set name at

abbrev pub dominated_fault : Document → List ℕ → List ℕ → Option Reason
dominated_fault d at name =
    if is_complete (problem_of d) at then Some fault.Place
    else (if not (is_name d at name) then Some fault.Name
    else (if not (dominates_by d.rule (problem_of d) name at) then Some fault.Dominance
    else None))

-- if it names a line: the node there is no dominated leaf, and its prefix a beginning over the same set
abbrev pub is_name_at : Document → List ℕ → Option (List ℕ × Vertex Ending) → Bool
is_name_at d at None = false
is_name_at d at (Some node) = is_standing (Some node.1) && is_beginning (problem_of d).block node.0 && is_same_set node.0 at

abbrev pub name_of : Option (List ℕ × Vertex Ending) → List ℕ
name_of None = []
name_of (Some node) = node.0

abbrev pub at_line_fault : Document → List ℕ → ℕ → Option Reason
at_line_fault d at line =
    if is_complete (problem_of d) at then Some fault.Place
    else (if not (is_name_at d at (node_on d line)) then Some fault.Name
    else (if not (dominates_in_use (problem_of d) d.bound (known_of d) (name_of (node_on d line)) at) then Some fault.Dominance
    else None))

-- FAULTS OF A LEAF BY FACTS, all that is known after the last fact line

-- n remains, and takes the bound at least if it comes next
abbrev pub next_fault : Document → List ℕ → ℕ → Option Reason
next_fault d at n =
    if is_complete (problem_of d) at then Some fault.Place
    else (if not (is_remaining (problem_of d).block at n && nat_le d.bound (next_value (problem_of d) (known_of d) at n)) then Some fault.Event
    else None)

abbrev pub turned_fault : Document → List ℕ → ℕ → ℕ → Option Reason
turned_fault d at m n =
    if is_complete (problem_of d) at then Some fault.Place
    else (if not (is_turned (problem_of d) (known_of d) at m n) then Some fault.Pair
    else None)

-- these numbers remain, and what they need of the units of their kind, from `after` on, takes the bound at least
abbrev pub load_from_fault : Document → List ℕ → ℕ → List ℕ → Option Reason
load_from_fault d at after numbers =
    if is_complete (problem_of d) at then Some fault.Place
    else (if not (is_loaded (problem_of d) (known_of d) at d.bound after numbers) then Some fault.Loaded
    else None)

-- FAULTS OF A LINE

-- a split's children are exactly the ready numbers, rising
abbrev pub line_fault : Document → List ℕ → Vertex Ending → Option Reason
line_fault d at (AtSplit numbers) = if bytes_eq numbers (ready (problem_of d).block at) then None else Some fault.Children
line_fault d at (AtTerminal (Bounding leaf)) = leaf_fault (problem_of d) d.bound at leaf
line_fault d at (AtTerminal (Dominated name)) = dominated_fault d at name
line_fault d at (AtTerminal (Factual (Next number))) = next_fault d at number
line_fault d at (AtTerminal (Factual (Turned first second))) = turned_fault d at first second
line_fault d at (AtTerminal (Factual (AtLine line))) = at_line_fault d at line
line_fault d at (AtTerminal (Factual (LoadFrom after numbers))) = load_from_fault d at after numbers

-- THE VERDICT, with the number of the line

abbrev pub unless : ℕ → Option Reason → Verdict → Verdict
unless line None later = later
unless line (Some reason) later = No line reason

-- of these lines of the tree, the first of which has this number
abbrev pub lines_verdict : Document → ℕ → List (List ℕ × Vertex Ending) → Verdict
lines_verdict d line [] = Yes d.time d.bound
lines_verdict d line (at ∷ later) = unless line (line_fault d at.0 at.1) (lines_verdict d (suc line) later)

-- the line on which the last supposition began, if this line has this step
abbrev pub begun_by : (line begun : ℕ) → FactStep → ℕ
begun_by line begun step = if begins_supposition step then line else begun

-- of these fact lines, by what is known before them, and then of what comes later; a supposition that doesn't end is a fault where it began
abbrev pub facts_verdict : Document → (line begun : ℕ) → Premises → List FactStep → Verdict → Verdict
facts_verdict d line begun premises [] later = if is_some premises.supposed then No begun fault.Fact else later
facts_verdict d line begun premises (step ∷ steps) later =
    if is_step_taken (problem_of d) d.bound premises step then facts_verdict d (suc line) (begun_by line begun step) (with_step premises step) steps later
    else No line fault.Fact

-- the fact lines one by one, and then the tree line by line
abbrev pub proof_verdict : Document → Verdict
proof_verdict d =
    facts_verdict d (fact_line_number d) 0 (premises_first (problem_of d)) (facts_of d)
    (lines_verdict d (tree_line_number d) (tree_placed [] d.tree))

-- first the order, the time and the bound, and then what shows it; the fact lines one by one, each by what is known before it, and then
-- the tree line by line
abbrev pub verdict : Document → Verdict
verdict d =
    if not (is_legal_order (problem_of d).block d.numbers) then No (order_line_number d) fault.Order
    else (if not (total_of (problem_of d) d.numbers == d.time) then No (time_line_number d) fault.Time
    else (if nat_lt d.time d.bound then No (bound_line_number d) fault.Bound
    else proof_verdict d))
