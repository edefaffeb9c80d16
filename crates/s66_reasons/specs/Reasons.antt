-- To be believed: why no order is faster, in sentences: what is said of a document whose verdict is yes, each number in it one that its lines are checked by.
use Rattle.std.specs.Prelude.{ℕ, ◌+◌, ◌-◌, if◌then◌else◌, ◌&&◌, ◌==◌, Bool, true, false, List, [], ◌∷◌, ◌++◌, codes, decimal, flat_map, length, map, nat_le, filter}
use Rattle.s66_isa.specs.{Kind, every, weigh, numbers, same_kind}
use Rattle.s66_model.specs.{Problem, copies, next, points_of, row_at, total_of, is_remaining, remaining, sum_remaining, Whole, Chain, Load, Parcels, if_last, load, rest_busy, tail, work_of, Tree}
use Rattle.s66_model.specs.{Vertex, AtTerminal, AtSplit, flat, splits, Ending, Bounding, Dominated, Factual, Next, Turned, AtLine, LoadFrom}
use Rattle.s66_moments.specs.{Issue, Origin, At, End, premises_first}
use Rattle.s66_cert.specs.{Document, has_factual, tree_placed}
use Rattle.s66_checker.specs.{problem_of, facts_of}
use Rattle.s66_reasons.specs.declared.tree.TheConstants.{SAID_SPLITS}
use Rattle.s66_reasons.specs.Words.{Reason, counted, each_words, instruction, listed, longest_use, rows_text, unit_name}
use Rattle.s66_reasons.specs.ChainWords.{chain_rows}
use Rattle.s66_reasons.specs.FactWords.{facts_from, load_end, load_sentence, work_of_load}
use Rattle.s66_reasons.specs.LongestPaths.{by_words, hops_of, pairs_of, path_rows}

-- Rows of a leaf are said below its prefix, the numbers that come first; without any nothing of these is said.

-- THE LOAD OF A KIND OF UNIT

-- those that remain whose instructions need it
abbrev pub numbers_of : Problem → List ℕ → Kind → List ℕ
numbers_of b at kind = filter (λ n. is_remaining b.block at n && same_kind (row_at b n).kind kind) (numbers b.block)

-- for how long all of them do
abbrev pub work : Problem → List ℕ → Kind → ℕ
work b at kind = sum_remaining b.block at (λ n. work_of kind (row_at b n))

-- the slot after the prefix
abbrev pub slot_after : Problem → List ℕ → ℕ
slot_after b at = next (points_of b at)

-- for how long units of the kind still work for the prefix from there on
abbrev pub work_before : Problem → List ℕ → Kind → ℕ
work_before b at kind = weigh (rest_busy kind (slot_after b at)) (points_of b at)

abbrev pub sharing_words : (copies : ℕ) → List ℕ
sharing_words copies = if copies == 1 then codes ", one after the other" else codes ", shared by " ++ decimal copies

abbrev pub unit_words : Kind → (copies : ℕ) → List ℕ
unit_words kind copies = unit_name kind ++ codes " unit" ++ (if copies == 1 then [] else codes "s")

abbrev pub no_need_words : (slot : ℕ) → Kind → (copies : ℕ) → List ℕ
no_need_words slot kind copies = (if slot == 0 then codes "no" else codes "no other") ++ codes " instruction needs the " ++ unit_words kind copies

abbrev pub who_needs_words : Document → Kind → (copies : ℕ) → List ℕ → List ℕ
who_needs_words d kind copies ns =
    listed (instruction d) ns ++ (if length ns == 1 then codes " needs the " else codes " need the ") ++ unit_words kind copies

abbrev pub how_long_words : (copies total count most : ℕ) → List ℕ
how_long_words copies total count most = codes " for " ++ each_words count total most ++ codes ": " ++ decimal total ++ sharing_words copies

abbrev pub load_words : Document → (slot : ℕ) → Kind → (copies total most : ℕ) → List ℕ → List ℕ
load_words d slot kind copies total most ns =
    if length ns == 0 then no_need_words slot kind copies
    else who_needs_words d kind copies ns ++ how_long_words copies total (length ns) most

-- what units do for the prefix, and from when on all is counted
abbrev pub before_words : (total before : ℕ) → List ℕ
before_words total before = if before == 0 then [] else codes "; with " ++ decimal before ++ codes " for those before: " ++ decimal (total + before)

abbrev pub slot_words : (slot : ℕ) → List ℕ
slot_words slot = if slot == 0 then [] else codes "; from " ++ decimal slot ++ codes " on"

abbrev pub after_words : (total before slot : ℕ) → List ℕ
after_words total before slot = before_words total before ++ slot_words slot

abbrev pub load_row : Document → List ℕ → Kind → Reason
load_row d at kind =
    let b : Problem = problem_of d in
    let ns : List ℕ = numbers_of b at kind in
    let slot : ℕ = slot_after b at in
    record {
      number = load b at kind;
      words = load_words d slot kind (copies b kind) (work b at kind) (longest_use b ns) ns ++ after_words (work b at kind) (work_before b at kind) slot;
    }

-- THE PARCELS: one of the instructions issues last, whichever it is

-- its slot is after the parcels of all others
abbrev pub last_slot : Problem → List ℕ → ℕ → ℕ
last_slot b at n = slot_after b at + (sum_remaining b.block at (λ m. (row_at b m).parcels) - (row_at b n).parcels)

abbrev pub if_last_words : Document → (n slot time : ℕ) → List ℕ
if_last_words d n slot time =
    codes "if " ++ instruction d n ++ codes " issues last: at " ++ decimal slot ++ codes " or later, and " ++ decimal time ++ codes " to the end"

abbrev pub last_row : Document → List ℕ → ℕ → Reason
last_row d at n =
    record { number = if_last (problem_of d) at n; words = if_last_words d n (last_slot (problem_of d) at n) (tail (row_at (problem_of d) n)) }

-- A WHOLE ORDER

abbrev pub whole_row : Document → List ℕ → Reason
whole_row d at = record { number = total_of (problem_of d) at; words = codes "all are placed, and that is the end" }

-- BY FACTS: what the leaf says takes the bound by what is known after the fact lines

-- the orders that rows by facts are said of: fact lines hold of these. The last row says that they take the bound or more, so there are none
abbrev pub faster_words : (bound : ℕ) → List ℕ
faster_words bound = codes "If an order took less than " ++ decimal bound ++ codes ":\n"

abbrev pub issue_row : Document → ℕ → Reason
issue_row d n = record { number = 0; words = instruction d n ++ codes " can issue" }

-- where a longest path begins, and its arcs: the last leads to the end
abbrev pub next_rows : Document → ℕ → List Reason
next_rows d n = issue_row d n ∷ path_rows d 0 (At n Issue) (hops_of d n)

-- what its sentence says in all
abbrev pub left_row : Document → ℕ → List ℕ → Reason
left_row d after ns =
    let b : Problem = problem_of d in
    record { number = load_end (work_of_load b ns) after d.bound (length ns); words = load_sentence b Origin End after d.bound ns }

-- the first is known to stand before the second, which is placed: so this is no faster order
abbrev pub turned_text : Document → (first second : ℕ) → List ℕ
turned_text d m n =
    codes "      " ++ instruction d m ++ codes " stands before " ++ (instruction d n ++ codes " in a faster order")
    ++ by_words (pairs_of d m n) ++ codes "\n"

-- A LEAF

abbrev pub leaf_rows : Document → List ℕ → Ending → List Reason
leaf_rows d at (Bounding Whole) = whole_row d at ∷ []
leaf_rows d at (Bounding (Chain ns)) = chain_rows d at ns
leaf_rows d at (Bounding (Load kind)) = load_row d at kind ∷ []
leaf_rows d at (Bounding Parcels) = map (last_row d at) (remaining (problem_of d).block at)
leaf_rows d at (Dominated name) = []
leaf_rows d at (Factual (Next n)) = next_rows d n
leaf_rows d at (Factual (Turned first second)) = []
leaf_rows d at (Factual (AtLine line)) = []
leaf_rows d at (Factual (LoadFrom after ns)) = left_row d after ns ∷ []

-- its rows, or without a number why it is turned
abbrev pub leaf_text : Document → List ℕ → Ending → List ℕ
leaf_text d at (Bounding leaf) = rows_text (leaf_rows d at (Bounding leaf))
leaf_text d at (Dominated name) = []
leaf_text d at (Factual (Next n)) = rows_text (leaf_rows d at (Factual (Next n)))
leaf_text d at (Factual (Turned first second)) = turned_text d first second
leaf_text d at (Factual (AtLine line)) = []
leaf_text d at (Factual (LoadFrom after ns)) = rows_text (leaf_rows d at (Factual (LoadFrom after ns)))

-- A TREE

-- the orders that begin so
abbrev pub then_words : List ℕ → List ℕ
then_words [] = codes ":\n"
then_words (n ∷ ns) = codes ", then " ++ decimal n ++ then_words ns

abbrev pub if_words : List ℕ → List ℕ
if_words [] = []
if_words (n ∷ ns) = codes "If " ++ decimal n ++ codes " comes first" ++ then_words ns

-- a line at its prefix: of a leaf a paragraph
abbrev pub tree_line_text : Document → List ℕ → Vertex Ending → List ℕ
tree_line_text d at (AtSplit numbers) = []
tree_line_text d at (AtTerminal ending) = if_words at ++ leaf_text d at ending

-- the lines one after the other
abbrev pub lines_text : Document → List (List ℕ × Vertex Ending) → List ℕ
lines_text d lines = flat_map (λ (line : List ℕ × Vertex Ending). tree_line_text d line.0 line.1) lines

-- a leaf that names another node isn't said, nor one by a longest path that isn't alone
abbrev pub is_line_said : (splits : ℕ) → Vertex Ending → Bool
is_line_said splits (AtSplit numbers) = true
is_line_said splits (AtTerminal (Bounding leaf)) = true
is_line_said splits (AtTerminal (Dominated name)) = false
is_line_said splits (AtTerminal (Factual (Next number))) = splits == 0
is_line_said splits (AtTerminal (Factual (Turned first second))) = true
is_line_said splits (AtTerminal (Factual (AtLine line))) = false
is_line_said splits (AtTerminal (Factual (LoadFrom after numbers))) = true

-- a tree of few splits is said leaf by leaf, if each can be said
abbrev pub is_said : Tree Ending → Bool
is_said tree = nat_le (splits tree) SAID_SPLITS && every (is_line_said (splits tree)) (flat tree)

-- WHAT IS SAID

-- up to the bound
abbrev pub opening_words : Document → List ℕ
opening_words d = codes "Every order takes " ++ decimal d.bound ++ codes " or more"

-- how many splits its tree has
abbrev pub splits_words : (count : ℕ) → List ℕ
splits_words count = codes ", by " ++ counted count (codes "split")

-- and how many fact lines
abbrev pub and_facts : ℕ → List ℕ
and_facts count = if count == 0 then [] else codes " and " ++ counted count (codes "fact")

abbrev pub counts_text : Document → List ℕ
counts_text d = splits_words (splits d.tree) ++ and_facts (length (facts_of d)) ++ codes ".\n"

-- the splits, if there are some
abbrev pub colon : (count : ℕ) → List ℕ
colon count = (if count == 0 then [] else splits_words count) ++ codes ":\n"

-- leaves by facts are said after them
abbrev pub fact_reasons_text : Document → List ℕ
fact_reasons_text d =
    if has_factual d.tree then facts_from d (premises_first (problem_of d)) 1 (facts_of d) ++ faster_words d.bound else []

abbrev pub leaves_text : Document → List ℕ
leaves_text d = fact_reasons_text d ++ lines_text d (tree_placed [] d.tree)

-- a tree that isn't said is counted
abbrev pub tree_text : Document → List ℕ
tree_text d = if is_said d.tree then colon (splits d.tree) ++ leaves_text d else counts_text d

abbrev pub closing_line : (time bound : ℕ) → List ℕ
closing_line time bound =
    if time == bound then codes "So the order of " ++ decimal time ++ codes " is best.\n"
    else codes "The order found takes " ++ decimal time ++ codes ".\n"

abbrev pub reasons_text : Document → List ℕ
reasons_text d = opening_words d ++ tree_text d ++ closing_line d.time d.bound
