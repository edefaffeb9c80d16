-- Used by examples alone: worked documents with a part changed.
use Rattle.std.specs.Prelude.{ℕ, List, [], ◌∷◌, Some, None, map, codes}
use Rattle.s66_isa.specs.{Instr, Boolean, profile_of, instr}
use Rattle.s66_model.specs.{Problem, Rule, ClampedStanding, Leaf, Whole, Chain, Load, Parcels, Tree, Alone, Parted, Siblings, NoMore, Unsplit, Split, Ending, Bounding, Dominated, Factual, FactLeaf}
use Rattle.s66_model.specs.{Next, Turned, AtLine, LoadFrom, late_reader_tree, increments_tree, increments_load}
use Rattle.s66_moments.specs.{Issue, At, End, FactLine, Pair, FactStep, load_fact}
use Rattle.s66_moments.specs.declared.fact_line.FactStep.TheVariants.{Fact}
use Rattle.s66_cert.specs.{Document, standard_numbers, one_load, three_multiplies, after_one, late_reader}

-- ONE LOAD WITH MORE THAN ONE FAULT

abbrev pub refused_order : Document
refused_order = record one_load { numbers = 2 ∷ 1 ∷ 3 ∷ []; time = 99 }

-- UNDER ANOTHER PROFILE: a Boolean takes a minor cycle more, and there are three multiply units

abbrev pub slow_booleans : List ℕ
slow_booleans = 4 ∷ 3 ∷ 4 ∷ 4 ∷ 3 ∷ 10 ∷ 29 ∷ 8 ∷ 3 ∷ 8 ∷ 1 ∷ 1 ∷ 1 ∷ 1 ∷ 2 ∷ 1 ∷ 2 ∷ []

abbrev pub slow_one_load : ℕ → Document
slow_one_load time = record one_load { profile = slow_booleans; time = time }

abbrev pub three_units : List ℕ
three_units = 3 ∷ 3 ∷ 4 ∷ 4 ∷ 3 ∷ 10 ∷ 29 ∷ 8 ∷ 3 ∷ 8 ∷ 1 ∷ 1 ∷ 1 ∷ 1 ∷ 3 ∷ 1 ∷ 2 ∷ []

abbrev pub multiplies_at_once : ℕ → Document
multiplies_at_once bound = record three_multiplies { profile = three_units; time = 13; bound = bound; tree = Alone (Bounding Parcels) }

-- SA1 A1+B1 / FX4 X5*X6 / FX0 X7*X7 / FX1 X2*X3 under it
abbrev pub load_and_multiplies : Problem
load_and_multiplies = record {
  block = instr 0o54 1 1 1 ∷ instr 0o40 4 5 6 ∷ instr 0o40 0 7 7 ∷ instr 0o40 1 2 3 ∷ [];
  profile = profile_of three_units;
}

-- THREE MULTIPLIES WITH ANOTHER TREE, the first line of which is line 10

abbrev pub multiplies_split : List ℕ → Siblings Ending → Document
multiplies_split numbers siblings = record three_multiplies { tree = Parted numbers siblings }

-- what comes after 1
abbrev pub second_line : (Siblings Ending → Siblings Ending) → Document
second_line sibling = multiplies_split (1 ∷ 2 ∷ 3 ∷ []) (sibling (after_one 1 3 (after_one 1 2 NoMore)))

-- what comes after 1 and 2
abbrev pub third_line : (Siblings Ending → Siblings Ending) → Document
third_line sibling = second_line (Split (2 ∷ 3 ∷ []) (sibling (Split (2 ∷ []) (Unsplit (Bounding Whole) NoMore) NoMore)))

-- what comes after 3, 2 and 1
abbrev pub last_leaf : Leaf → Document
last_leaf leaf =
    multiplies_split (1 ∷ 2 ∷ 3 ∷ []) (after_one 2 3 (after_one 1 3 (Split (1 ∷ 2 ∷ []) (Split (2 ∷ []) (Unsplit (Bounding Whole) NoMore) (Split (1 ∷ []) (Unsplit (Bounding leaf) NoMore) NoMore)) NoMore)))

-- LATE READER WITH ANOTHER TREE, the first line of which is line 11

-- 1 3 2 names this node, and 1 4 is as given
abbrev pub late_naming : Rule → List ℕ → Siblings Ending → Document
late_naming rule name fourth = record (late_reader rule) { tree = late_reader_tree name fourth }

abbrev pub third_bounding : Siblings Ending → Siblings Ending
third_bounding siblings = Unsplit (Bounding (Chain (3 ∷ []))) siblings

-- 1 2 3 4 names itself
abbrev pub late_order : Rule → Document
late_order rule = record (late_reader rule) {
  tree =
      Parted (1 ∷ 2 ∷ 4 ∷ [])
      (Split (2 ∷ 3 ∷ 4 ∷ [])
      (Split (3 ∷ 4 ∷ []) (Split (4 ∷ []) (Unsplit (Dominated (1 ∷ 2 ∷ 3 ∷ 4 ∷ [])) NoMore) (third_bounding NoMore)) (third_bounding (third_bounding NoMore)))
      (third_bounding (third_bounding NoMore)));
}

-- 1 3 2 names 2 3 1, which is a node after it: but 3 can't go before 1
abbrev pub late_misplaced : Rule → Document
late_misplaced rule = record (late_reader rule) {
  tree =
      Parted (1 ∷ 2 ∷ 4 ∷ [])
      (Split (2 ∷ 3 ∷ 4 ∷ [])
      (third_bounding (Split (2 ∷ 4 ∷ []) (Unsplit (Dominated (2 ∷ 3 ∷ 1 ∷ [])) (Unsplit (Bounding (Chain (2 ∷ []))) NoMore)) (third_bounding NoMore)))
      (Split (3 ∷ []) (Split (1 ∷ []) (Unsplit (Bounding Parcels) NoMore) NoMore) (third_bounding NoMore)));
}

-- INCREMENTS, all alike, so that each beginning dominates all of its set

abbrev pub increments : Rule → Tree Ending → Document
increments rule tree = record {
  rule = rule;
  facts = None;
  profile = standard_numbers;
  block = codes "SB0 B1" ∷ codes "SB0 B1" ∷ codes "SB0 B1" ∷ [];
  time = 8;
  bound = 7;
  numbers = 1 ∷ 2 ∷ 3 ∷ [];
  tree = tree;
}

-- of four: 1 3 2 names 1 2 3, and 2 1 3 names 1 3 2
abbrev pub four_increments : Rule → Document
four_increments rule = record {
  rule = rule;
  facts = None;
  profile = standard_numbers;
  block = codes "SB0 B1" ∷ codes "SB0 B1" ∷ codes "SB0 B1" ∷ codes "SB0 B1" ∷ [];
  time = 9;
  bound = 9;
  numbers = 1 ∷ 2 ∷ 3 ∷ 4 ∷ [];
  tree =
      Parted (1 ∷ 2 ∷ 3 ∷ 4 ∷ [])
      (Split (2 ∷ 3 ∷ 4 ∷ [])
      (Split (3 ∷ 4 ∷ []) (Unsplit increments_load (Unsplit increments_load NoMore)) (Split (2 ∷ 4 ∷ []) (Unsplit (Dominated (1 ∷ 2 ∷ 3 ∷ [])) (Unsplit increments_load NoMore)) (Unsplit increments_load NoMore)))
      (Split (1 ∷ 3 ∷ 4 ∷ [])
      (Split (3 ∷ 4 ∷ []) (Unsplit (Dominated (1 ∷ 3 ∷ 2 ∷ [])) (Unsplit increments_load NoMore)) (Unsplit increments_load (Unsplit increments_load NoMore)))
      (Unsplit increments_load (Unsplit increments_load NoMore))));
}

-- WITH FACT LINES, which follow line 6 and a line for each instruction

-- of this block, by an order that takes this time
abbrev pub with_steps : List (List ℕ) → List ℕ → ℕ → ℕ → List FactStep → Tree Ending → Document
with_steps block numbers time bound steps tree = record {
  rule = ClampedStanding;
  facts = Some steps;
  profile = standard_numbers;
  block = block;
  time = time;
  bound = bound;
  numbers = numbers;
  tree = tree;
}

-- with nothing supposed
abbrev pub with_facts : List (List ℕ) → List ℕ → ℕ → ℕ → List FactLine → Tree Ending → Document
with_facts block numbers time bound facts tree = with_steps block numbers time bound (map Fact facts) tree

-- one Add unit for all three
abbrev pub three_sums : List FactLine → Tree Ending → Document
three_sums facts tree =
    with_facts (codes "FX2 X3+X3" ∷ codes "FX5 X2+X2" ∷ codes "FX4 X3+X1" ∷ []) (1 ∷ 2 ∷ 3 ∷ []) 15 15 facts tree

-- the slower of its two orders
abbrev pub two_sums : ℕ → Document
two_sums bound =
    with_facts (codes "BX5 X2*X5" ∷ codes "FX2 X4+X4" ∷ codes "FX5 X1+X4" ∷ []) (1 ∷ 3 ∷ 2 ∷ []) 13 bound (Pair 3 2 ∷ []) (Alone (Factual (Next 1)))

-- what comes after 1, and after 2
abbrev pub first_of_two : List FactLine → Siblings Ending → Document
first_of_two facts siblings =
    with_facts (codes "BX2 X4*X3" ∷ codes "IX1 X3+X1" ∷ codes "FX2 X1*X4" ∷ []) (1 ∷ 2 ∷ 3 ∷ []) 15 15 facts (Parted (1 ∷ 2 ∷ []) siblings)

-- after the line that the first stands before the second
abbrev pub after_pair : FactLeaf → FactLeaf → Document
after_pair first second = first_of_two (Pair 1 2 ∷ []) (Unsplit (Factual first) (Unsplit (Factual second) NoMore))

-- at 1 2 3
abbrev pub at_the_end : Ending → Document
at_the_end ending =
    first_of_two (Pair 1 2 ∷ []) (Split (2 ∷ []) (Split (3 ∷ []) (Unsplit ending NoMore) NoMore) (Unsplit (Factual (Turned 1 2)) NoMore))

-- two Booleans between the first and the last, which begin so much after the issue of the first
abbrev pub booleans_between : ℕ → ℕ → Document
booleans_between after wait =
    with_facts (codes "BX1 X2*X3" ∷ codes "BX4 X1*X1" ∷ codes "BX5 X1*X1" ∷ codes "FX6 X4+X5" ∷ []) (1 ∷ 2 ∷ 3 ∷ 4 ∷ []) 16 16
    (load_fact (At 1 Issue) End after wait (2 ∷ 3 ∷ []) ∷ []) (Alone (Factual (Next 1)))

-- one Add unit for three that don't depend on each other, and the second is known to stand before the first
abbrev pub three_adds : List FactStep → Document
three_adds steps =
    with_steps (codes "FX1 X2+X3" ∷ codes "FX4 X2+X5" ∷ codes "FX6 X2+X7" ∷ []) (1 ∷ 2 ∷ 3 ∷ []) 15 15 steps
    (Parted (1 ∷ 2 ∷ 3 ∷ [])
    (Unsplit (Factual (Turned 2 1)) (Unsplit (Factual (LoadFrom 5 (1 ∷ 3 ∷ []))) (Unsplit (Factual (LoadFrom 5 (1 ∷ 2 ∷ []))) NoMore))))

-- after 1 units do all that these numbers need of them, from a minor cycle on at the soonest
abbrev pub after_the_first : List (List ℕ) → ℕ → ℕ → ℕ → List ℕ → Document
after_the_first block time bound after numbers =
    with_facts block (1 ∷ 2 ∷ 3 ∷ 4 ∷ []) time bound [] (Parted (1 ∷ []) (Unsplit (Factual (LoadFrom after numbers)) NoMore))

-- 2 and 3 need the only Boolean unit and X1, which are theirs from 4 on, and 8 are left from the issue of either
abbrev pub booleans_left : ℕ → ℕ → List ℕ → Document
booleans_left bound after numbers =
    after_the_first (codes "BX1 X2*X3" ∷ codes "BX4 X1*X1" ∷ codes "BX5 X1*X1" ∷ codes "FX6 X4+X5" ∷ []) 16 bound after numbers

-- nothing waits for 2
abbrev pub one_is_added : ℕ → Document
one_is_added bound =
    after_the_first (codes "BX1 X2*X3" ∷ codes "BX4 X1*X1" ∷ codes "BX5 X1*X1" ∷ codes "FX6 X5+X5" ∷ []) 16 bound 4 (2 ∷ 3 ∷ [])

-- 2 and 3 may issue at 1, and X1 is there at 10
abbrev pub waits_for_the_product : Document
waits_for_the_product =
    after_the_first (codes "FX1 X2*X3" ∷ codes "BX4 X1*X1" ∷ codes "BX5 X1*X1" ∷ codes "FX6 X4+X5" ∷ []) 22 22 10 (2 ∷ 3 ∷ [])

-- 12 are left from the issue of 1 and of 2, since a product is written later over what each reads
abbrev pub before_their_writers : Document
before_their_writers =
    with_facts (codes "BX1 X2" ∷ codes "BX3 X4" ∷ codes "FX2 X5*X6" ∷ codes "FX4 X5*X6" ∷ []) (1 ∷ 3 ∷ 2 ∷ 4 ∷ []) 16 16 []
    (Alone (Factual (LoadFrom 0 (1 ∷ 2 ∷ []))))

-- two Multiply units for three, each for 11; the leaf has these numbers
abbrev pub multiplies_left : ℕ → List ℕ → Document
multiplies_left bound numbers =
    with_facts (codes "FX1 X2*X3" ∷ codes "FX4 X5*X6" ∷ codes "FX0 X7*X7" ∷ []) (1 ∷ 2 ∷ 3 ∷ []) 22 bound [] (Alone (Factual (LoadFrom 0 numbers)))

-- 1 3 2 names 1 2 3, on line 14, where the Add unit does all from 11 on
abbrev pub booleans_named : Document
booleans_named =
    with_facts (codes "BX1 X2*X3" ∷ codes "BX4 X1*X1" ∷ codes "BX5 X1*X1" ∷ codes "FX6 X4+X5" ∷ []) (1 ∷ 2 ∷ 3 ∷ 4 ∷ []) 16 16 []
    (Parted (1 ∷ [])
    (Split (2 ∷ 3 ∷ [])
    (Split (3 ∷ []) (Unsplit (Factual (LoadFrom 11 (4 ∷ []))) NoMore) (Split (2 ∷ []) (Unsplit (Factual (AtLine 14)) NoMore) NoMore))
    NoMore))

-- 1 2, on line 12, and 2 1, on line 15
abbrev pub increments_named : Ending → Ending → Document
increments_named first second =
    with_facts (codes "SB0 B1" ∷ codes "SB0 B1" ∷ codes "SB0 B1" ∷ []) (1 ∷ 2 ∷ 3 ∷ []) 8 7 [] (increments_tree first second)

-- NAMED BY ITS LINE, and dominating in use alone: 2 1, on line 15, for 1 2, on line 12

-- of this block, by an order that takes this time
abbrev pub named_in_use : List (List ℕ) → List ℕ → ℕ → Document
named_in_use block numbers time =
    with_facts block numbers time time []
    (Parted (1 ∷ 2 ∷ [])
    (Split (2 ∷ 3 ∷ []) (Unsplit (Factual (AtLine 15)) (Unsplit (Bounding (Load Boolean)) NoMore))
    (Split (1 ∷ []) (Unsplit (Bounding (Load Boolean)) NoMore) NoMore)))

-- the third waits for the only Boolean unit, and by then X1 is there in either order
abbrev pub waits_for_the_unit : Document
waits_for_the_unit = named_in_use (codes "BX1 X2" ∷ codes "BX3 X4" ∷ codes "BX5 X1" ∷ []) (1 ∷ 2 ∷ 3 ∷ []) 12

-- the third waits for X1, which is there later after 2 1
abbrev pub waits_for_x1 : Document
waits_for_x1 = named_in_use (codes "BX1 X2" ∷ codes "BX3 X4" ∷ codes "IX5 X1+X6" ∷ []) (1 ∷ 3 ∷ 2 ∷ []) 8

-- BX1 X2 / BX3 X4 / IX5 X1+X6 / SX7 B1+5: the third needn't wait for the parcels of the fourth, if nothing says so
abbrev pub two_parcels_beside : List Instr
two_parcels_beside = instr 0o10 1 2 0 ∷ instr 0o10 3 4 0 ∷ instr 0o36 5 1 6 ∷ instr 0o71 7 1 5 ∷ []
