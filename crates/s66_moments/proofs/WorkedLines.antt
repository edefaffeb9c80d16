-- Paths and lines of the worked blocks.
use Rattle.std.proofs.Common.{[], ◌∷◌, refl, inl, inr, lit≤}
use Rattle.s66_isa.specs.{x_reg, row}
use Rattle.s66_model.specs.{conflict, Problem, issue_of, start_of, point, standard_problem, multiply_problem}
use Rattle.s66_moments.specs.{Issue, Start, Done, Free, Origin, At, End, Before, Begins, Leads, ForcedPair, IsTooLate, IsFounded, hop, two_adds, booleans_between, load_line, inner_line}
use Rattle.s66_moments.specs.{until_free_line, two_copies_line, two_free_adds, still_line, first_of_two, two_sums}

-- TWO OF ONE UNIT BETWEEN

abbrev between : Problem
between = standard_problem booleans_between

-- the second and the third start when the unit of the first is free
head_2 : Leads between [] Origin 4 (At 2 Start)
unfolding row conflict issue_of start_of point
head_2 = (hop 0 (At 1 Issue) ∷ hop 0 (At 1 Start) ∷ hop 4 (At 1 Free) ∷ hop 0 (At 2 Issue) ∷ hop 0 (At 2 Start) ∷ [], (inl (tt, refl, refl), (inl (inl refl, refl, refl), (inl (inl refl, refl, refl), (inl (inr ([], (inl refl, (lit≤ tt, lit≤ tt))), refl, refl), (inl (inl refl, refl, refl), refl))))), lit≤ tt)

head_3 : Leads between [] Origin 4 (At 3 Start)
unfolding row conflict issue_of start_of point
head_3 = (hop 0 (At 1 Issue) ∷ hop 0 (At 1 Start) ∷ hop 4 (At 1 Free) ∷ hop 0 (At 3 Issue) ∷ hop 0 (At 3 Start) ∷ [], (inl (tt, refl, refl), (inl (inl refl, refl, refl), (inl (inl refl, refl, refl), (inl (inr ([], (inl refl, (lit≤ tt, lit≤ tt))), refl, refl), (inl (inl refl, refl, refl), refl))))), lit≤ tt)

-- and the fourth waits for what they compute
tail_2 : Leads between [] (At 2 Start) 8 End
unfolding row conflict issue_of start_of point
tail_2 = (hop 3 (At 2 (Done (x_reg 4))) ∷ hop 0 (At 4 Start) ∷ hop 5 (At 4 Free) ∷ hop 0 End ∷ [], (inl (inl refl, refl, refl), (inl (inr ([], (inl refl, (lit≤ tt, lit≤ tt))), refl, refl), (inl (inl refl, refl, refl), (inl (tt, refl, refl), refl)))), lit≤ tt)

tail_3 : Leads between [] (At 3 Start) 8 End
unfolding row conflict issue_of start_of point
tail_3 = (hop 3 (At 3 (Done (x_reg 5))) ∷ hop 0 (At 4 Start) ∷ hop 5 (At 4 Free) ∷ hop 0 End ∷ [], (inl (inl refl, refl, refl), (inl (inr ([], (inl refl, (lit≤ tt, lit≤ tt))), refl, refl), (inl (inl refl, refl, refl), (inl (tt, refl, refl), refl)))), lit≤ tt)

pub from_start : IsFounded between 16 [] load_line
unfolding row conflict issue_of start_of point
from_start = ((refl, (refl, tt)), ((lit≤ tt, lit≤ tt), refl, inr (inl (8, lit≤ tt, head_2, tail_2, lit≤ tt)), ((lit≤ tt, lit≤ tt), refl, inr (inl (8, lit≤ tt, head_3, tail_3, lit≤ tt)), tt)))

inner_head_2 : Leads between [] (At 1 Start) 4 (At 2 Start)
unfolding row conflict issue_of start_of point
inner_head_2 = (hop 4 (At 1 Free) ∷ hop 0 (At 2 Issue) ∷ hop 0 (At 2 Start) ∷ [], (inl (inl refl, refl, refl), (inl (inr ([], (inl refl, (lit≤ tt, lit≤ tt))), refl, refl), (inl (inl refl, refl, refl), refl))), lit≤ tt)

inner_head_3 : Leads between [] (At 1 Start) 4 (At 3 Start)
unfolding row conflict issue_of start_of point
inner_head_3 = (hop 4 (At 1 Free) ∷ hop 0 (At 3 Issue) ∷ hop 0 (At 3 Start) ∷ [], (inl (inl refl, refl, refl), (inl (inr ([], (inl refl, (lit≤ tt, lit≤ tt))), refl, refl), (inl (inl refl, refl, refl), refl))), lit≤ tt)

inner_tail_2 : Leads between [] (At 2 Start) 3 (At 4 Start)
unfolding row conflict issue_of start_of point
inner_tail_2 = (hop 3 (At 2 (Done (x_reg 4))) ∷ hop 0 (At 4 Start) ∷ [], (inl (inl refl, refl, refl), (inl (inr ([], (inl refl, (lit≤ tt, lit≤ tt))), refl, refl), refl)), lit≤ tt)

inner_tail_3 : Leads between [] (At 3 Start) 3 (At 4 Start)
unfolding row conflict issue_of start_of point
inner_tail_3 = (hop 3 (At 3 (Done (x_reg 5))) ∷ hop 0 (At 4 Start) ∷ [], (inl (inl refl, refl, refl), (inl (inr ([], (inl refl, (lit≤ tt, lit≤ tt))), refl, refl), refl)), lit≤ tt)

pub between_two : IsFounded between 16 [] inner_line
unfolding row conflict issue_of start_of point
between_two = ((refl, (refl, tt)), ((lit≤ tt, lit≤ tt), refl, inr (inl (3, lit≤ tt, inner_head_2, inner_tail_2, lit≤ tt)), ((lit≤ tt, lit≤ tt), refl, inr (inl (3, lit≤ tt, inner_head_3, inner_tail_3, lit≤ tt)), tt)))

pub until_free : IsFounded between 16 [] until_free_line
unfolding row conflict issue_of start_of point
until_free = ((refl, (refl, tt)), ((lit≤ tt, lit≤ tt), refl, inr (inr (inl (0, lit≤ tt, head_2, (hop 0 End ∷ [], (inl (tt, refl, refl), refl), lit≤ tt), lit≤ tt))), ((lit≤ tt, lit≤ tt), refl, inr (inr (inl (0, lit≤ tt, head_3, (hop 0 End ∷ [], (inl (tt, refl, refl), refl), lit≤ tt), lit≤ tt))), tt)))

-- TWO COPIES

pub two_copies : IsFounded multiply_problem 22 [] two_copies_line
unfolding row conflict issue_of start_of point
two_copies = ((refl, (refl, (refl, tt))), ((lit≤ tt, lit≤ tt), refl, inl (11, lit≤ tt, (hop 0 (At 1 Issue) ∷ [], (inl (tt, refl, refl), refl), lit≤ tt), (hop 0 (At 1 Start) ∷ hop 11 (At 1 Free) ∷ hop 0 End ∷ [], (inl (inl refl, refl, refl), (inl (inl refl, refl, refl), (inl (tt, refl, refl), refl))), lit≤ tt), lit≤ tt), ((lit≤ tt, lit≤ tt), refl, inl (11, lit≤ tt, (hop 0 (At 2 Issue) ∷ [], (inl (tt, refl, refl), refl), lit≤ tt), (hop 0 (At 2 Start) ∷ hop 11 (At 2 Free) ∷ hop 0 End ∷ [], (inl (inl refl, refl, refl), (inl (inl refl, refl, refl), (inl (tt, refl, refl), refl))), lit≤ tt), lit≤ tt), ((lit≤ tt, lit≤ tt), refl, inl (11, lit≤ tt, (hop 0 (At 3 Issue) ∷ [], (inl (tt, refl, refl), refl), lit≤ tt), (hop 0 (At 3 Start) ∷ hop 11 (At 3 Free) ∷ hop 0 End ∷ [], (inl (inl refl, refl, refl), (inl (inl refl, refl, refl), (inl (tt, refl, refl), refl))), lit≤ tt), lit≤ tt), tt))))

-- A PREFIX

pub still : IsFounded (standard_problem two_free_adds) 10 (Begins (1 ∷ []) ∷ []) still_line
unfolding row conflict issue_of start_of point
still = ((refl, (refl, tt)), ((lit≤ tt, lit≤ tt), refl, inr (inr (inr (1 ∷ [], 0, refl, inl refl, refl, lit≤ tt, lit≤ tt, (hop 0 End ∷ [], (inl (tt, refl, refl), refl), lit≤ tt), lit≤ tt))), ((lit≤ tt, lit≤ tt), refl, inl (5, lit≤ tt, (hop 5 (At 2 Issue) ∷ [], (inr (inr (refl, (1 ∷ [], inl refl, inr (refl, refl)))), refl), lit≤ tt), (hop 0 (At 2 Start) ∷ hop 5 (At 2 Free) ∷ hop 0 End ∷ [], (inl (inl refl, refl, refl), (inl (inl refl, refl, refl), (inl (tt, refl, refl), refl))), lit≤ tt), lit≤ tt), tt)))

-- PAIRS

pub by_parcels : IsFounded (standard_problem first_of_two) 15 [] (ForcedPair 1 2)
unfolding row conflict issue_of start_of point
by_parcels = ((λ e. absurd cc), (lit≤ tt, lit≤ tt), (lit≤ tt, lit≤ tt), inl (0, 14, (hop 0 (At 2 Issue) ∷ [], (inl (tt, refl, refl), refl), lit≤ tt), (hop 0 (At 1 Start) ∷ hop 3 (At 1 (Done (x_reg 2))) ∷ hop 0 (At 3 Issue) ∷ hop 0 (At 3 Start) ∷ hop 11 (At 3 Free) ∷ hop 0 End ∷ [], (inl (inl refl, refl, refl), (inl (inl refl, refl, refl), (inl (inr ([], (inl refl, (lit≤ tt, lit≤ tt))), refl, refl), (inl (inl refl, refl, refl), (inl (inl refl, refl, refl), (inl (tt, refl, refl), refl)))))), lit≤ tt), lit≤ tt))

pub by_unit : IsFounded (standard_problem two_sums) 11 [] (ForcedPair 3 2)
unfolding row conflict issue_of start_of point
by_unit = ((λ e. absurd cc), (lit≤ tt, lit≤ tt), (lit≤ tt, lit≤ tt), inr (6, 5, (refl, refl), (hop 0 (At 1 Issue) ∷ hop 1 (At 2 Issue) ∷ hop 0 (At 2 Start) ∷ hop 5 (At 2 Free) ∷ [], (inl (tt, refl, refl), (inl (inr ([], (inl refl, (lit≤ tt, lit≤ tt))), refl, refl), (inl (inl refl, refl, refl), (inl (inl refl, refl, refl), refl)))), lit≤ tt), (hop 0 (At 3 Start) ∷ hop 5 (At 3 Free) ∷ hop 0 End ∷ [], (inl (inl refl, refl, refl), (inl (inl refl, refl, refl), (inl (tt, refl, refl), refl))), lit≤ tt), lit≤ tt))

pub other_way : IsFounded (standard_problem two_sums) 11 (Before 3 2 ∷ []) (ForcedPair 2 3)
unfolding row conflict issue_of start_of point
other_way = ((λ e. absurd cc), (lit≤ tt, lit≤ tt), (lit≤ tt, lit≤ tt), inr (8, 5, (refl, refl), (hop 0 (At 1 Issue) ∷ hop 0 (At 1 Start) ∷ hop 3 (At 1 (Done (x_reg 5))) ∷ hop 0 (At 3 Issue) ∷ hop 0 (At 3 Start) ∷ hop 5 (At 3 Free) ∷ [], (inl (tt, refl, refl), (inl (inl refl, refl, refl), (inl (inl refl, refl, refl), (inl (inr ([], (inl refl, (lit≤ tt, lit≤ tt))), refl, refl), (inl (inl refl, refl, refl), (inl (inl refl, refl, refl), refl)))))), lit≤ tt), (hop 0 (At 2 Start) ∷ hop 5 (At 2 Free) ∷ hop 0 End ∷ [], (inl (inl refl, refl, refl), (inl (inl refl, refl, refl), (inl (tt, refl, refl), refl))), lit≤ tt), lit≤ tt))

pub ring : IsTooLate (standard_problem two_sums) 11 (Before 2 3 ∷ Before 3 2 ∷ [])
unfolding row conflict issue_of start_of point
ring = inr (2, (lit≤ tt, lit≤ tt), (3 ∷ [], (inr (inl (inl refl)), (lit≤ tt, lit≤ tt), (inr (inl (inr (inl refl))), (lit≤ tt, lit≤ tt)))))

pub turned : IsTooLate (standard_problem first_of_two) 15 (Begins (2 ∷ []) ∷ Before 1 2 ∷ [])
unfolding row conflict issue_of start_of point
turned = inr (1, (lit≤ tt, lit≤ tt), (2 ∷ [], (inr (inl (inr (inl refl))), (lit≤ tt, lit≤ tt), (inr (inr (2 ∷ [], inl refl, (refl, refl))), (lit≤ tt, lit≤ tt)))))

-- WHAT IS PLACED

pub placed_total : IsTooLate (standard_problem two_adds) 5 (Begins (1 ∷ []) ∷ [])
unfolding row conflict issue_of start_of point
placed_total = inl (hop 5 End ∷ [], (inr (inr (refl, (1 ∷ [], inl refl, refl))), refl), lit≤ tt)

-- the second issues when the unit of the first is free
pub over_placed : IsTooLate (standard_problem two_adds) 10 (Begins (1 ∷ []) ∷ [])
unfolding row conflict issue_of start_of point
over_placed = inl (hop 5 (At 1 Free) ∷ hop 0 (At 2 Issue) ∷ hop 0 (At 2 Start) ∷ hop 5 (At 2 Free) ∷ hop 0 End ∷ [], (inr (inr (refl, (1 ∷ [], inl refl, inl (refl, refl)))), (inl (inr ([], (inl refl, (lit≤ tt, lit≤ tt))), refl, refl), (inl (inl refl, refl, refl), (inl (inl refl, refl, refl), (inl (tt, refl, refl), refl))))), lit≤ tt)
