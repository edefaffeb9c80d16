use Rattle.std.proofs.Common.{[], ◌∷◌, refl, inl, inr, lit≤, rules}
use Rattle.s66_isa.specs.{x_reg, row}
use Rattle.s66_model.specs.{conflict, issue_of, start_of, point, NoneNamed, DominatesClamped, standard_problem, three_increments, Alone}
use Rattle.s66_moments.specs.{Issue, Start, Done, Free, At, End, AtLines, ShowsByLines, hop, booleans_between, load_line}
use Rattle.s66_moments.proofs.InUse.{clamped-in_use}
use Rattle.s66_moments.proofs.ClosedTrees.{lines-below}
use Rattle.s66_moments.proofs.WorkedLines.{from_start, between_two, by_parcels, by_unit, other_way}
use Rattle.s66_moments.proofs.examples.line_tree_examples.Goals as goal

one_line : ShowsByLines NoneNamed (standard_problem booleans_between) 16 (load_line ∷ []) [] (Alone (AtLines []))
unfolding row conflict issue_of start_of point
one_line = (16, lit≤ tt, ((from_start, tt), (tt, inl (hop 16 End ∷ [], (inr (inl (inr (inl refl))), refl), lit≤ tt))))

second_first : DominatesClamped (standard_problem three_increments) (2 ∷ 1 ∷ []) (1 ∷ 2 ∷ [])
unfolding row conflict issue_of start_of point
second_first = search rules

pub returns : goal.returns
unfolding row conflict issue_of start_of point
returns c = record {
  one_load_line = one_line;
  one_inner_line = (16, lit≤ tt, ((between_two, tt), (tt, inl (hop 0 (At 1 Issue) ∷ hop 0 (At 1 Start) ∷ hop 11 (At 4 Start) ∷ hop 5 (At 4 Free) ∷ hop 0 End ∷ [], (inl (tt, refl, refl), (inl (inl refl, refl, refl), (inr (inl (inr (inl refl))), (inl (inl refl, refl, refl), (inl (tt, refl, refl), refl))))), lit≤ tt))));
  bound_16 = λ order legal. lines-below NoneNamed (standard_problem booleans_between) 16 (load_line ∷ []) [] order (Alone (AtLines [])) one_line legal;
  its_floor = refl;
  it_takes_16 = refl;
  one_pair = (15, lit≤ tt, ((by_parcels, tt), (tt, inl (hop 0 (At 1 Issue) ∷ hop 1 (At 2 Issue) ∷ hop 0 (At 2 Start) ∷ hop 3 (At 2 (Done (x_reg 1))) ∷ hop 0 (At 3 Start) ∷ hop 11 (At 3 Free) ∷ hop 0 End ∷ [], (inl (tt, refl, refl), (inl (inr ([], (inr (inl (inr (inl refl))), (lit≤ tt, lit≤ tt))), refl, refl), (inl (inl refl, refl, refl), (inl (inl refl, refl, refl), (inl (inr ([], (inl refl, (lit≤ tt, lit≤ tt))), refl, refl), (inl (inl refl, refl, refl), (inl (tt, refl, refl), refl))))))), lit≤ tt))));
  it_takes_15 = refl;
  ring_of_pairs = (11, lit≤ tt, ((by_unit, (other_way, tt)), (tt, inr (2, (lit≤ tt, lit≤ tt), (3 ∷ [], (inr (inl (inr (inl refl))), (lit≤ tt, lit≤ tt), (inr (inl (inr (inr (inl refl)))), (lit≤ tt, lit≤ tt))))))));
  it_takes_11 = refl;
  by_what_comes_next = (10, lit≤ tt, (tt, (lit≤ tt, refl, ((tt, inl (hop 5 (At 2 Issue) ∷ hop 0 (At 2 Start) ∷ hop 5 (At 2 Free) ∷ hop 0 End ∷ [], (inr (inr (refl, (1 ∷ [], inl refl, inr (refl, refl)))), (inl (inl refl, refl, refl), (inl (inl refl, refl, refl), (inl (tt, refl, refl), refl)))), lit≤ tt)), ((tt, inl (hop 5 (At 1 Issue) ∷ hop 0 (At 1 Start) ∷ hop 5 (At 1 Free) ∷ hop 0 End ∷ [], (inr (inr (refl, (2 ∷ [], inl refl, inr (refl, refl)))), (inl (inl refl, refl, refl), (inl (inl refl, refl, refl), (inl (tt, refl, refl), refl)))), lit≤ tt)), tt)))));
  dominated_earlier = (7, lit≤ tt, search rules);
  -- the node of 2 1 stands, with a leaf, for the prefix 1 2
  dominated_standing = (7, lit≤ tt, (tt, (lit≤ tt, refl, (lit≤ tt, refl, (((lit≤ tt, clamped-in_use (standard_problem three_increments) 7 [] (2 ∷ 1 ∷ []) (1 ∷ 2 ∷ []) second_first), refl), (search rules, tt)), search rules))));
}
