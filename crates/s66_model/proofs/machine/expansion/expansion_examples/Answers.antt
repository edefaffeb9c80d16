use Rattle.std.proofs.Common.{rules, ℕ, ◌<◌, ◌≡◌, List, [], ◌∷◌, sym, subst, inl, inr, refl, ap, arith}
use Rattle.s66_isa.specs.{Among, row, Multiply}
use Rattle.s66_model.specs.{NoneNamed, issue_of, start_of, point, conflict, Load, floor_value, Tree, Alone, Parted, Terminal, Carries, Frontier, Passed, IsExpansion, load_problem, multiply_problem}
use Rattle.s66_model.proofs.machine.expansion.expansion_examples.Goals as goal

-- the empty prefix is the only one that is split
below_22 : (at : List ℕ) → Among at ([] ∷ []) → floor_value multiply_problem at < 22
unfolding row issue_of start_of point conflict
below_22 at (inl here) = subst (λ x. floor_value multiply_problem x < 22) (sym here) (omega arith)
below_22 at (inr past) = absurd past

pub returns-clause-one_split_below_22 : goal.returns-clause-one_split_below_22
unfolding row issue_of start_of point conflict
returns-clause-one_split_below_22 c = record { piece = search rules; within = omega arith; below = below_22; spent = λ has. refl }

floor_only : (tree : Tree Terminal) → IsExpansion NoneNamed multiply_problem 17 17 1 [] tree → tree ≡ Alone (Carries (Load Multiply))
unfolding row issue_of start_of point conflict
floor_only (Alone (Carries leaf)) is = ap (λ l. Alone (Carries l)) is.piece.0
floor_only (Alone Frontier) is = absurd (omega (arith, is.piece.1))
floor_only (Alone (Passed name)) is = absurd is.piece.0.0
floor_only (Parted numbers siblings) is = absurd (omega (arith, is.below [] (inl refl)))

pub returns-clause-nothing_else_at_17 : goal.returns-clause-nothing_else_at_17
returns-clause-nothing_else_at_17 c = floor_only

-- the prefixes of one_load that are split
below_16 : (at : List ℕ) → Among at ([] ∷ (1 ∷ []) ∷ (1 ∷ 3 ∷ []) ∷ []) → floor_value load_problem at < 16
unfolding row issue_of start_of point conflict
below_16 at (inl here) = subst (λ x. floor_value load_problem x < 16) (sym here) (omega arith)
below_16 at (inr (inl here)) = subst (λ x. floor_value load_problem x < 16) (sym here) (omega arith)
below_16 at (inr (inr (inl here))) = subst (λ x. floor_value load_problem x < 16) (sym here) (omega arith)
below_16 at (inr (inr (inr past))) = absurd past

pub returns-clause-three_splits : goal.returns-clause-three_splits
unfolding row issue_of start_of point conflict
returns-clause-three_splits c = record { piece = search rules; within = omega arith; below = below_16; spent = λ has. refl }

pub returns-clause-not_seen_to_fall : goal.returns-clause-not_seen_to_fall
unfolding row issue_of start_of point conflict
returns-clause-not_seen_to_fall c = record { piece = search rules; within = omega arith; below = below_22; spent = λ has. refl }

pub returns-clause-split_at_the_best : goal.returns-clause-split_at_the_best
unfolding row issue_of start_of point conflict
returns-clause-split_at_the_best c = λ is. absurd (omega (arith, is.below [] (inl refl)))
