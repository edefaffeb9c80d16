use Rattle.std.proofs.Common.{ℕ, ◌≡◌, ◌≤◌, ◌⊎◌, true, cond, List, [], ◌∷◌, refl, sym, ap, inl, inr, arith, subst}
use Rattle.s66_isa.specs.{row, tally, Among}
use Rattle.s66_model.specs.{conflict, Problem, issue_of, start_of, point, IsIncomplete, Whole, floor_value, Carries, Bounding, Ledger, Node, Open, Out, Closed, is_live, opening, best_time}
use Rattle.s66_model.specs.{after_graft, IsEnded, boolean_problem, load_problem, multiply_problem, every_order, node, ledger, first_node, root_split, without_grants, load_grafted}
use Rattle.s66_model.proofs.machine.ended.ended_examples.Goals as goal

-- of each of these nodes what an ended ledger asks of one
abbrev Each : Problem → ℕ → Ledger → List Node → Type 0
Each b budget l [] = Unit {0}
Each b budget l (x ∷ nodes) =
    (is_live x ≡ true → (best_time b l ≤ floor_value b x.prefix) ⊎ (IsIncomplete b.block x.prefix × (l.spent ≡ budget))) × Each b budget l nodes

ended : (b : Problem) (budget : ℕ) (l : Ledger) → Each b budget l l.nodes → IsEnded b budget l
ended b budget l h = by l.nodes h
  where
    by : (nodes : List Node) → Each b budget l nodes → (node : Node) → Among node nodes → is_live node ≡ true → (best_time b l ≤ floor_value b node.prefix) ⊎ (IsIncomplete b.block node.prefix × (l.spent ≡ budget))
    by [] h node among = absurd among
    by (x ∷ nodes) h node (inl here) = subst (λ (y : Node). is_live y ≡ true → (best_time b l ≤ floor_value b y.prefix) ⊎ (IsIncomplete b.block y.prefix × (l.spent ≡ budget))) (sym here) h.0
    by (x ∷ nodes) h node (inr past) = by nodes h.1 node past

-- if no node is open or out
none-live : (b : Problem) (budget : ℕ) (l : Ledger) (nodes : List Node) → tally is_live nodes ≡ 0 → Each b budget l nodes
none-live b budget l [] none = tt
none-live b budget l (x ∷ nodes) none =
    (λ live. absurd (omega (arith, none, ap (λ t. cond {A = ℕ} t 1 0) live)), none-live b budget l nodes (omega (arith, none)))

pub returns-clause-ended_at_the_opening : goal.returns-clause-ended_at_the_opening
unfolding row issue_of start_of point conflict
returns-clause-ended_at_the_opening c = ended multiply_problem 0 (opening multiply_problem 0 1) (λ live. inr (omega arith, refl), tt)

pub returns-clause-ended_with_a_budget_of_1 : goal.returns-clause-ended_with_a_budget_of_1
unfolding row issue_of start_of point conflict
returns-clause-ended_with_a_budget_of_1 c =
    ended multiply_problem 1 (ledger (root_split Open Out Open).nodes (1 ∷ 2 ∷ 3 ∷ []) 0 (0 ∷ []) 1)
    (λ live. absurd cc, (λ live. inr (omega arith, refl), (λ live. inr (omega arith, refl), (λ live. inr (omega arith, refl), tt))))

pub returns-clause-ended_by_a_floor_as_high_as_the_best : goal.returns-clause-ended_by_a_floor_as_high_as_the_best
unfolding row issue_of start_of point conflict
returns-clause-ended_by_a_floor_as_high_as_the_best c =
    ended boolean_problem 10 (without_grants (node [] Open ∷ []) (1 ∷ 2 ∷ [])) (λ live. inl (omega arith), tt)

pub returns-clause-ended_with_splits_left : goal.returns-clause-ended_with_splits_left
unfolding row issue_of start_of point conflict
returns-clause-ended_with_splits_left c =
    ended load_problem 10 (load_grafted (1 ∷ 3 ∷ 2 ∷ []) (Closed (Bounding Whole)))
    (λ live. absurd cc, (λ live. absurd cc, (λ live. absurd cc, (λ live. absurd cc, (λ live. absurd cc, (λ live. inl (omega arith), tt))))))

pub returns-clause-ended_by_every_order : goal.returns-clause-ended_by_every_order
unfolding row issue_of start_of point conflict
returns-clause-ended_by_every_order c =
    let nodes = (after_graft multiply_problem (first_node Out) 1 0 [] (every_order (Carries Whole))).nodes in
    let l = ledger nodes (1 ∷ 2 ∷ 3 ∷ []) 1 (0 ∷ []) 10 in
    ended multiply_problem 11 l (none-live multiply_problem 11 l nodes refl)

pub returns-clause-not_ended_with_a_budget_of_2 : goal.returns-clause-not_ended_with_a_budget_of_2
unfolding row issue_of start_of point conflict
returns-clause-not_ended_with_a_budget_of_2 c = λ ends.
    elim (ends (node (1 ∷ []) Open) (inr (inl refl)) refl) [ inl above ↦ absurd (omega (arith, above)) | inr short ↦ absurd (omega (arith, short.1)) ]

pub returns-clause-not_ended_while_one_is_out : goal.returns-clause-not_ended_while_one_is_out
unfolding row issue_of start_of point conflict
returns-clause-not_ended_while_one_is_out c = λ ends.
    elim (ends (node [] Out) (inl refl) refl) [ inl above ↦ absurd (omega (arith, above)) | inr short ↦ absurd (omega (arith, short.1)) ]

pub returns-clause-not_ended_by_a_whole_order_below_the_best : goal.returns-clause-not_ended_by_a_whole_order_below_the_best
unfolding row issue_of start_of point conflict
returns-clause-not_ended_by_a_whole_order_below_the_best c = λ ends.
    elim (ends (node (1 ∷ 3 ∷ 2 ∷ []) Open) (inr (inr (inr (inr (inl refl))))) refl) [
      | inl above ↦ absurd (omega (arith, above))
      | inr short ↦ absurd (omega (arith, short.0))
    ]
