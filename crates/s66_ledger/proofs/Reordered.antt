-- An answer with another order that takes no longer.
use Rattle.std.proofs.Common.{ℕ, ◌≡◌, ◌≤◌, ◌<◌, ◌∙◌, List, [], ◌∷◌, ap, arith, inl, inr, refl, sym}
use Rattle.s66_isa.specs.{least}
use Rattle.s66_isa.proofs.Lists.{least-le}
use Rattle.s66_model.specs.{Rule, Problem, total_of, IsLegal, Whole, value, Tree, tree_values, Ending, Bounding, ending_values, source_time, live_floors, ended_answer, node_tree}
use Rattle.s66_model.proofs.AnswerBound.{answer-bound}
use Rattle.s66_model.proofs.Floors.{floor-stands}
use Rattle.s66_model.proofs.TreesHold.{tree-weaken}
use Rattle.s66_node.specs.{Node}
use Rattle.s66_ledger.specs.{IsKeptAnswer, ended_of, ledger_from, nodes_of}

-- the least stays if the first number falls, but not below it
least-stays : (old new : ℕ) (others : List ℕ) → new ≤ old → least (λ v. v) (old ∷ others) ≤ new → least (λ v. v) (new ∷ others) ≡ least (λ v. v) (old ∷ others)
least-stays old new [] falls above = omega (arith, falls, above)
least-stays old new (other ∷ others) falls above = omega (arith, falls, above)

module _ (rule : Rule) (b : Problem) (budget : ℕ) (nodes : List Node) (best other : List ℕ) (spent low first : ℕ) (kept : IsKeptAnswer (ended_of rule b budget nodes best spent) nodes low first) (legal : IsLegal b.block other) (falls : total_of b other ≤ total_of b best) where
  same-bound : least (λ v. v) (total_of b other ∷ live_floors b (nodes_of b nodes)) ≡ least (λ v. v) (total_of b best ∷ live_floors b (nodes_of b nodes))
  same-bound =
      least-stays (total_of b best) (total_of b other) (live_floors b (nodes_of b nodes)) falls
      (answer-bound floor-stands rule b budget (ended_answer b (ledger_from b nodes best 0 [] spent)) kept.answer other legal)

  -- nothing but the order and its time is another
  pub reordered-answer : ended_answer b (ledger_from b nodes other 0 [] spent) ≡ record (ended_answer b (ledger_from b nodes best 0 [] spent)) { order = other; time = total_of b other }
  reordered-answer = ap (λ bound. record { order = other; time = total_of b other; bound = bound; splits = spent; tree = node_tree b (nodes_of b nodes) }) same-bound

  pub reordered : total_of b other < source_time b → IsKeptAnswer (ended_of rule b budget nodes other spent) nodes low first
  reordered faster =
      let tree : Tree Ending = node_tree b (nodes_of b nodes) in
      let values = tree_values (ending_values b) [] tree in
      let is = kept.answer in
      let above : least (λ v. v) (total_of b best ∷ values) ≤ total_of b other = omega (arith, sym is.bound, same-bound, least-le (λ v. v) (total_of b other) (total_of b other ∷ live_floors b (nodes_of b nodes)) (inl refl)) in
      record {
        answer = record {
          legal = legal;
          time = refl;
          source = omega (arith, faster);
          wholes =
              tree-weaken b.block (λ at ending. ending ≡ Bounding Whole → total_of b best ≤ value b at Whole) (λ at ending. ending ≡ Bounding Whole → total_of b other ≤ value b at Whole)
              (λ at ending old whole. omega (arith, falls, old whole)) tree [] is.wholes;
          tree = is.tree;
          bound = same-bound ∙ is.bound ∙ sym (least-stays (total_of b best) (total_of b other) values falls above);
          splits = is.splits;
          within = is.within;
          spent = λ below. is.spent (omega (arith, below, same-bound, falls));
          first = λ e. absurd (omega (arith, e, faster));
        };
        bound = same-bound ∙ kept.bound;
        source = kept.source;
        few = kept.few;
        table = record { root = kept.table.root; children = kept.table.children; others = kept.table.others; splits = kept.table.splits; best = inr faster };
        begins = kept.begins;
        floors = kept.floors;
        room = kept.room;
      }
