use Rattle.std.proofs.Common.{ℕ, ◌≤◌, List, [], ◌∷◌, refl, inl, inr, arith}
use Rattle.s66_isa.specs.{Among, row}
use Rattle.s66_model.specs.{issue_of, start_of, point, conflict, Ending, Tree, Alone, Parted, Siblings, Unsplit, Split, splits, sibling_splits, split_at, siblings_split_at, Cut, load_problem, node}
use Rattle.s66_model.proofs.Beginnings.{source-legal}
use Rattle.s66_model.proofs.LedgerSteps.{open_closed, cut_closed}
use Rattle.s66_model.proofs.machine.node_table.loose_split_law.Goals as goal

-- if a child of the empty prefix is split, the empty prefix is too
some-split : (ns : List ℕ) (siblings : Siblings Ending) → Among (1 ∷ []) (siblings_split_at [] ns siblings) → 1 ≤ sibling_splits siblings
some-split (n ∷ ns) (Unsplit leaf siblings) h = some-split ns siblings h
some-split (n ∷ ns) (Split numbers sub siblings) h = omega arith
some-split ns siblings h = absurd h

two-splits : (tree : Tree Ending) → Among (1 ∷ []) (split_at [] tree) → 2 ≤ splits tree
two-splits (Alone leaf) h = absurd h
two-splits (Parted numbers siblings) (inl e) = absurd cc
two-splits (Parted numbers siblings) (inr past) = omega (arith, some-split numbers siblings past)

pub returns : goal.returns
unfolding row issue_of start_of point conflict
returns c = record {
  covers =
      record {
        once = λ order legal. refl;
        nodes = ((tt, λ ending e. absurd (open_closed ending e)), (((refl, tt), λ ending e. absurd (cut_closed ending e)), tt));
        best = source-legal load_problem.block;
        spent = refl;
        sum = refl;
      };
  never_finished = λ a h. absurd (omega (arith, two-splits a.tree (h.kept (node (1 ∷ []) Cut) (inr (inl refl)) refl), h.answer.splits, h.answer.within));
  no_table = λ is. absurd (omega (arith, is.children [] 1 refl));
}
