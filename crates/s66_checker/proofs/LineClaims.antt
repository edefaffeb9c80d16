-- A tree whose lines have no fault, after fact lines that are taken, shows the bound by them.
use Rattle.std.proofs.Common.{ℕ, ◌≤◌, ◌≡◌, Bool, true, true≢false, cond, not, ◌&&◌, List, [], Option, None, Some, leb, arith, refl, sym, ap, ◌∙◌, subst, leb-true}
use Rattle.std.proofs.lemmas.Bool.{not-false, not_from_false, and_parts}
use Rattle.s66_model.specs.{Rule, ClampedStanding, Problem, IsBeginning, is_remaining, Vertex, AtTerminal, TreeHolds, node_named, Ending, Bounding, Dominated, Factual, is_standing, may_be_named}
use Rattle.s66_model.specs.{DominatesByRule, Next, Turned, AtLine, LoadFrom}
use Rattle.s66_model.proofs.TreesHold.{tree-weaken, seen-holds}
use Rattle.s66_moments.specs.{Fact, next_value, is_turned, is_loaded, LineEnding, is_closed, LineEndingShows, ShowsByLines}
use Rattle.s66_moments.proofs.InUse.{clamped-in_use}
use Rattle.s66_moments.proofs.KnownLines.{IsSound, next-too_late, turned-too_late}
use Rattle.s66_moments.proofs.LoadLeaves.{loaded-closed}
use Rattle.s66_cert.specs.{Document}
use Rattle.s66_checker.specs.declared.verdict.Reason.TheVariants as fault
use Rattle.s66_checker.specs.{is_beginning, is_same_set, dominates_in_use, problem_of, known_of, node_on, is_complete, is_name_at, name_of, at_line_fault, next_fault, turned_fault, load_from_fault}
use Rattle.s66_checker.specs.{line_fault, AreTaken, line_ending, line_tree}
use Rattle.s66_checker.proofs.Faultless.{passed, is_incomplete-Decides, leaf-shows}
use Rattle.s66_checker.proofs.DominatedLines.{dominated-shows}
use Rattle.s66_checker.proofs.InUseTests.{in_use-shown}
use Rattle.s66_checker.proofs.LineNodes.{closed-node, node-found}
use Rattle.s66_checker.proofs.TakenLines.{shown_lines, shown_facts, taken-founded, taken-sound}

module _ (d : Document) (rule : d.rule ≡ ClampedStanding) (taken : AreTaken d) where
  abbrev b : Problem
  b = problem_of d

  abbrev facts : List Fact
  facts = shown_facts d

  sound : IsSound b facts (known_of d)
  sound = taken-sound d taken

  abbrev Shows : List ℕ → LineEnding → Type 0
  Shows at ending = LineEndingShows ClampedStanding b d.bound facts [] (line_tree d) at ending

  -- LEAVES BY FACTS

  next-shows : (at : List ℕ) (n : ℕ) → next_fault d at n ≡ None → Shows at (line_ending d (Factual (Next n)))
  next-shows at n h =
      let remains : Bool = is_remaining b.block at n in
      let late : Bool = leb d.bound (next_value b (known_of d) at n) in
      let one = (passed (is_complete b at) (Some fault.Place) (cond (not (remains && late)) (Some fault.Event) None) None (λ h. (cc))).0 h in
      let two = (passed (not (remains && late)) (Some fault.Event) None None (λ h. (cc))).0 one.1 in
      let (is, reaches) = and_parts remains late (not-false (remains && late) two.0) in
      let high : d.bound ≤ next_value b (known_of d) at n = leb-true d.bound (next_value b (known_of d) at n) reaches in
      (tt, next-too_late b facts (known_of d) sound d.bound at n is high)

  turned-shows : (at : List ℕ) (m n : ℕ) → turned_fault d at m n ≡ None → Shows at (line_ending d (Factual (Turned m n)))
  turned-shows at m n h =
      let turned : Bool = is_turned b (known_of d) at m n in
      let one = (passed (is_complete b at) (Some fault.Place) (cond (not turned) (Some fault.Pair) None) None (λ h. (cc))).0 h in
      let two = (passed (not turned) (Some fault.Pair) None None (λ h. (cc))).0 one.1 in
      (tt, turned-too_late b facts (known_of d) sound d.bound at m n (not-false turned two.0))

  load_from-shows : (at : List ℕ) (after : ℕ) (ns : List ℕ) → load_from_fault d at after ns ≡ None → Shows at (line_ending d (Factual (LoadFrom after ns)))
  load_from-shows at after ns h =
      let loaded : Bool = is_loaded b (known_of d) at d.bound after ns in
      let one = (passed (is_complete b at) (Some fault.Place) (cond (not loaded) (Some fault.Loaded) None) None (λ h. (cc))).0 h in
      let two = (passed (not loaded) (Some fault.Loaded) None None (λ h. (cc))).0 one.1 in
      loaded-closed b facts (known_of d) sound at d.bound after ns (not-false loaded two.0)

  -- DOMINATED LEAVES

  abbrev May : List ℕ → Type 0
  May name = is_closed (node_named [] (line_tree d) name) ≡ true

  dominated-line : (at name : List ℕ) → IsBeginning b.block at → line_fault d at (AtTerminal (Dominated name)) ≡ None → Shows at (line_ending d (Dominated name))
  dominated-line at name begins h =
      let (dominates, may) = (dominated-shows d at name begins).0 h in
      let clamped : DominatesByRule ClampedStanding b name at = subst (λ (r : Rule). DominatesByRule r b name at) rule dominates in (
        (clamped.0, clamped-in_use b d.bound facts name at clamped.1),
        closed-node d name ∙ subst (λ (r : Rule). may_be_named r (node_named [] d.tree name) ≡ true) rule may,
      )

  -- by the node of a line
  module _ (Q : List ℕ → Ending → Type 0) (holds : TreeHolds b.block Q [] d.tree) where
    node-shows : (at : List ℕ) (line : ℕ) (found : Option (List ℕ × Vertex Ending)) → node_on d line ≡ found → is_name_at d at found ≡ true → May (name_of found)
    node-shows at line None is h = absurd (true≢false (sym h))
    node-shows at line (Some node) is h =
        let (rest, same) = and_parts (is_standing (Some node.1) && is_beginning b.block node.0) (is_same_set node.0 at) h in
        let (stands, begins) = and_parts (is_standing (Some node.1)) (is_beginning b.block node.0) rest in
        closed-node d node.0 ∙ ap is_standing (node-found b.block Q d line node holds is) ∙ stands

    at_line-shows : (at : List ℕ) (line : ℕ) → IsBeginning b.block at → at_line_fault d at line ≡ None → Shows at (line_ending d (Factual (AtLine line)))
    at_line-shows at line begins h =
        let named : Bool = is_name_at d at (node_on d line) in
        let name : List ℕ = name_of (node_on d line) in
        let dominates : Bool = dominates_in_use b d.bound (known_of d) name at in
        let one = (passed (is_complete b at) (Some fault.Place) (cond (not named) (Some fault.Name) (cond (not dominates) (Some fault.Dominance) None)) None (λ h. (cc))).0 h in
        let two = (passed (not named) (Some fault.Name) (cond (not dominates) (Some fault.Dominance) None) None (λ h. (cc))).0 one.1 in
        let three = (passed (not dominates) (Some fault.Dominance) None None (λ h. (cc))).0 two.1 in (
          ((is_incomplete-Decides b at begins).0 (not_from_false (is_complete b at) one.0), in_use-shown b d.bound (known_of d) name at facts sound.is_known (not-false dominates three.0)),
          node-shows at line (node_on d line) refl (not-false named two.0),
        )

    ending-line : (at : List ℕ) (ending : Ending) → IsBeginning b.block at × (line_fault d at (AtTerminal ending) ≡ None) → Shows at (line_ending d ending)
    ending-line at (Bounding leaf) h = (leaf-shows b d.bound at leaf h.0).0 h.1
    ending-line at (Dominated name) h = dominated-line at name h.0 h.1
    ending-line at (Factual (Next number)) h = next-shows at number h.1
    ending-line at (Factual (Turned first second)) h = turned-shows at first second h.1
    ending-line at (Factual (AtLine line)) h = at_line-shows at line h.0 h.1
    ending-line at (Factual (LoadFrom after numbers)) h = load_from-shows at after numbers h.1

  pub shown-by_lines : TreeHolds b.block (λ at ending. IsBeginning b.block at × (line_fault d at (AtTerminal ending) ≡ None)) [] d.tree → ShowsByLines ClampedStanding b d.bound (shown_lines d) [] (line_tree d)
  shown-by_lines holds = (
    d.bound,
    omega arith,
    (
      taken-founded d taken,
      seen-holds (λ at. line_ending d) b.block Shows d.tree []
          (tree-weaken b.block (λ at ending. IsBeginning b.block at × (line_fault d at (AtTerminal ending) ≡ None)) (λ at ending. Shows at (line_ending d ending)) (ending-line (λ at ending. IsBeginning b.block at × (line_fault d at (AtTerminal ending) ≡ None)) holds) d.tree [] holds),
    ),
  )
