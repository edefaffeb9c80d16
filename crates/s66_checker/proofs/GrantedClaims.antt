-- If the verdict is yes the claim is true, and without fact lines exactly then.
use Rattle.std.proofs.Common.{ℕ, suc, ◌≡◌, ◌↔◌, ◌≤◌, ◌∙◌, Bool, false, cond, not, List, [], ◌∷◌, Option, None, Some, refl, sym, ap, subst, inl, inr, unwrap_or, eqb-true, eq-eqb, ltb-false, le-ltb}
use Rattle.std.proofs.Common.{nat_lt, ◌==◌}
use Rattle.std.proofs.lemmas.Bool.{not-false, not_from_true, or_parts}
use Rattle.s66_isa.specs.{Among, some_of}
use Rattle.s66_model.specs.{Problem, total_of, IsLegal, IsBeginning, ClampedStanding, IsBound, Vertex, AtTerminal, flat, Ending, EndingShows}
use Rattle.s66_model.proofs.DominatedTrees.{shown-below}
use Rattle.s66_moments.specs.{FactStep, ShowsByLines, premises_first, shown_by_all}
use Rattle.s66_moments.proofs.ClosedTrees.{lines-below}
use Rattle.s66_cert.specs.{Document, IsDocument, AreFacts, HasItsLeaves, is_factual, tree_placed}
use Rattle.s66_checker.specs.declared.verdict.Verdict.{Verdict}
use Rattle.s66_checker.specs.{Yes, No, Reason, AreTaken, line_tree, IsShown, IsTrueClaim, problem_of, facts_of, is_legal_order, line_fault, unless, lines_verdict, facts_verdict, time_line_number}
use Rattle.s66_checker.specs.{bound_line_number, order_line_number, fact_line_number, tree_line_number, verdict}
use Rattle.s66_checker.specs.declared.verdict.Reason.TheVariants as fault
use Rattle.s66_checker.proofs.Faultless.{passed, is_legal_order-Decides}
use Rattle.s66_checker.proofs.DominatedLines.{ending-shows}
use Rattle.s66_checker.proofs.TreeClaims.{Pass, tree-shows}
use Rattle.s66_checker.proofs.TakenLines.{facts-yes}
use Rattle.s66_checker.proofs.LineClaims.{shown-by_lines}

unless-yes : (line : ℕ) (found : Option Reason) (later : Verdict) (time bound : ℕ) → (unless line found later ≡ Yes time bound) ↔ ((found ≡ None) × (later ≡ Yes time bound))
unless-yes line None later time bound = ((λ h. (refl, h)), λ h. h.1)
unless-yes line (Some reason) later time bound = ((λ h. absurd (cc)), λ h. absurd (cc))

lines-yes : (d : Document) (lines : List (List ℕ × Vertex Ending)) (line time bound : ℕ) → (lines_verdict d line lines ≡ Yes time bound) ↔ (Pass d lines × (time ≡ d.time) × (bound ≡ d.bound))
lines-yes d [] line time bound = ((λ h. (tt, (cc), (cc))), λ h. (cc))
lines-yes d (at ∷ lines) line time bound =
    let here = unless-yes line (line_fault d at.0 at.1) (lines_verdict d (suc line) lines) time bound in
    let later = lines-yes d lines (suc line) time bound in
    ((λ h. (let one = here.0 h in let two = later.0 one.1 in ((one.0, two.0), two.1, two.2))), λ h. here.1 (h.0.0, later.1 (h.0.1, h.1, h.2)))

-- what is looked at, one after the other
pub record IsGranted (d : Document) : Type 0 where
  pub order : IsLegal (problem_of d).block d.numbers
  pub total : total_of (problem_of d) d.numbers ≡ d.time
  pub within : d.bound ≤ d.time
  pub facts : AreTaken d
  pub lines : Pass d (tree_placed [] d.tree)

pub granted : (d : Document) (time bound : ℕ) → (verdict d ≡ Yes time bound) ↔ ((time ≡ d.time) × (bound ≡ d.bound) × IsGranted d)
granted d time bound =
    let b : Problem = problem_of d in
    let tree : Verdict = lines_verdict d (tree_line_number d) (tree_placed [] d.tree) in
    let lines : Verdict = facts_verdict d (fact_line_number d) 0 (premises_first b) (facts_of d) tree in
    let high : Bool = nat_lt d.time d.bound in
    let times : Bool = total_of b d.numbers == d.time in
    let legal : Bool = is_legal_order b.block d.numbers in
    let after_time : Verdict = cond high (No (bound_line_number d) fault.Bound) lines in
    let after_order : Verdict = cond (not times) (No (time_line_number d) fault.Time) after_time in
    let order = passed (not legal) (No (order_line_number d) fault.Order) after_order (Yes time bound) (λ h. (cc)) in
    let total = passed (not times) (No (time_line_number d) fault.Time) after_time (Yes time bound) (λ h. (cc)) in
    let within = passed high (No (bound_line_number d) fault.Bound) lines (Yes time bound) (λ h. (cc)) in
    let facts = facts-yes d (facts_of d) (fact_line_number d) 0 (premises_first b) tree time bound in
    let stated = lines-yes d (tree_placed [] d.tree) (tree_line_number d) time bound in
    let is_legal = is_legal_order-Decides b.block d.numbers in (
      (λ h. (let one = order.0 h in
          let two = total.0 one.1 in
          let three = within.0 two.1 in
          let four = facts.0 three.1 in
          let five = stated.0 four.2 in (
            five.1,
            five.2,
            record {
              order = is_legal.0 (not-false legal one.0);
              total = eqb-true (total_of b d.numbers) d.time (not-false times two.0);
              within = ltb-false d.time d.bound three.0;
              facts = record { each = four.0; closed = four.1 };
              lines = five.0;
            },
          ))),
      λ h. (let is = h.2 in
          order.1 (
            not_from_true legal (is_legal.1 is.order),
            total.1 (
              not_from_true times (eq-eqb (total_of b d.numbers) d.time is.total),
              within.1 (
                le-ltb d.time d.bound is.within,
                facts.1 (is.facts.each, is.facts.closed, stated.1 (is.lines, h.0, h.1)),
              ),
            ),
          )),
    )

-- WITHOUT FACT LINES

none-some_of : {X : Type 0} (test : X → Bool) (xs : List X) (x : X) → some_of test xs ≡ false → Among x xs → test x ≡ false
none-some_of test [] x none among = absurd among
none-some_of test (y ∷ xs) x none (inl here) = ap test here ∙ (or_parts (test y) (some_of test xs) none).0
none-some_of test (y ∷ xs) x none (inr later) = none-some_of test xs x (or_parts (test y) (some_of test xs) none).1 later

plain-tree : (limit : ℕ) (d : Document) → IsDocument limit d → d.facts ≡ None → Pass d (tree_placed [] d.tree) ↔ IsShown d None
plain-tree limit d is none =
    let leaves : HasItsLeaves d.rule None d.tree = subst (λ f. HasItsLeaves d.rule f d.tree) none is.leaves in
    tree-shows d (λ ending. is_factual (AtTerminal ending) ≡ false) (EndingShows d.rule (problem_of d) d.bound [] d.tree) (ending-shows d) limit d.tree is.tree
    (λ ending among. none-some_of is_factual (flat d.tree) (AtTerminal ending) leaves.1 among)

pub verdict-yes : (limit : ℕ) (d : Document) (time bound : ℕ) → IsDocument limit d → d.facts ≡ None → (verdict d ≡ Yes time bound) ↔ ((time ≡ d.time) × (bound ≡ d.bound) × IsTrueClaim d)
verdict-yes limit d time bound is none =
    let all = granted d time bound in
    let tree = plain-tree limit d is none in (
      (λ h. (let (same, equal, at) = all.0 h in
          (same, equal, record { legal = at.order; time = at.total; bound = at.within; tree = subst (IsShown d) (sym none) (tree.0 at.lines) }))),
      λ h. (let (same, equal, claim) = h in
          all.1 (
            same,
            equal,
            record {
              order = claim.legal;
              total = claim.time;
              within = claim.bound;
              facts = record { each = rw none refl; closed = rw none refl };
              lines = tree.1 (subst (IsShown d) none claim.tree);
            },
          )),
    )

-- WITH FACT LINES

lines-shown : (limit : ℕ) (d : Document) (steps : List FactStep) → IsDocument limit d → d.facts ≡ Some steps → IsGranted d → IsShown d (Some steps)
lines-shown limit d steps is some at =
    let b : Problem = problem_of d in
    let facts : AreFacts limit d.rule (Some steps) = subst (AreFacts limit d.rule) some is.facts in
    subst (λ f. ShowsByLines ClampedStanding b d.bound (shown_by_all b (premises_first b) (unwrap_or f [])) [] (line_tree d)) some
    (shown-by_lines d facts.0 at.facts
    ((tree-shows d (λ ending. Unit {0}) (λ at ending. IsBeginning b.block at × (line_fault d at (AtTerminal ending) ≡ None)) (λ at ending may begins. ((λ h. (begins, h)), λ h. h.1)) limit d.tree is.tree (λ ending among. tt)).0 at.lines))

-- a yes is true
pub verdict-claims : (limit : ℕ) (d : Document) (time bound : ℕ) → IsDocument limit d → verdict d ≡ Yes time bound → (time ≡ d.time) × (bound ≡ d.bound) × IsTrueClaim d
verdict-claims limit d time bound is h =
    let (same, equal, at) = (granted d time bound).0 h in
    (same, equal, record { legal = at.order; time = at.total; bound = at.within; tree = shown d.facts refl at })
  where
    shown : (facts : Option (List FactStep)) → d.facts ≡ facts → IsGranted d → IsShown d d.facts
    shown None none at = subst (IsShown d) (sym none) ((plain-tree limit d is none).0 at.lines)
    shown (Some steps) some at = subst (IsShown d) (sym some) (lines-shown limit d steps is some at)

-- and what is true is a bound
pub claim-bound : (d : Document) → IsTrueClaim d → IsBound (problem_of d) d.bound
claim-bound d claim order legal = below d.facts claim.tree
  where
    below : (facts : Option (List FactStep)) → IsShown d facts → d.bound ≤ total_of (problem_of d) order
    below None shown = shown-below d.rule (problem_of d) d.bound [] order d.tree shown legal
    below (Some steps) shown =
        lines-below ClampedStanding (problem_of d) d.bound (shown_by_all (problem_of d) (premises_first (problem_of d)) steps) [] order (line_tree d) shown legal
