-- A dominated leaf is without fault exactly when the node that it names dominates, by the rule.
use Rattle.std.proofs.Common.{ℕ, ◌≡◌, ◌↔◌, Bool, true, false, true≢false, cond, not, List, [], None, Some, Decides, refl, sym}
use Rattle.std.proofs.lemmas.Bool.{not-true, not-false, not_from_true, not_from_false}
use Rattle.std.proofs.lemmas.Bool.Decides.{Decides-and}
use Rattle.s66_model.specs.{Rule, NoneNamed, WrittenEarlier, ClampedStanding, Problem, IsBeginning, IsIncomplete, HaveDigits, IsSameSet, node_named, Ending, Bounding, Dominated, Factual, may_be_named}
use Rattle.s66_model.specs.{DominatesByRule, MayBeDominated, EndingShows, AtTerminal}
use Rattle.s66_cert.specs.{Document, is_factual}
use Rattle.s66_checker.specs.declared.verdict.Reason.TheVariants as fault
use Rattle.s66_checker.specs.{dominates_by, problem_of, is_complete, is_early_enough, is_name, dominated_fault, line_fault}
use Rattle.s66_checker.proofs.GoingTo.{goes_on-Decides}
use Rattle.s66_checker.proofs.Faultless.{passed, is_incomplete-Decides, leaf-shows}
use Rattle.s66_checker.proofs.AheadOf.{same_set-Decides}
use Rattle.s66_checker.proofs.Earlier.{is_earlier-Decides}
use Rattle.s66_checker.proofs.DominanceTests.{written-Decides, clamped-Decides, document-digits}

-- BY A RULE

-- beside the beginnings and their set
by-rule : (rule : Rule) (b : Problem) (name at : List ℕ) → HaveDigits b.block → (IsIncomplete b.block at × (is_early_enough rule name at ≡ true) × (dominates_by rule b name at ≡ true)) ↔ DominatesByRule rule b name at
by-rule NoneNamed b name at digits = ((λ h. absurd (true≢false (sym h.2))), λ h. absurd h)
by-rule WrittenEarlier b name at digits =
    let earlier = is_earlier-Decides name at in
    let dominates = written-Decides b name at digits in
    ((λ h. (h.0, earlier.0 h.1, dominates.0 h.2)), λ h. (let (part, first, is) = h in (part, earlier.1 first, dominates.1 is)))
by-rule ClampedStanding b name at digits =
    let dominates = clamped-Decides b name at digits in
    ((λ h. (h.0, dominates.0 h.2)), λ h. (let (part, is) = h in (part, refl, dominates.1 is)))

-- a name that dominates is a beginning of the same set
named-by : (rule : Rule) (b : Problem) (name at : List ℕ) → DominatesByRule rule b name at → IsBeginning b.block name × IsSameSet name at
named-by NoneNamed b name at h = absurd h
named-by WrittenEarlier b name at h = let (part, first, is) = h in (is.0.other_begins, is.0.same_set)
named-by ClampedStanding b name at h = let (part, is) = h in (is.other_begins, is.same_set)

-- LINES

name-parts : (d : Document) (at name : List ℕ) →
    Decides (is_name d at name) ((((may_be_named d.rule (node_named [] d.tree name) ≡ true) × (is_early_enough d.rule name at ≡ true)) × IsBeginning (problem_of d).block name) × IsSameSet name at)
name-parts d at name =
    Decides-and _ _ (Decides-and _ _ (Decides-and _ _ ((λ h. h), λ h. h) ((λ h. h), λ h. h)) (goes_on-Decides (problem_of d).block [] name)) (same_set-Decides name at)

pub dominated-shows : (d : Document) (at name : List ℕ) → IsBeginning (problem_of d).block at → (dominated_fault d at name ≡ None) ↔ MayBeDominated d.rule (problem_of d) [] d.tree at name
dominated-shows d at name begins =
    let b : Problem = problem_of d in
    let complete : Bool = is_complete b at in
    let named : Bool = is_name d at name in
    let dominates : Bool = dominates_by d.rule b name at in
    let third = passed (not dominates) (Some fault.Dominance) None None (λ h. (cc)) in
    let second = passed (not named) (Some fault.Name) (cond (not dominates) (Some fault.Dominance) None) None (λ h. (cc)) in
    let first = passed complete (Some fault.Place) (cond (not named) (Some fault.Name) (cond (not dominates) (Some fault.Dominance) None)) None (λ h. (cc)) in
    let short = is_incomplete-Decides b at begins in
    let parts = name-parts d at name in
    let rule = by-rule d.rule b name at (document-digits d) in (
      (λ h. (let one = first.0 h in
          let two = second.0 one.1 in
          let three = third.0 two.1 in
          let is = parts.0 (not-false named two.0) in
          (rule.0 (short.0 (not_from_false complete one.0), is.0.0.1, not-false dominates three.0), is.0.0.0))),
      λ h. (let (shows, may) = h in
          let (part, side, is) = rule.1 shows in
          let (begin, same) = named-by d.rule b name at shows in
          first.1 (
            not-true complete (short.1 part),
            second.1 (not_from_true named (parts.1 (((may, side), begin), same)), third.1 (not_from_true dominates is, refl)),
          )),
    )

-- without fact lines no other ending may come
pub ending-shows : (d : Document) (at : List ℕ) (ending : Ending) → is_factual (AtTerminal ending) ≡ false → IsBeginning (problem_of d).block at → (line_fault d at (AtTerminal ending) ≡ None) ↔ EndingShows d.rule (problem_of d) d.bound [] d.tree at ending
ending-shows d at (Bounding leaf) may begins = leaf-shows (problem_of d) d.bound at leaf begins
ending-shows d at (Dominated name) may begins = dominated-shows d at name begins
ending-shows d at (Factual leaf) may begins = absurd (true≢false may)
