-- A line of a tree is without fault exactly when it shows the bound.
use Rattle.std.proofs.Common.{ℕ, ◌≤◌, ◌≡◌, ◌≢◌, ◌↔◌, Bool, true, false, true≢false, cond, not, ◌&&◌, List, [], ◌∷◌, ◌++◌, length, None, Some, bytes_eq, Decides, refl, sym, ap, arith, inl}
use Rattle.std.proofs.Common.{length-append, subst, ◌∙◌, eqb-true, eq-eqb, ne_eqb, ltb-false, le-ltb, nat_lt, ◌==◌}
use Rattle.std.proofs.lemmas.Bool.{not-true, not-false, not_from_true, not_from_false}
use Rattle.std.proofs.lemmas.Bool.Decides.{Decides-and, Decides-like}
use Rattle.std.proofs.lemmas.Slice.Eq.{bytes_eq-Decides}
use Rattle.s66_isa.specs.{Instr, Among}
use Rattle.s66_model.specs.{Problem, IsLegal, is_ready, is_remaining, ready, IsBeginning, IsIncomplete, Leaf, Whole, Chain, Load, Parcels, value, MayStand, IsWalk, IsChain, is_linked, LeafShows}
use Rattle.s66_model.specs.{AtSplit}
use Rattle.s66_model.proofs.LegalOrders.{order-legal, legal-order}
use Rattle.s66_model.proofs.Beginnings.{beginning-front}
use Rattle.s66_model.proofs.Remaining.{ready-among, step-begins}
use Rattle.s66_cert.specs.{Document}
use Rattle.s66_checker.specs.declared.verdict.Reason.TheVariants as fault
use Rattle.s66_checker.specs.{is_beginning_after, problem_of, is_legal_order, is_walk, has_links, is_complete, is_at_its_place, leaf_fault, line_fault}
use Rattle.s66_checker.proofs.GoingTo.{goes_on-Decides}

-- no fault if the test fails, and none after it
pub passed : {X : Type 0} (test : Bool) (fault later none : X) → (fault ≡ none → ⊥) → (cond test fault later ≡ none) ↔ ((test ≡ false) × (later ≡ none))
passed true fault later none other = ((λ h. absurd (other h)), λ h. absurd (true≢false h.0))
passed false fault later none other = ((λ h. (refl, h)), λ h. h.1)

-- LEGAL ORDERS

pub is_legal_order-Decides : (block : List Instr) (order : List ℕ) → Decides (is_legal_order block order) (IsLegal block order)
is_legal_order-Decides block order =
    Decides-like (is_legal_order block order) (order-legal block order) (legal-order block order)
    (Decides-and (is_beginning_after block [] order) (length order == length block) (goes_on-Decides block [] order) (eqb-true (length order) (length block), eq-eqb (length order) (length block)))

-- a beginning that isn't complete is shorter than the block
pub is_incomplete-Decides : (b : Problem) (prefix : List ℕ) → IsBeginning b.block prefix → Decides (not (is_complete b prefix)) (IsIncomplete b.block prefix)
is_incomplete-Decides b prefix begins = (
  (λ h. (let (rest, legal) = beginning-front b.block prefix begins in
      let past : length prefix ≢ length b.block = λ e. true≢false (sym (eq-eqb (length prefix) (length b.block) e) ∙ not-true (is_complete b prefix) h) in
      omega (arith, past, legal.whole, length-append prefix rest))),
  λ h. not_from_false (is_complete b prefix) (ne_eqb (length prefix) (length b.block) (λ e. absurd (omega (arith, h, e)))),
)

-- LEAVES

is_walk-Decides : (b : Problem) (prefix : List ℕ) (n : ℕ) (ns : List ℕ) → Decides (is_walk b prefix n ns) (IsWalk b prefix n ns)
is_walk-Decides b prefix n [] = ((λ h. h), λ h. h)
is_walk-Decides b prefix n (m ∷ ms) =
    Decides-like (is_walk b prefix n (m ∷ ms)) (λ h. (h.0.0, h.0.1, h.1)) (λ h. ((h.0, h.1), h.2))
    (Decides-and (is_remaining b.block prefix n && is_linked b n m) (is_walk b prefix m ms)
    (Decides-and (is_remaining b.block prefix n) (is_linked b n m) ((λ h. h), λ h. h) ((λ h. h), λ h. h)) (is_walk-Decides b prefix m ms))

chain-Decides : (b : Problem) (prefix numbers : List ℕ) → Decides (has_links b prefix (Chain numbers)) (IsChain b prefix numbers)
chain-Decides b prefix [] = ((λ h. absurd (true≢false (sym h))), λ h. absurd h)
chain-Decides b prefix (n ∷ ns) = is_walk-Decides b prefix n ns

stands : (b : Problem) (prefix : List ℕ) (leaf : Leaf) → IsBeginning b.block prefix → ((is_at_its_place b prefix leaf ≡ true) × (has_links b prefix leaf ≡ true)) ↔ MayStand b prefix leaf
stands b prefix Whole begins = ((λ h. eqb-true (length prefix) (length b.block) h.0), λ h. (eq-eqb (length prefix) (length b.block) h, refl))
stands b prefix (Chain numbers) begins =
    let short = is_incomplete-Decides b prefix begins in
    let links = chain-Decides b prefix numbers in
    ((λ h. (short.0 h.0, links.0 h.1)), λ h. (short.1 h.0, links.1 h.1))
stands b prefix (Load kind) begins = let short = is_incomplete-Decides b prefix begins in ((λ h. short.0 h.0), λ h. (short.1 h, refl))
stands b prefix Parcels begins = let short = is_incomplete-Decides b prefix begins in ((λ h. short.0 h.0), λ h. (short.1 h, refl))

pub leaf-shows : (b : Problem) (bound : ℕ) (prefix : List ℕ) (leaf : Leaf) → IsBeginning b.block prefix → (leaf_fault b bound prefix leaf ≡ None) ↔ LeafShows b bound prefix leaf
leaf-shows b bound prefix leaf begins =
    let place : Bool = is_at_its_place b prefix leaf in
    let links : Bool = has_links b prefix leaf in
    let low : Bool = nat_lt (value b prefix leaf) bound in
    let third = passed low (Some fault.Value) None None (λ h. (cc)) in
    let second = passed (not links) (Some fault.Chain) (cond low (Some fault.Value) None) None (λ h. (cc)) in
    let first = passed (not place) (Some fault.Place) (cond (not links) (Some fault.Chain) (cond low (Some fault.Value) None)) None (λ h. (cc)) in
    let may = stands b prefix leaf begins in (
      (λ h. (let one = first.0 h in
          let two = second.0 one.1 in
          let three = third.0 two.1 in
          (may.0 (not-false place one.0, not-false links two.0), ltb-false (value b prefix leaf) bound three.0))),
      λ h. (let here = may.1 h.0 in
          first.1 (not_from_true place here.0, second.1 (not_from_true links here.1, third.1 (le-ltb (value b prefix leaf) bound h.1, refl)))),
    )

-- SPLITS

pub split-shows : (d : Document) (prefix numbers : List ℕ) → (line_fault d prefix (AtSplit numbers) ≡ None) ↔ (numbers ≡ ready (problem_of d).block prefix)
split-shows d prefix numbers =
    let same = bytes_eq-Decides numbers (ready (problem_of d).block prefix) in
    ((λ h. same.0 (is (bytes_eq numbers (ready (problem_of d).block prefix)) h)), λ h. ap (λ t. cond t None (Some fault.Children)) (same.1 h))
  where
    is : (test : Bool) → cond test None (Some fault.Children) ≡ None → test ≡ true
    is true h = refl
    is false h = absurd (cc)

-- if some number is ready, the order goes on
pub ready-short : (b : Problem) (prefix numbers : List ℕ) → IsBeginning b.block prefix → numbers ≡ ready b.block prefix → 1 ≤ length numbers → IsIncomplete b.block prefix
ready-short b prefix [] begins e some = absurd (omega (arith, some))
ready-short b prefix (n ∷ ns) begins e some =
    let is : is_ready b.block prefix n ≡ true = ready-among b.block prefix n (subst (λ ms. Among n ms) e (inl refl)) in
    let (rest, legal) = beginning-front b.block (prefix ++ n ∷ []) (step-begins b.block prefix n begins is) in
    omega (arith, legal.whole, length-append (prefix ++ n ∷ []) rest, length-append prefix (n ∷ []))
