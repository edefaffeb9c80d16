-- The children of a node, linked from the last made on (`Links::of`).
use Rattle.std.proofs.Common.{ℕ, zero, suc, ◌+◌, ◌≤◌, ◌<◌, ◌≡◌, ◌≢◌, Bool, true, false, cond, eqb, List, length, get_or, set, add-one, length-set, sym, ap, arith, inl, inr, ◌∙◌, eq-eqb, ne_eqb}
use Rattle.std.proofs.Common.{get_or-set_same, get_or-set_other}
use Rattle.std.proofs.lemmas.Bool.{cases_eq}
use Rattle.s66_node.specs.{Node}
use Rattle.s66_ledger.specs.{stored_at, parent_of, child_below, AreLinks, IsChild, HasChild}

pub child-before : (nodes : List Node) (parent k : ℕ) → 0 < k → child_below nodes parent k < k
child-before nodes parent zero some = absurd (omega (arith, some))
child-before nodes parent (suc zero) some = by (eqb (parent_of nodes 0) parent)
  where
    by : (b : Bool) → cond b 0 0 < 1
    by true = omega arith
    by false = omega arith
child-before nodes parent (suc (suc k)) some = by (eqb (parent_of nodes (suc k)) parent) (child-before nodes parent (suc k) (omega arith))
  where
    by : (b : Bool) → child_below nodes parent (suc k) < suc k → cond b (suc k) (child_below nodes parent (suc k)) < suc (suc k)
    by true lt = omega arith
    by false lt = omega (arith, lt)

-- none of its children below k comes after it
pub child-last : (nodes : List Node) (parent k c : ℕ) → c < k → parent_of nodes c ≡ parent → c ≤ child_below nodes parent k
child-last nodes parent zero c lt is = absurd (omega (arith, lt))
child-last nodes parent (suc k) c lt is =
    elim (cases_eq (parent_of nodes k) parent) [
      | inl e ↦ rw (eq-eqb (parent_of nodes k) parent e) (omega (arith, lt))
      | inr ne ↦ rw (ne_eqb (parent_of nodes k) parent ne) (elim (cases_eq c k) [
        | inl here ↦ absurd (ne (ap (parent_of nodes) (sym here) ∙ is))
        | inr apart ↦ child-last nodes parent k c (omega (arith, lt, apart)) is
      ])
    ]

pub child-parent : (nodes : List Node) (parent k : ℕ) → 0 < child_below nodes parent k → parent_of nodes (child_below nodes parent k) ≡ parent
child-parent nodes parent zero some = absurd (omega (arith, some))
child-parent nodes parent (suc k) some =
    elim (cases_eq (parent_of nodes k) parent) [
      | inl e ↦ rw (eq-eqb (parent_of nodes k) parent e) e
      | inr ne ↦ rw (ne_eqb (parent_of nodes k) parent ne) (child-parent nodes parent k (rw (ne_eqb (parent_of nodes k) parent ne) at some))
    ]

-- ONE NODE MORE

pub links-next : (nodes : List Node) (last before : List ℕ) (k p value : ℕ) → AreLinks nodes last before k → k < length nodes → p < length nodes → p ≡ parent_of nodes k → value ≡ get_or last p 0 →
    AreLinks nodes (set last p k) (set before k value) (k + 1)
links-next nodes last before k p value links within above is stated = record {
  last_child = last-child;
  sibling = sibling;
  lasts = length-set last p k ∙ links.lasts;
  siblings = length-set before k value ∙ links.siblings;
}
  where
    last-child : (i : ℕ) → i < length nodes → get_or (set last p k) i 0 ≡ child_below nodes i (k + 1)
    last-child i lt = rw add-one (elim (cases_eq (parent_of nodes k) i) [
      | inl e ↦ rw (eq-eqb (parent_of nodes k) i e) (ap (λ j. get_or (set last p k) j 0) (sym (is ∙ e)) ∙ get_or-set_same last p k 0 (omega (arith, links.lasts, above)))
      | inr ne ↦ rw (ne_eqb (parent_of nodes k) i ne) (get_or-set_other last p i k 0 (λ e. ne (sym is ∙ sym e)) ∙ links.last_child i lt)
    ])

    sibling : (j : ℕ) → j < k + 1 → get_or (set before k value) j 0 ≡ child_below nodes (parent_of nodes j) j
    sibling j lt = elim (cases_eq j k) [
      | inl e ↦ rw e (get_or-set_same before k value 0 (omega (arith, links.siblings, within)) ∙ (stated ∙ (links.last_child p above ∙ ap (λ q. child_below nodes q k) is)))
      | inr ne ↦ get_or-set_other before k j value 0 ne ∙ links.sibling j (omega (arith, lt, ne))
    ]

-- DOWN TO A CHILD

-- a child of this node, after which no other has this last number
pub record IsAtOrPast (nodes : List Node) (above last child : ℕ) : Type 0 where
  pub some : (has : HasChild nodes above last) → has.child ≤ child
  pub within : child < length nodes
  pub parent : parent_of nodes child ≡ above

pub last-past : (nodes : List Node) (lasts before : List ℕ) (above last child : ℕ) → AreLinks nodes lasts before (length nodes) → above < length nodes → HasChild nodes above last → child ≡ get_or lasts above 0 → IsAtOrPast nodes above last child
last-past nodes lasts before above last child links lt has stated =
    let is : child ≡ child_below nodes above (length nodes) = stated ∙ links.last_child above lt in
    let past : (other : HasChild nodes above last) → other.child ≤ child = λ other. omega (arith, is, child-last nodes above (length nodes) other.child other.is.within other.is.parent) in
    let some : 0 < child = omega (arith, past has, has.is.some) in
    record {
      some = past;
      within = omega (arith, is, child-before nodes above (length nodes) (omega (arith, lt)));
      parent = ap (parent_of nodes) is ∙ child-parent nodes above (length nodes) (omega (arith, some, is));
    }

module _ (nodes : List Node) (lasts before : List ℕ) (above last child next : ℕ) (links : AreLinks nodes lasts before (length nodes)) (has : HasChild nodes above last) (past : IsAtOrPast nodes above last child) where
  pub child-here : (stored_at nodes child).number ≡ last → IsChild nodes above last child
  child-here e = record { some = omega (arith, past.some has, has.is.some); within = past.within; parent = past.parent; number = e }

  module _ (ne : (stored_at nodes child).number ≢ last) (stated : next ≡ get_or before child 0) where
    is-below : next ≡ child_below nodes above child
    is-below = stated ∙ (links.sibling child past.within ∙ ap (λ p. child_below nodes p child) past.parent)

    others : (other : HasChild nodes above last) → other.child < child
    others other =
        let apart : other.child ≢ child = λ e. ne (ap (λ i. (stored_at nodes i).number) (sym e) ∙ other.is.number) in
        omega (arith, past.some other, apart)

    pub next-below : next < child
    next-below = omega (arith, is-below, child-before nodes above child (omega (arith, others has)))

    pub next-past : IsAtOrPast nodes above last next
    next-past =
        let earlier : (other : HasChild nodes above last) → other.child ≤ next = λ other. omega (arith, is-below, child-last nodes above child other.child (others other) other.is.parent) in
        record {
          some = earlier;
          within = omega (arith, next-below, past.within);
          parent = ap (parent_of nodes) is-below ∙ child-parent nodes above child (omega (arith, earlier has, has.is.some, is-below));
        }
