-- The floor by its value: of the greatest leaves the first, without a look at those that come later.
use Rattle.std.proofs.Common.{ℕ, ◌≡◌, ◌≢◌, ◌≤◌, ◌<◌, List, [], ◌∷◌, length, get_or, refl, sym, ap, arith, inl, inr, ◌∙◌}
use Rattle.std.proofs.lemmas.Bool.{cases_lt}
use Rattle.s66_isa.specs.{Kind, all_kinds}
use Rattle.s66_isa.proofs.Lists.{le-greatest}
use Rattle.s66_model.specs.{Problem, IsBeginning, IsIncomplete, value, chain, load, longest_chain, first_greatest, floor, floor_value}
use Rattle.s66_model.specs.Leaves as leaves
use Rattle.s66_model.proofs.LongestChain.{longest-is_chain}
use Rattle.s66_model.proofs.Floors.{some-remains}
use Rattle.s66_model.proofs.FloorWalk.{leaves_from, first-replaced, first-kept, floor-first, floor-sorts}
use Rattle.s66_model.proofs.FloorParts.{value-first}
use Rattle.s66_line.proofs.OperationLaw.{among-at}

-- what is no less than the first greatest is it
first-stays : (f : leaves.Leaf → ℕ) (leaf : leaves.Leaf) (others : List leaves.Leaf) → f (first_greatest f leaf others) ≤ f leaf → first_greatest f leaf others ≡ leaf
first-stays f leaf [] le = refl
first-stays f leaf (other ∷ others) le =
    elim (cases_lt (f leaf) (f other)) [
      | inl lt ↦ absurd (omega (arith, lt, le, value-first f leaf (other ∷ others)))
      | inr past ↦ (let kept = first-kept f leaf other others past in kept ∙ first-stays f leaf others (omega (arith, ap f kept, le)))
    ]

-- no leaf before these has the value, which is the floor's
pub record IsToCome (b : Problem) (prefix : List ℕ) (most : ℕ) (others : List leaves.Leaf) : Type 0 where
  pub before : leaves.Leaf
  pub less : value b prefix before < most
  pub left : first_greatest (value b prefix) before others ≡ floor b prefix

module _ (b : Problem) (prefix : List ℕ) (most : ℕ) (is : most ≡ floor_value b prefix) where
  module _ (begins : IsBeginning b.block prefix) (short : IsIncomplete b.block prefix) where
    chain-value : value b prefix (leaves.Chain (longest_chain b prefix)) ≡ chain b prefix
    chain-value = (let (n, stays) = some-remains b.block prefix begins short in (longest-is_chain b prefix n stays).1)

    pub chain-met : chain b prefix ≡ most → leaves.Chain (longest_chain b prefix) ≡ floor b prefix
    chain-met met =
        let first = floor-first b prefix short in
        sym (first-stays (value b prefix) (leaves.Chain (longest_chain b prefix)) (leaves_from all_kinds) (omega (arith, ap (value b prefix) first, chain-value, met, is))) ∙ first

    pub chain-passed : chain b prefix ≢ most → IsToCome b prefix most (leaves_from all_kinds)
    chain-passed past = record {
      before = leaves.Chain (longest_chain b prefix);
      less = omega (arith, chain-value, past, is, floor-sorts b prefix begins short);
      left = floor-first b prefix short;
    }

    pub load-at_most : (i : ℕ) (d : Kind) → i < length all_kinds → load b prefix (get_or all_kinds i d) ≤ most
    load-at_most i d within =
        omega (arith, is, floor-sorts b prefix begins short, le-greatest (load b prefix) (get_or all_kinds i d) all_kinds (among-at all_kinds i d within))

  pub other-passed : (other : leaves.Leaf) (others : List leaves.Leaf) → IsToCome b prefix most (other ∷ others) → value b prefix other ≤ most → value b prefix other ≢ most → IsToCome b prefix most others
  other-passed other others h le past =
      elim (cases_lt (value b prefix h.before) (value b prefix other)) [
        | inl lt ↦ record {
          before = other;
          less = omega (arith, le, past);
          left = sym (first-replaced (value b prefix) h.before other others lt) ∙ h.left;
        }
        | inr kept ↦ record {
          before = h.before;
          less = h.less;
          left = sym (first-kept (value b prefix) h.before other others kept) ∙ h.left;
        }
      ]

  pub other-met : (other : leaves.Leaf) (others : List leaves.Leaf) → IsToCome b prefix most (other ∷ others) → value b prefix other ≡ most → other ≡ floor b prefix
  other-met other others h met =
      let left : first_greatest (value b prefix) other others ≡ floor b prefix = sym (first-replaced (value b prefix) h.before other others (omega (arith, h.less, met))) ∙ h.left in
      sym (first-stays (value b prefix) other others (omega (arith, ap (value b prefix) left, met, is))) ∙ left

  pub last-met : (other : leaves.Leaf) → IsToCome b prefix most (other ∷ []) → other ≡ floor b prefix
  last-met other h =
      elim (cases_lt (value b prefix h.before) (value b prefix other)) [
        | inl lt ↦ sym (first-replaced (value b prefix) h.before other [] lt) ∙ h.left
        | inr kept ↦ absurd (omega (arith, h.less, is, ap (value b prefix) (sym (first-kept (value b prefix) h.before other [] kept) ∙ h.left)))
      ]
