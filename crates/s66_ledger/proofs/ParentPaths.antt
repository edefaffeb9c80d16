-- The prefix of a node, read up its parents number by number, and turned around.
use Rattle.std.proofs.Common.{ℕ, zero, suc, ◌+◌, ◌≤◌, ◌<◌, ◌≡◌, ◌≢◌, ◌↔◌, IsTrue, nat_eq, false, List, [], ◌∷◌, ◌++◌, length, take, get_or, refl, sym, ap, arith, ◌∙◌, length-append, eqb-true}
use Rattle.std.proofs.Common.{length-take}
use Rattle.std.proofs.lemmas.List.{take_more}
use Rattle.s66_node.specs.{Node}
use Rattle.s66_ledger.specs.{prefixes}
use Rattle.s66_ledger.proofs.NodePrefixes.{prefix-none}

pub push-same : (xs ys : List ℕ) (m n : ℕ) → xs ++ m ∷ [] ≡ ys ++ n ∷ [] → (xs ≡ ys) × (m ≡ n)
push-same [] [] m n e = (refl, cc)
push-same [] (y ∷ ys) m n e = absurd (omega (arith, ap length e, length-append ys (n ∷ [])))
push-same (x ∷ xs) [] m n e = absurd (omega (arith, ap length e, length-append xs (m ∷ [])))
push-same (x ∷ xs) (y ∷ ys) m n e =
    let first : x ≡ y = cc in
    let later : xs ++ m ∷ [] ≡ ys ++ n ∷ [] = cc in
    let (same, last) = push-same xs ys m n later in
    (cc, last)

never : {G : Type 0} → ¬ G → IsTrue false ↔ G
never f = ((λ h. absurd cc), (λ g. absurd (f g)))

-- ONE TURN: here is the node's prefix, above that of its parent; the node that is looked at has the first r numbers of the prefix
module _ (here above prefix : List ℕ) (number r : ℕ) (goal : Type 0) (so : goal ↔ (here ≡ take r prefix)) (is : here ≡ above ++ number ∷ []) where
  pub turn-none : r ≡ 0 → IsTrue false ↔ goal
  turn-none none =
      never (λ g.
      let e = sym is ∙ (so.0 g ∙ ap (λ k. take k prefix) none) in
      omega (arith, ap length e, length-append above (number ∷ [])))

  module _ (s z : ℕ) (next : r ≡ s + 1) (within : s < length prefix) where
    both : goal → (above ≡ take s prefix) × (number ≡ get_or prefix s z)
    both g = push-same above (take s prefix) number (get_or prefix s z) (sym is ∙ (so.0 g ∙ (ap (λ k. take k prefix) next ∙ take_more prefix s z within)))

    pub turn-not : number ≢ get_or prefix s z → IsTrue false ↔ goal
    turn-not ne = never (λ g. ne (both g).1)

pub turn-last : (xs : List Node) (i r : ℕ) (prefix : List ℕ) (goal : Type 0) → goal ↔ (get_or (prefixes xs) i [] ≡ take r prefix) → 0 < length xs → i ≡ 0 → r ≤ length prefix → IsTrue (nat_eq r 0) ↔ goal
turn-last xs i zero prefix goal so some first le =
    ((λ h. so.1 (ap (λ j. get_or (prefixes xs) j []) first ∙ prefix-none xs some)), (λ g. refl))
turn-last xs i (suc r) prefix goal so some first le =
    ((λ h. absurd (omega (arith, eqb-true (suc r) 0 h))), (λ g. absurd (omega (arith, ap length (sym (so.0 g) ∙ (ap (λ j. get_or (prefixes xs) j []) first ∙ prefix-none xs some)), length-take (suc r) prefix))))
