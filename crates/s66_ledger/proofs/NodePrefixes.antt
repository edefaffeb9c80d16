-- The prefixes of nodes: of one more node, of nodes with other states, and up to the parent.
use Rattle.std.proofs.Common.{ℕ, zero, suc, ◌+◌, ◌≤◌, ◌<◌, ◌≡◌, false, cond, List, [], ◌∷◌, ◌++◌, length, take, get_or, set, refl, sym, ap, arith, inl, inr, ◌∙◌, ltb, length-append, lt-ltb, ltb-true}
use Rattle.std.proofs.Common.{length-take}
use Rattle.std.proofs.lemmas.Bool.{cases_Bool}
use Rattle.s66_isa.proofs.Lists.{cases_le, get_or-past}
use Rattle.s66_node.specs.{Node, prefixes_from}
use Rattle.s66_node.proofs.Nodes.{get_or-front, get_or-last, prefixes_from-push, length-prefixes_from}
use Rattle.s66_ledger.specs.{prefixes, name_at, stored_at}

-- LISTS

-- what is in a list has no need of another
pub get_or-any : {X Y : Type 0} (xs : List X) (i : ℕ) (d e : X) (f : X → Y) → i < length xs → f (get_or xs i d) ≡ f (get_or xs i e)
get_or-any [] i d e f lt = absurd (omega arith)
get_or-any (x ∷ xs) zero d e f lt = refl
get_or-any (x ∷ xs) (suc i) d e f lt = get_or-any xs i d e f (omega arith)

-- ONE NODE MORE

pub prefixes-push : (xs : List Node) (x : Node) → 0 < length xs → prefixes (xs ++ x ∷ []) ≡ prefixes xs ++ (get_or (prefixes xs) x.parent [] ++ x.number ∷ []) ∷ []
prefixes-push [] x some = absurd (omega arith)
prefixes-push (y ∷ xs) x some = prefixes_from-push ([] ∷ []) xs x

pub length-prefixes : (xs : List Node) → length (prefixes xs) ≡ length xs
length-prefixes [] = refl
length-prefixes (x ∷ xs) = omega (arith, length-prefixes_from ([] ∷ []) xs)

pub push-front : (xs : List Node) (x : Node) (i : ℕ) → i < length xs → get_or (prefixes (xs ++ x ∷ [])) i [] ≡ get_or (prefixes xs) i []
push-front xs x i lt =
    ap (λ ats. get_or ats i []) (prefixes-push xs x (omega (arith, lt)))
    ∙ get_or-front (prefixes xs) (get_or (prefixes xs) x.parent [] ++ x.number ∷ []) i [] (omega (arith, lt, length-prefixes xs))

pub push-last : (xs : List Node) (x : Node) → 0 < length xs → get_or (prefixes (xs ++ x ∷ [])) (length xs) [] ≡ get_or (prefixes xs) x.parent [] ++ x.number ∷ []
push-last xs x some =
    let last = get_or (prefixes xs) x.parent [] ++ x.number ∷ [] in
    ap (λ ats. get_or ats (length xs) []) (prefixes-push xs x some)
    ∙ (ap (λ k. get_or (prefixes xs ++ last ∷ []) k []) (sym (length-prefixes xs)) ∙ get_or-last (prefixes xs) last [])

-- ANOTHER STATE

prefixes_from-set : (made : List (List ℕ)) (xs : List Node) (i : ℕ) (y d : Node) → y.parent ≡ (get_or xs i d).parent → y.number ≡ (get_or xs i d).number → prefixes_from made (set xs i y) ≡ prefixes_from made xs
prefixes_from-set made [] i y d e f = refl
prefixes_from-set made (x ∷ xs) zero y d e f = rw (e, f) refl
prefixes_from-set made (x ∷ xs) (suc i) y d e f = prefixes_from-set (made ++ (get_or made x.parent [] ++ x.number ∷ []) ∷ []) xs i y d e f

-- a node with its parent and its number has its prefix
pub prefixes-set : (xs : List Node) (i : ℕ) (y d : Node) → y.parent ≡ (get_or xs i d).parent → y.number ≡ (get_or xs i d).number → prefixes (set xs i y) ≡ prefixes xs
prefixes-set [] i y d e f = refl
prefixes-set (x ∷ xs) zero y d e f = refl
prefixes-set (x ∷ xs) (suc i) y d e f = prefixes_from-set ([] ∷ []) xs i y d e f

-- UP TO THE PARENT

-- the parent, if it comes before; else the root is taken for it
abbrev pub parent_at : ℕ → ℕ → ℕ
parent_at i p = cond (ltb p i) p 0

from-front : (made : List (List ℕ)) (xs : List Node) (i : ℕ) → i < length made → get_or (prefixes_from made xs) i [] ≡ get_or made i []
from-front made [] i lt = refl
from-front made (x ∷ xs) i lt =
    let more = made ++ (get_or made x.parent [] ++ x.number ∷ []) ∷ [] in
    from-front more xs i (omega (arith, length-append made ((get_or made x.parent [] ++ x.number ∷ []) ∷ []))) ∙ get_or-front made (get_or made x.parent [] ++ x.number ∷ []) i [] lt

not-below : (i p : ℕ) → i ≤ p → ltb p i ≡ false
not-below i p le = elim (cases_Bool (ltb p i)) [ inl is ↦ absurd (omega (arith, ltb-true p i is)) | inr is ↦ is ]

from-parent : (made : List (List ℕ)) (xs : List Node) (p : ℕ) → 0 < length made → get_or made 0 [] ≡ [] → get_or made p [] ≡ get_or (prefixes_from made xs) (parent_at (length made) p) []
from-parent made xs p some root =
    elim (cases_le (length made) p) [
      | inl le ↦ rw (not-below (length made) p le) (get_or-past made p [] le ∙ (sym root ∙ sym (from-front made xs 0 some)))
      | inr lt ↦ rw (lt-ltb p (length made) lt) (sym (from-front made xs p lt))
    ]

from-at : (made : List (List ℕ)) (xs : List Node) (i k : ℕ) (d : Node) → 0 < length made → get_or made 0 [] ≡ [] → i ≡ length made + k → k < length xs → get_or (prefixes_from made xs) i [] ≡ get_or (prefixes_from made xs) (parent_at i (get_or xs k d).parent) [] ++ (get_or xs k d).number ∷ []
from-at made [] i k d some root is lt = absurd (omega arith)
from-at made (x ∷ xs) i zero d some root is lt =
    let new = get_or made x.parent [] ++ x.number ∷ [] in
    let here : i ≡ length made = omega arith in
    let made2 = made ++ new ∷ [] in
    let long : length made < length made2 = omega (arith, length-append made (new ∷ [])) in
    ap (λ j. get_or (prefixes_from made2 xs) j []) here
    ∙ (from-front made2 xs (length made) long
    ∙ (get_or-last made new []
    ∙ (ap (λ y. y ++ x.number ∷ []) (from-parent made (x ∷ xs) x.parent some root)
    ∙ ap (λ j. get_or (prefixes_from made2 xs) (parent_at j x.parent) [] ++ x.number ∷ []) (sym here))))
from-at made (x ∷ xs) i (suc k) d some root is lt =
    let new = get_or made x.parent [] ++ x.number ∷ [] in
    let more : length (made ++ new ∷ []) ≡ length made + 1 = length-append made (new ∷ []) in
    from-at (made ++ new ∷ []) xs i k d (omega arith) (get_or-front made new 0 [] some ∙ root) (omega arith) (omega arith)

pub prefix-at : (xs : List Node) (i : ℕ) (d : Node) → 0 < i → i < length xs → get_or (prefixes xs) i [] ≡ get_or (prefixes xs) (parent_at i (get_or xs i d).parent) [] ++ (get_or xs i d).number ∷ []
prefix-at [] i d some lt = absurd (omega arith)
prefix-at (x ∷ xs) zero d some lt = absurd (omega arith)
prefix-at (x ∷ xs) (suc i) d some lt = from-at ([] ∷ []) xs (suc i) i d (omega arith) refl (omega arith) (omega arith)

module _ (xs : List Node) (i p : ℕ) (d : Node) (some : 0 < i) (within : i < length xs) (is : p ≡ (get_or xs i d).parent) where
  pub prefix-below : p < i → get_or (prefixes xs) i [] ≡ get_or (prefixes xs) p [] ++ (get_or xs i d).number ∷ []
  prefix-below lt =
      prefix-at xs i d some within
      ∙ (ap (λ q. get_or (prefixes xs) (parent_at i q) [] ++ (get_or xs i d).number ∷ []) (sym is)
      ∙ ap (λ b. get_or (prefixes xs) (cond b p 0) [] ++ (get_or xs i d).number ∷ []) (lt-ltb p i lt))

  pub prefix-root : i ≤ p → get_or (prefixes xs) i [] ≡ get_or (prefixes xs) 0 [] ++ (get_or xs i d).number ∷ []
  prefix-root le =
      prefix-at xs i d some within
      ∙ (ap (λ q. get_or (prefixes xs) (parent_at i q) [] ++ (get_or xs i d).number ∷ []) (sym is)
      ∙ ap (λ b. get_or (prefixes xs) (cond b p 0) [] ++ (get_or xs i d).number ∷ []) (not-below i p le))

pub prefix-none : (xs : List Node) → 0 < length xs → get_or (prefixes xs) 0 [] ≡ []
prefix-none [] some = absurd (omega arith)
prefix-none (x ∷ xs) some = from-front ([] ∷ []) xs 0 (omega arith)

-- a prefix that isn't the root's has a last number
pub prefix-last : (xs : List Node) (i : ℕ) (d : Node) → 0 < i → i < length xs → (above : List ℕ) × (get_or (prefixes xs) i [] ≡ above ++ (get_or xs i d).number ∷ [])
prefix-last xs i d some within = (get_or (prefixes xs) (parent_at i (get_or xs i d).parent) [], prefix-at xs i d some within)

-- NAMES

take-at : (ats : List (List ℕ)) (i k : ℕ) → k < i → get_or (take i ats) k [] ≡ get_or ats k []
take-at ats zero k lt = absurd (omega arith)
take-at [] (suc i) k lt = refl
take-at (a ∷ ats) (suc i) zero lt = refl
take-at (a ∷ ats) (suc i) (suc k) lt = take-at ats i k (omega arith)

-- a name is the prefix of a node before it, else the root's
pub name-node : (xs : List Node) (i : ℕ) → 0 < length xs → name_at xs i ≡ get_or (prefixes xs) (parent_at i (stored_at xs i).value) []
name-node xs i some =
    let v = (stored_at xs i).value in
    elim (cases_le i v) [
      | inl le ↦ rw (not-below i v le) (get_or-past (take i (prefixes xs)) v [] (omega (arith, le, length-take i (prefixes xs))) ∙ sym (prefix-none xs some))
      | inr lt ↦ rw (lt-ltb v i lt) (take-at (prefixes xs) i v lt)
    ]

module _ (xs : List Node) (i v : ℕ) (within : i < length xs) (is : v ≡ (stored_at xs i).value) where
  pub name-below : v < i → name_at xs i ≡ get_or (prefixes xs) v []
  name-below lt =
      name-node xs i (omega (arith, within))
      ∙ (ap (λ k. get_or (prefixes xs) (parent_at i k) []) (sym is) ∙ ap (λ t. get_or (prefixes xs) (cond t v 0) []) (lt-ltb v i lt))

  pub name-root : i ≤ v → name_at xs i ≡ get_or (prefixes xs) 0 []
  name-root le =
      name-node xs i (omega (arith, within))
      ∙ (ap (λ k. get_or (prefixes xs) (parent_at i k) []) (sym is) ∙ ap (λ t. get_or (prefixes xs) (cond t v 0) []) (not-below i v le))
