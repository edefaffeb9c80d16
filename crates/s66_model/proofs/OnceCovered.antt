-- The prefixes of a piece that aren't split cover each legal order that begins with its own prefix once.
use Rattle.std.proofs.Common.{ℕ, zero, suc, ◌+◌, ◌≤◌, ◌<◌, ◌≡◌, Bool, true, false, cond, ◌&&◌, List, [], ◌∷◌, ◌++◌, length, refl, sym, ap, arith, inl, inr, leb, eqb, ◌∙◌, filter, subst, eqb-true}
use Rattle.std.proofs.Common.{eq-eqb, ne_eqb}
use Rattle.std.proofs.lemmas.Bool.{and_parts, and_left, and_right, and_cases, cases_Bool, cases_eq}
use Rattle.s66_isa.specs.{tally, rising}
use Rattle.s66_isa.proofs.Lists.{tally-append, tally-none, tally-same}
use Rattle.s66_model.specs.{Problem, IsLegal, IsIncomplete, is_ready, ready, GoesOn, Leaf, value, Tree, Alone, Parted, Siblings, NoMore, Unsplit, Split, SiblingsHold, TreeHolds, sibling_splits}
use Rattle.s66_model.specs.{splits, Bounding, Terminal, Carries, Frontier, Passed, Open, Closed, is_cut, state_of, sibling_nodes, root_state, new_nodes, begins, covers}
use Rattle.s66_model.proofs.LegalOrders.{legal-order, GoesOn-append, ready-parts}
use Rattle.s66_model.proofs.Remaining.{rest-first}

-- AN ORDER THAT BEGINS WITH A PREFIX

pub begins-rest : (prefix order : List ℕ) → begins prefix order ≡ true → (rest : List ℕ) × (order ≡ prefix ++ rest)
begins-rest [] order h = (order, refl)
begins-rest (n ∷ prefix) [] h = absurd cc
begins-rest (n ∷ prefix) (m ∷ ms) h =
    let parts = and_parts (eqb n m) (begins prefix ms) h in
    let (rest, e) = begins-rest prefix ms parts.1 in
    let same : n ≡ m = eqb-true n m parts.0 in
    (rest, cc)

pub and_true : (x : Bool) → (x && true) ≡ x
and_true true = refl
and_true false = refl

-- one number more, after the prefix
begins-next : (prefix : List ℕ) (n m : ℕ) (rest : List ℕ) → begins (prefix ++ n ∷ []) (prefix ++ m ∷ rest) ≡ eqb n m
begins-next [] n m rest = and_true (eqb n m)
begins-next (k ∷ prefix) n m rest = rw (eq-eqb k k refl) (begins-next prefix n m rest)

begins-not : (prefix more order : List ℕ) → begins prefix order ≡ false → begins (prefix ++ more) order ≡ false
begins-not [] more order h = absurd cc
begins-not (n ∷ prefix) more [] h = refl
begins-not (n ∷ prefix) more (m ∷ ms) h =
    elim (and_cases (eqb n m) (begins prefix ms) h) [
      | inl first ↦ and_left (eqb n m) (begins (prefix ++ more) ms) first
      | inr later ↦ and_right (eqb n m) (begins (prefix ++ more) ms) (begins-not prefix more ms later)
    ]

-- OF RISING NUMBERS THAT PASS, each is there once

rising-past : (test : ℕ → Bool) (m k low : ℕ) → m < low → tally (λ n. eqb n m) (filter test (rising k low)) ≡ 0
rising-past test m zero low h = refl
rising-past test m (suc k) low h =
    elim (cases_Bool (test low)) [
      | inl is ↦ rw (is, ne_eqb low m (omega arith), rising-past test m k (suc low) (omega arith)) refl
      | inr is ↦ rw (is, rising-past test m k (suc low) (omega arith)) refl
    ]

pub rising-once : (test : ℕ → Bool) (m k low : ℕ) → test m ≡ true → low ≤ m → m < low + k → tally (λ n. eqb n m) (filter test (rising k low)) ≡ 1
rising-once test m zero low passes h1 h2 = absurd (omega arith)
rising-once test m (suc k) low passes h1 h2 =
    elim (cases_eq low m) [
      | inl here ↦ (let is : test low ≡ true = rw here passes in rw (is, eq-eqb low m here, rising-past test m k (suc low) (omega arith)) refl)
      | inr past ↦
          elim (cases_Bool (test low)) [
            | inl is ↦ rw (is, ne_eqb low m past, rising-once test m k (suc low) passes (omega arith) (omega arith)) refl
            | inr is ↦ rw (is, rising-once test m k (suc low) passes (omega arith) (omega arith)) refl
          ]
    ]

-- ONCE

-- a node that is open or closed
uncut_either : (order at : List ℕ) (leaf : Leaf) (t : Bool) → covers order (record { prefix = at; state = cond t (Closed (Bounding leaf)) Open }) ≡ begins at order
uncut_either order at leaf true = refl
uncut_either order at leaf false = refl

module _ (b : Problem) (order : List ℕ) (legal : IsLegal b.block order) where
  ready-once_there : (prefix : List ℕ) → IsIncomplete b.block prefix → begins prefix order ≡ true → tally (λ n. begins (prefix ++ n ∷ []) order) (ready b.block prefix) ≡ cond (begins prefix order) 1 0
  ready-once_there prefix part is =
      let (rest, e) = begins-rest prefix order is in
      let (m, more, f) = rest-first b.block prefix rest part (ap length (sym e) ∙ legal.whole) in
      let whole : order ≡ prefix ++ m ∷ more = e ∙ ap (λ x. prefix ++ x) f in
      let goes : GoesOn b.block [] (prefix ++ m ∷ more) = subst (λ x. GoesOn b.block [] x) whole (legal-order b.block order legal).0 in
      let now : is_ready b.block prefix m ≡ true = (GoesOn-append b.block [] prefix (m ∷ more) goes).1.0 in
      let (low, high, new, met) = ready-parts b.block prefix m now in
      let same = tally-same (λ n. begins (prefix ++ n ∷ []) order) (λ n. eqb n m) (λ n. ap (begins (prefix ++ n ∷ [])) whole ∙ begins-next prefix n m more) (ready b.block prefix) in
      rw is (same ∙ rising-once (is_ready b.block prefix) m (length b.block) 1 now low (omega (arith, high)))

  -- an order that begins with an incomplete prefix goes on with exactly one of the ready numbers
  ready-once : (prefix : List ℕ) → IsIncomplete b.block prefix → tally (λ n. begins (prefix ++ n ∷ []) order) (ready b.block prefix) ≡ cond (begins prefix order) 1 0
  ready-once prefix part =
      elim (cases_Bool (begins prefix order)) [
        | inl is ↦ ready-once_there prefix part is
        | inr is ↦ rw (is, tally-none (λ n. begins (prefix ++ n ∷ []) order) (λ n. begins-not prefix (n ∷ []) order is) (ready b.block prefix)) refl
      ]

  uncut : (best : ℕ) (at : List ℕ) (terminal : Terminal) → covers order (record { prefix = at; state = state_of b best at terminal }) ≡ begins at order
  uncut best at (Carries leaf) = uncut_either order at leaf (leb best (value b at leaf))
  uncut best at Frontier = refl
  uncut best at (Passed name) = refl

  siblings-once : (best : ℕ) (Q : List ℕ → Terminal → Type 0) (siblings : Siblings Terminal) (prefix ns : List ℕ) → SiblingsHold b.block Q prefix ns siblings → tally (covers order) (sibling_nodes b best prefix ns siblings) ≡ tally (λ n. begins (prefix ++ n ∷ []) order) ns
  siblings-once best Q NoMore prefix [] holds = refl
  siblings-once best Q NoMore prefix (n ∷ ns) holds = absurd holds
  siblings-once best Q (Unsplit terminal siblings) prefix [] holds = refl
  siblings-once best Q (Unsplit terminal siblings) prefix (n ∷ ns) holds =
      rw (uncut best (prefix ++ n ∷ []) terminal) (omega (arith, siblings-once best Q siblings prefix ns holds.1))
  siblings-once best Q (Split numbers sub siblings) prefix [] holds = refl
  siblings-once best Q (Split numbers sub siblings) prefix (n ∷ ns) holds =
      let at = prefix ++ n ∷ [] in
      let below : tally (covers order) (sibling_nodes b best at numbers sub) ≡ tally (λ m. begins (at ++ m ∷ []) order) numbers = siblings-once best Q sub at numbers holds.2 in
      let one : tally (λ m. begins (at ++ m ∷ []) order) numbers ≡ cond (begins at order) 1 0 = rw holds.1 (ready-once at holds.0) in
      omega (arith, below, one, siblings-once best Q siblings prefix ns holds.3, tally-append (covers order) (sibling_nodes b best at numbers sub) (sibling_nodes b best prefix ns siblings))

  -- the root and the new nodes together cover an order that begins with the prefix once
  pub tree-once : (best : ℕ) (Q : List ℕ → Terminal → Type 0) (prefix : List ℕ) (tree : Tree Terminal) → TreeHolds b.block Q prefix tree → cond (covers order (record { prefix = prefix; state = root_state b best prefix tree })) 1 0 + tally (covers order) (new_nodes b best prefix tree) ≡ cond (begins prefix order) 1 0
  tree-once best Q prefix (Alone terminal) holds = rw (uncut best prefix terminal) (omega arith)
  tree-once best Q prefix (Parted numbers siblings) holds =
      let one : tally (λ m. begins (prefix ++ m ∷ []) order) numbers ≡ cond (begins prefix order) 1 0 = rw holds.1 (ready-once prefix holds.0) in
      omega (arith, one, siblings-once best Q siblings prefix numbers holds.2)

-- THE SPLIT NODES ARE THE SPLITS

cut_either : (at : List ℕ) (leaf : Leaf) (t : Bool) → is_cut (record { prefix = at; state = cond t (Closed (Bounding leaf)) Open }) ≡ false
cut_either at leaf true = refl
cut_either at leaf false = refl

pub cut_none : (b : Problem) (best : ℕ) (at : List ℕ) (terminal : Terminal) → is_cut (record { prefix = at; state = state_of b best at terminal }) ≡ false
cut_none b best at (Carries leaf) = cut_either at leaf (leb best (value b at leaf))
cut_none b best at Frontier = refl
cut_none b best at (Passed name) = refl

siblings-cut : (b : Problem) (best : ℕ) (Q : List ℕ → Terminal → Type 0) (siblings : Siblings Terminal) (prefix ns : List ℕ) → SiblingsHold b.block Q prefix ns siblings → tally is_cut (sibling_nodes b best prefix ns siblings) ≡ sibling_splits siblings
siblings-cut b best Q NoMore prefix [] holds = refl
siblings-cut b best Q NoMore prefix (n ∷ ns) holds = absurd holds
siblings-cut b best Q (Unsplit terminal siblings) prefix [] holds = absurd holds
siblings-cut b best Q (Unsplit terminal siblings) prefix (n ∷ ns) holds =
    rw (cut_none b best (prefix ++ n ∷ []) terminal) (omega (arith, siblings-cut b best Q siblings prefix ns holds.1))
siblings-cut b best Q (Split numbers sub siblings) prefix [] holds = absurd holds
siblings-cut b best Q (Split numbers sub siblings) prefix (n ∷ ns) holds =
    omega (arith, siblings-cut b best Q sub (prefix ++ n ∷ []) numbers holds.2, siblings-cut b best Q siblings prefix ns holds.3, tally-append is_cut (sibling_nodes b best (prefix ++ n ∷ []) numbers sub) (sibling_nodes b best prefix ns siblings))

pub tree-cut : (b : Problem) (best : ℕ) (Q : List ℕ → Terminal → Type 0) (prefix : List ℕ) (tree : Tree Terminal) → TreeHolds b.block Q prefix tree → cond (is_cut (record { prefix = prefix; state = root_state b best prefix tree })) 1 0 + tally is_cut (new_nodes b best prefix tree) ≡ splits tree
tree-cut b best Q prefix (Alone terminal) holds = rw (cut_none b best prefix terminal) (omega arith)
tree-cut b best Q prefix (Parted numbers siblings) holds = omega (arith, siblings-cut b best Q siblings prefix numbers holds.2)
