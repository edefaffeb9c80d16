-- What a tree with dominated leaves shows is a lower bound, by any rule and whatever closes its other prefixes; a tree of leaves shows the same by each.
use Rattle.std.proofs.Common.{ℕ, zero, suc, ◌+◌, ◌≤◌, ◌<◌, ◌≡◌, ◌⊎◌, List, [], ◌∷◌, ◌++◌, length, refl, sym, ap, arith, inl, inr, subst, append_assoc, ◌∙◌, Bool, true, false, Option, Some, None}
use Rattle.s66_isa.specs.{Instr}
use Rattle.s66_isa.proofs.Lists.{cases_le}
use Rattle.s66_model.specs.{Rule, NoneNamed, WrittenEarlier, ClampedStanding, Problem, total_of, points_of, next, IsLegal, Completes, IsBeginning, IsOrder, Leaf, Siblings, NoMore, Unsplit, Split}
use Rattle.s66_model.specs.{Tree, Alone, Parted, Vertex, AtTerminal, AtSplit, SiblingsHold, TreeHolds, LeafShows, Shows, IsNoWorse, clamp_at, Ending, Bounding, Dominated, Factual, IsEarlier}
use Rattle.s66_model.specs.{is_standing, may_be_named, DominatesByRule, EndingShows, ShowsBy, siblings_bounding, tree_bounding, node_named, is_node}
use Rattle.s66_model.proofs.LegalOrders.{GoesOn-join, order-legal, legal-order}
use Rattle.s66_model.proofs.Remaining.{legal-parts}
use Rattle.s66_model.proofs.Trees.{leaf-sound}
use Rattle.s66_model.proofs.Dominating.{length-same, written-no-worse, clamped-no-worse}
use Rattle.s66_model.proofs.EarlierOrders.{HasEarlier, descent, earlier-append}
use Rattle.s66_model.proofs.UnderTrees.{split-find, tree-find}
use Rattle.s66_model.proofs.StandingNodes.{node-begins, stands, Standing, node-stands}

-- WHAT IS SAID AT AN UNSPLIT PREFIX, whatever closes it

-- no order through it takes less than low
abbrev pub IsShut : Problem → ℕ → List ℕ → Type 0
IsShut b low at = (rest : List ℕ) → IsBeginning b.block at → Completes b.block at rest → low ≤ total_of b (at ++ rest)

-- an order that takes less than low still does with the name in place of the prefix
abbrev pub StaysBelow : Problem → ℕ → (name at : List ℕ) → Type 0
StaysBelow b low name at =
    (rest : List ℕ) → IsLegal b.block (at ++ rest) → total_of b (at ++ rest) < low → IsLegal b.block (name ++ rest) × (total_of b (name ++ rest) < low)

-- which names the rule takes
abbrev pub IsTaken : Rule → (name at : List ℕ) → Type 0
IsTaken NoneNamed name at = ⊥
IsTaken WrittenEarlier name at = IsEarlier name at
IsTaken ClampedStanding name at = length name ≡ length at

abbrev pub may_name : {M : Type 0} → (M → Bool) → Rule → Option (Vertex M) → Bool
may_name closes NoneNamed vertex = false
may_name closes WrittenEarlier vertex = is_node vertex
may_name closes ClampedStanding vertex = stands closes vertex

-- a node is named there that stands for it below low
abbrev pub IsNamed : {M : Type 0} → (M → Bool) → Rule → Problem → ℕ → List ℕ → Tree M → List ℕ → Type 0
IsNamed closes rule b low prefix tree at =
    (name : List ℕ) × IsTaken rule name at × StaysBelow b low name at × (may_name closes rule (node_named prefix tree name) ≡ true)

pub whole-legal : (block : List Instr) (at rest : List ℕ) → IsBeginning block at → Completes block at rest → IsLegal block (at ++ rest)
whole-legal block at rest begins whole = order-legal block (at ++ rest) (GoesOn-join block [] at rest begins whole.0, whole.1)

module _ {M : Type 0} (closes : M → Bool) (b : Problem) (low : ℕ) (Q : List ℕ → M → Type 0) (prefix : List ℕ) (tree : Tree M) (shows : TreeHolds b.block Q prefix tree) where
  -- an order below low through a named prefix gives one through the name
  abbrev LeadsOn : Rule → (at rest : List ℕ) → Type 0
  LeadsOn rule at rest =
      (name : List ℕ) × IsTaken rule name at × (may_name closes rule (node_named prefix tree name) ≡ true) × IsLegal b.block (name ++ rest) × (total_of b (name ++ rest) < low)

  low-or-on : (rule : Rule) (at rest : List ℕ) → IsShut b low at ⊎ IsNamed closes rule b low prefix tree at → IsBeginning b.block at → Completes b.block at rest → (low ≤ total_of b (at ++ rest)) ⊎ LeadsOn rule at rest
  low-or-on rule at rest (inl shut) begins whole = inl (shut rest begins whole)
  low-or-on rule at rest (inr named) begins whole =
      elim (cases_le low (total_of b (at ++ rest))) [
        | inl le ↦ inl le
        | inr less ↦
            (let (name, taken, stays, found) = named in
            let (legal, still) = stays rest (whole-legal b.block at rest begins whole) less in
            inr (name, taken, found, legal, still))
      ]

  -- EARLIER NODES

  module _ (says : (at : List ℕ) (terminal : M) → Q at terminal → IsShut b low at ⊎ IsNamed closes WrittenEarlier b low prefix tree at) where
    earlier-step : (at : List ℕ) (terminal : M) (rest : List ℕ) → Q at terminal → IsBeginning b.block at → Completes b.block at rest → (low ≤ total_of b (at ++ rest)) ⊎ HasEarlier b low prefix (at ++ rest)
    earlier-step at terminal rest h begins whole =
        elim (low-or-on WrittenEarlier at rest (says at terminal h) begins whole) [
          | inl le ↦ inl le
          | inr (name, earlier, found, legal, less) ↦
              (let (path, is) = node-begins prefix tree name found in
              let same : name ++ rest ≡ prefix ++ (path ++ rest) = ap (λ x. x ++ rest) is ∙ append_assoc prefix path rest in
              inr (
                path ++ rest,
                subst (λ x. IsOrder b.block x) same (legal-order b.block (name ++ rest) legal),
                subst (λ x. total_of b x < low) same less,
                subst (λ x. IsEarlier x (at ++ rest)) same (earlier-append name at rest earlier),
              ))
        ]

    -- an order below low goes through a dominated leaf, and its node gives an earlier one
    earlier-below : (rest : List ℕ) → IsBeginning b.block prefix → IsOrder b.block (prefix ++ rest) → low ≤ total_of b (prefix ++ rest)
    earlier-below rest begins order =
        descent b low prefix (λ more whole. tree-find b Q (λ x. (low ≤ total_of b x) ⊎ HasEarlier b low prefix x) earlier-step prefix tree shows begins more (legal-parts b.block prefix more (order-legal b.block (prefix ++ more) whole)).1) rest order

  -- STANDING NODES

  module _ (says : (at : List ℕ) (terminal : M) → Q at terminal → IsShut b low at ⊎ IsNamed closes ClampedStanding b low prefix tree at) (shuts : (at : List ℕ) (terminal : M) → closes terminal ≡ true → Q at terminal → IsShut b low at) where
    abbrev AreLow : ℕ → Type 0
    AreLow fuel =
        (at rest : List ℕ) → length b.block ≤ length at + fuel → Standing closes Q b.block at → IsBeginning b.block at → Completes b.block at rest → low ≤ total_of b (at ++ rest)

    -- an unsplit prefix leads to a node as deep as itself
    ending-low : (fuel : ℕ) (at : List ℕ) (terminal : M) (rest : List ℕ) → AreLow fuel → length b.block ≤ length at + fuel → Q at terminal → IsBeginning b.block at → Completes b.block at rest → low ≤ total_of b (at ++ rest)
    ending-low fuel at terminal rest ih enough h begins whole =
        elim (low-or-on ClampedStanding at rest (says at terminal h) begins whole) [
          | inl le ↦ le
          | inr (name, deep, found, legal, less) ↦
              (let (goes, completes) = legal-parts b.block name rest legal in
              absurd (omega (arith, less, ih name rest (omega (arith, enough, deep)) (node-stands closes b.block Q prefix tree name shows found) goes completes)))
        ]

    -- so each order under a node that stands takes at least low
    standing-low : (fuel : ℕ) → AreLow fuel
    standing-low fuel at rest enough (inl closed) begins whole = shuts at closed.0 closed.1 closed.2 rest begins whole
    standing-low zero at rest enough (inr split) begins whole = absurd (omega (arith, split.2, enough))
    standing-low (suc fuel) at rest enough (inr split) begins whole =
        split-find b Q (λ x. low ≤ total_of b x) (length at) (λ under terminal more deep holds begins2 whole2. ending-low fuel under terminal more (standing-low fuel) (omega (arith, deep, enough)) holds begins2 whole2) at split.0 split.1 split.2 split.3 split.4 (omega arith) begins rest whole

    root-low : (t : Tree M) (rest : List ℕ) → TreeHolds b.block Q prefix t → IsBeginning b.block prefix → Completes b.block prefix rest → low ≤ total_of b (prefix ++ rest)
    root-low (Alone terminal) rest holds begins whole = ending-low (length b.block) prefix terminal rest (standing-low (length b.block)) (omega arith) holds begins whole
    root-low (Parted numbers siblings) rest holds begins whole = standing-low (length b.block) prefix rest (omega arith) (inr (numbers, siblings, holds.0, holds.1, holds.2)) begins whole

  -- WITHOUT NAMES

  module _ (says : (at : List ℕ) (terminal : M) → Q at terminal → IsShut b low at ⊎ IsNamed closes NoneNamed b low prefix tree at) where
    unnamed-step : (at : List ℕ) (terminal : M) (rest : List ℕ) → Q at terminal → IsBeginning b.block at → Completes b.block at rest → low ≤ total_of b (at ++ rest)
    unnamed-step at terminal rest h begins whole =
        elim (says at terminal h) [
          | inl shut ↦ shut rest begins whole
          | inr named ↦ absurd named.1
        ]

  -- BY ANY RULE: each unsplit prefix is shut or named, and what closes one shuts it

  pub shown-by : (rule : Rule) → ((at : List ℕ) (terminal : M) → Q at terminal → IsShut b low at ⊎ IsNamed closes rule b low prefix tree at) → ((at : List ℕ) (terminal : M) → closes terminal ≡ true → Q at terminal → IsShut b low at) → (rest : List ℕ) → IsLegal b.block (prefix ++ rest) → low ≤ total_of b (prefix ++ rest)
  shown-by NoneNamed says shuts rest legal =
      (let (begins, whole) = legal-parts b.block prefix rest legal in
      tree-find b Q (λ x. low ≤ total_of b x) (unnamed-step says) prefix tree shows begins rest whole)
  shown-by WrittenEarlier says shuts rest legal =
      earlier-below says rest (legal-parts b.block prefix rest legal).0 (legal-order b.block (prefix ++ rest) legal)
  shown-by ClampedStanding says shuts rest legal =
      (let (begins, whole) = legal-parts b.block prefix rest legal in root-low says shuts tree rest shows begins whole)

-- TREES WITH LEAVES

abbrev bounds : Ending → Bool
bounds ending = is_standing (Some (AtTerminal ending))

may-name : (rule : Rule) (vertex : Option (Vertex Ending)) → may_be_named rule vertex ≡ may_name bounds rule vertex
may-name NoneNamed vertex = refl
may-name WrittenEarlier vertex = refl
may-name ClampedStanding None = refl
may-name ClampedStanding (Some (AtSplit numbers)) = refl
may-name ClampedStanding (Some (AtTerminal ending)) = refl

pub leaf-shuts : (b : Problem) (low : ℕ) (at : List ℕ) (leaf : Leaf) → LeafShows b low at leaf → IsShut b low at
leaf-shuts b low at leaf h rest begins whole = omega (arith, leaf-sound b at rest leaf begins whole h.0, h.1)

-- what is no worse stays below each time
still_below : (b : Problem) (low : ℕ) (name at : List ℕ) → IsNoWorse b name at → StaysBelow b low name at
still_below b low name at no_worse rest legal less = (let (after, le) = no_worse rest legal in (after, omega (arith, le, less)))

pub rule-takes : (rule : Rule) (b : Problem) (low : ℕ) (name at : List ℕ) → DominatesByRule rule b name at → IsTaken rule name at × StaysBelow b low name at
rule-takes NoneNamed b low name at h = absurd h
rule-takes WrittenEarlier b low name at h = (h.1, still_below b low name at (written-no-worse b name at h.2))
rule-takes ClampedStanding b low name at h =
    (length-same b (clamp_at (next (points_of b at))) name at h.1, still_below b low name at (clamped-no-worse b name at h.1))

module _ (rule : Rule) (b : Problem) (low : ℕ) (prefix : List ℕ) (tree : Tree Ending) where
  ending-says : (at : List ℕ) (ending : Ending) → EndingShows rule b low prefix tree at ending → IsShut b low at ⊎ IsNamed bounds rule b low prefix tree at
  ending-says at (Bounding leaf) h = inl (leaf-shuts b low at leaf h)
  ending-says at (Dominated name) h =
      (let (taken, stays) = rule-takes rule b low name at h.0 in inr (name, taken, stays, sym (may-name rule (node_named prefix tree name)) ∙ h.1))
  ending-says at (Factual leaf) h = absurd h

  ending-shuts : (at : List ℕ) (ending : Ending) → bounds ending ≡ true → EndingShows rule b low prefix tree at ending → IsShut b low at
  ending-shuts at (Bounding leaf) closed h = leaf-shuts b low at leaf h
  ending-shuts at (Dominated name) closed h = absurd cc
  ending-shuts at (Factual leaf) closed h = absurd h

pub shown-below : (rule : Rule) (b : Problem) (low : ℕ) (prefix rest : List ℕ) (tree : Tree Ending) → ShowsBy rule b low prefix tree → IsLegal b.block (prefix ++ rest) → low ≤ total_of b (prefix ++ rest)
shown-below rule b low prefix rest tree shows legal =
    shown-by bounds b low (EndingShows rule b low prefix tree) prefix tree shows rule (ending-says rule b low prefix tree) (ending-shuts rule b low prefix tree) rest legal

-- WITHOUT DOMINATED LEAVES

module _ (rule : Rule) (b : Problem) (low : ℕ) (prefix : List ℕ) (tree : Tree Ending) where
  siblings-bounding : (siblings : Siblings Leaf) (at ns : List ℕ) → SiblingsHold b.block (LeafShows b low) at ns siblings → SiblingsHold b.block (EndingShows rule b low prefix tree) at ns (siblings_bounding siblings)
  siblings-bounding NoMore at [] h = tt
  siblings-bounding NoMore at (n ∷ ns) h = absurd h
  siblings-bounding (Unsplit leaf siblings) at [] h = absurd h
  siblings-bounding (Unsplit leaf siblings) at (n ∷ ns) h = (h.0, siblings-bounding siblings at ns h.1)
  siblings-bounding (Split numbers sub siblings) at [] h = absurd h
  siblings-bounding (Split numbers sub siblings) at (n ∷ ns) h = (h.0, h.1, siblings-bounding sub (at ++ n ∷ []) numbers h.2, siblings-bounding siblings at ns h.3)

  bounding-siblings : (siblings : Siblings Leaf) (at ns : List ℕ) → SiblingsHold b.block (EndingShows rule b low prefix tree) at ns (siblings_bounding siblings) → SiblingsHold b.block (LeafShows b low) at ns siblings
  bounding-siblings NoMore at [] h = tt
  bounding-siblings NoMore at (n ∷ ns) h = absurd h
  bounding-siblings (Unsplit leaf siblings) at [] h = absurd h
  bounding-siblings (Unsplit leaf siblings) at (n ∷ ns) h = (h.0, bounding-siblings siblings at ns h.1)
  bounding-siblings (Split numbers sub siblings) at [] h = absurd h
  bounding-siblings (Split numbers sub siblings) at (n ∷ ns) h = (h.0, h.1, bounding-siblings sub (at ++ n ∷ []) numbers h.2, bounding-siblings siblings at ns h.3)

pub tree-bounding : (rule : Rule) (b : Problem) (low : ℕ) (prefix : List ℕ) (tree : Tree Leaf) → Shows b low prefix tree → ShowsBy rule b low prefix (tree_bounding tree)
tree-bounding rule b low prefix (Alone leaf) h = h
tree-bounding rule b low prefix (Parted numbers siblings) h = (h.0, h.1, siblings-bounding rule b low prefix (tree_bounding (Parted numbers siblings)) siblings prefix numbers h.2)

pub bounding-tree : (rule : Rule) (b : Problem) (low : ℕ) (prefix : List ℕ) (tree : Tree Leaf) → ShowsBy rule b low prefix (tree_bounding tree) → Shows b low prefix tree
bounding-tree rule b low prefix (Alone leaf) h = h
bounding-tree rule b low prefix (Parted numbers siblings) h = (h.0, h.1, bounding-siblings rule b low prefix (tree_bounding (Parted numbers siblings)) siblings prefix numbers h.2)
