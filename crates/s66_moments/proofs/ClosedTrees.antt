-- What a tree with closings by lines and with dominated leaves shows is a lower bound, by any rule, and so is each time that is less.
use Rattle.std.proofs.Common.{ℕ, ◌≤◌, ◌<◌, ◌≡◌, ◌⊎◌, Bool, true, List, [], ◌∷◌, ◌++◌, refl, sym, arith, inl, inr, ◌∙◌, Option, Some}
use Rattle.s66_isa.proofs.Lists.{cases_le}
use Rattle.s66_model.specs.{Rule, NoneNamed, WrittenEarlier, ClampedStanding, Problem, total_of, IsLegal, Tree, Vertex, AtTerminal, node_named}
use Rattle.s66_model.proofs.Dominating.{set-length}
use Rattle.s66_model.proofs.DominatedTrees.{IsShut, StaysBelow, IsTaken, may_name, IsNamed, whole-legal, shown-by, leaf-shuts, rule-takes}
use Rattle.s66_moments.specs.{Fact, Begins, AreSo, Line, facts_after, LineEnding, AtLeaf, AtLines, DominatedBy, IsClosedByLines, is_closed, may_be_named, DominatesBelow, LineEndingShows, ShowsByLines}
use Rattle.s66_moments.proofs.FoundedLines.{too_late-none, lines-so}
use Rattle.s66_moments.proofs.InUse.{no_worse-below}

abbrev closes : LineEnding → Bool
closes ending = is_closed (Some (AtTerminal ending))

may-name : (rule : Rule) (vertex : Option (Vertex LineEnding)) → may_be_named rule vertex ≡ may_name closes rule vertex
may-name ClampedStanding (Some (AtTerminal ending)) = refl
may-name _ _ = refl

-- BY ANY RULE, and by facts that are so in each order below low

module _ (b : Problem) (low : ℕ) (known : List Fact) (so : (order : List ℕ) → IsLegal b.block order → total_of b order < low → AreSo b order known) where
  lines-shut : (at : List ℕ) (lines : List Line) → IsClosedByLines b low known at lines → IsShut b low at
  lines-shut at lines closed rest begins whole =
      elim (cases_le low (total_of b (at ++ rest))) [
        | inl le ↦ le
        | inr less ↦
            let legal : IsLegal b.block (at ++ rest) = whole-legal b.block at rest begins whole in
            let all : AreSo b (at ++ rest) (facts_after (Begins at ∷ known) lines) = lines-so b low (Begins at ∷ known) lines closed.0 (at ++ rest) legal less ((rest, refl), so (at ++ rest) legal less) in
            absurd (too_late-none b low (facts_after (Begins at ∷ known) lines) closed.1 (at ++ rest) legal less all)
      ]

  -- a standing node dominates in use, any other as without lines
  takes : (rule : Rule) (name at : List ℕ) → DominatesBelow rule b low known name at → IsTaken rule name at × StaysBelow b low name at
  takes NoneNamed name at h = absurd h
  takes WrittenEarlier name at h = rule-takes WrittenEarlier b low name at h
  takes ClampedStanding name at h =
      (set-length b.block name at h.1.same_set h.1.begins h.1.other_begins, λ rest legal less. no_worse-below b low known name at h.1 rest legal less (so (at ++ rest) legal less))

  module _ (rule : Rule) (prefix : List ℕ) (tree : Tree LineEnding) where
    ending-says : (at : List ℕ) (ending : LineEnding) → LineEndingShows rule b low known prefix tree at ending → IsShut b low at ⊎ IsNamed closes rule b low prefix tree at
    ending-says at (AtLeaf leaf) h = inl (leaf-shuts b low at leaf h)
    ending-says at (AtLines lines) h = inl (lines-shut at lines h)
    ending-says at (DominatedBy name) h =
        (let (taken, stays) = takes rule name at h.0 in inr (name, taken, stays, sym (may-name rule (node_named prefix tree name)) ∙ h.1))

    ending-shuts : (at : List ℕ) (ending : LineEnding) → closes ending ≡ true → LineEndingShows rule b low known prefix tree at ending → IsShut b low at
    ending-shuts at (AtLeaf leaf) closed h = leaf-shuts b low at leaf h
    ending-shuts at (AtLines lines) closed h = lines-shut at lines h
    ending-shuts at (DominatedBy name) closed h = absurd cc

pub lines-below : (rule : Rule) (b : Problem) (low : ℕ) (lines : List Line) (prefix rest : List ℕ) (tree : Tree LineEnding) → ShowsByLines rule b low lines prefix tree → IsLegal b.block (prefix ++ rest) → low ≤ total_of b (prefix ++ rest)
lines-below rule b low lines prefix rest tree shows legal =
    let (time, le, all) = shows in
    let so : (order : List ℕ) → IsLegal b.block order → total_of b order < time → AreSo b order (facts_after [] lines) = λ order legal2 less. lines-so b time [] lines all.0 order legal2 less tt in
    let known : List Fact = facts_after [] lines in
    omega (arith, le, shown-by closes b time (LineEndingShows rule b time known prefix tree) prefix tree all.1 rule (ending-says b time known so rule prefix tree) (ending-shuts b time known so rule prefix tree) rest legal)

-- what shows a time shows each that is less
pub tree-lower : (rule : Rule) (b : Problem) (low other : ℕ) → other ≤ low → (lines : List Line) (prefix : List ℕ) (tree : Tree LineEnding) → ShowsByLines rule b low lines prefix tree → ShowsByLines rule b other lines prefix tree
tree-lower rule b low other less lines prefix tree shows = (let (time, le, all) = shows in (time, omega (arith, le, less), all))
