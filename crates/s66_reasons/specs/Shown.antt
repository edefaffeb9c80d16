-- To be believed: what the rows of a leaf show of the end of all orders that begin with its prefix, and what the numbers of a sentence are.
use Rattle.std.specs.Prelude.{ℕ, ◌+◌, ◌≡◌, ◌≤◌, ◌<◌, ◌⊎◌, true, ◌&&◌, ◌==◌, List, [], ◌∷◌, ◌++◌, codes, Option, None, Some}
use Rattle.s66_isa.specs.{Kind, Among, least, weigh, same_kind}
use Rattle.s66_model.specs.{Problem, copies, row_at, total_of, IsLegal, Leaf, Whole, Chain, Load, Parcels, AtTerminal, Ending}
use Rattle.s66_moments.specs.{Stage, Issue, Start, Free, Moment, Origin, At, End, soonest, time_of, Arc, Before, IsNumber, IsSo, Known, arcs_of, span, Supposition, Premises, Network}
use Rattle.s66_cert.specs.{Document, tree_placed}
use Rattle.s66_checker.specs.{problem_of}
use Rattle.s66_reasons.specs.declared.hop.Hop.{Hop}
use Rattle.s66_reasons.specs.LongestPaths.{arcs, hops_of, to_end}
use Rattle.s66_reasons.specs.FactWords.{by_parcels, by_unit, comes_words, pair_words, work_of_load}
use Rattle.s66_reasons.specs.Reasons.{left_row, next_rows}
use Rattle.s66_reasons.specs.Words.{Reason}

abbrev pub last_number : List Reason → ℕ
last_number [] = 0
last_number (r ∷ []) = r.number
last_number (r ∷ (q ∷ rs)) = last_number (q ∷ rs)

-- the end is no sooner than the last row says; by parcels, than one of them does
abbrev pub end_by : Leaf → List Reason → ℕ
end_by Whole rows = last_number rows
end_by (Chain ns) rows = last_number rows
end_by (Load kind) rows = last_number rows
end_by Parcels rows = least (λ (r : Reason). r.number) rows

-- no legal order that begins so takes less than a number, which reaches the bound
abbrev pub IsReachedAfter : Problem → List ℕ → (bound number : ℕ) → Type 0
IsReachedAfter b at bound number = (bound ≤ number) × ((rest : List ℕ) → IsLegal b.block (at ++ rest) → number ≤ total_of b (at ++ rest))

-- the leaf of this document at this prefix
abbrev pub IsLeafAt : Document → List ℕ → Ending → Type 0
IsLeafAt d at ending = Among (at, AtTerminal ending) (tree_placed [] d.tree)

-- BY A LONGEST PATH

-- arcs of the network, each from where the one before it leads
abbrev pub IsAlong : Network → Moment → List Hop → Moment → Type 0
IsAlong net e [] f = e ≡ f
IsAlong net e (hop ∷ hops) f = (net e hop.to ≡ Some hop.wait) × IsAlong net hop.to hops f

-- how long they take, one after the other
abbrev pub sum_of : List Hop → ℕ
sum_of hops = weigh (λ (hop : Hop). hop.wait) hops

-- rows of arcs of which the first begins at this number: of each arc one at its end, or none
abbrev pub AreRowsOf : (number : ℕ) → List Hop → List Reason → Type 0
AreRowsOf number [] rows = rows ≡ []
AreRowsOf number (hop ∷ hops) rows =
    (more : List Reason) × ((rows ≡ more) ⊎ ((r : Reason) × (r.number ≡ number + hop.wait) × (rows ≡ r ∷ more)))
    × AreRowsOf (number + hop.wait) hops more

-- The rows of n's path, after a first one at 0, are those of arcs that lead from its issue to the end, by what is known after the fact
-- lines. The last one says how long they take, one after the other, no path takes longer, and that reaches the bound.
pub record IsPathShown (d : Document) (bound n : ℕ) : Type 0 where
  pub leads : IsAlong (arcs d) (At n Issue) (hops_of d n) End
  pub rows : (first : Reason) × (more : List Reason) × (next_rows d n ≡ first ∷ more) × (first.number ≡ 0) × AreRowsOf 0 (hops_of d n) more
  pub adds_up : last_number (next_rows d n) ≡ sum_of (hops_of d n)
  pub longest : to_end d (At n Issue) ≡ Some (sum_of (hops_of d n))
  pub reaches : bound ≤ last_number (next_rows d n)

-- BY A LOAD

-- The row of a load reaches the bound. Each of its instructions needs a unit from a moment on, its issue or its start, that after the
-- prefix is no sooner than the row says; and from there the end is so much later that with all others in between it comes at the bound or later.
pub record IsLoadShown (d : Document) (at : List ℕ) (bound after : ℕ) (ns : List ℕ) : Type 0 where
  pub each : (n : ℕ) → Among n ns → (stage : Stage) × (t : ℕ) × ((stage ≡ Issue) ⊎ (stage ≡ Start)) ×
      (after ≤ soonest (problem_of d) at n stage) × (to_end d (At n stage) ≡ Some t) ×
      ((row_at (problem_of d) n).hold + 1 + d.bound ≤ after + (work_of_load (problem_of d) ns).time + t)
  pub reaches : bound ≤ (left_row d after ns).number

-- IN A FASTER ORDER

-- where rows begin with this number, no moment to which an arc leads is sooner than the number of its row
abbrev pub AreNoSooner : (times : Moment → ℕ) → (number : ℕ) → List Hop → Type 0
AreNoSooner times number [] = Unit {0}
AreNoSooner times number (hop ∷ hops) = (number + hop.wait ≤ times hop.to) × AreNoSooner times (number + hop.wait) hops

-- nor is the path's in any legal order that takes less than the bound of the document
abbrev pub HasNoneSooner : Document → ℕ → Type 0
HasNoneSooner d n =
    (order : List ℕ) → IsLegal (problem_of d).block order → total_of (problem_of d) order < d.bound →
    AreNoSooner (time_of (problem_of d) order) 0 (hops_of d n)

-- IN A SUPPOSITION

-- an order has what is known: pairs stand so, and no longest path between two moments is longer than the time between
pub record HasKnown (b : Problem) (known : Known) (order : List ℕ) : Type 0 where
  pub pairs : (m n : ℕ) → IsNumber b m → IsNumber b n → known.before m n ≡ true → IsSo b order (Before m n)
  pub paths : (e f : Moment) (wait : ℕ) → span b (arcs_of b known) e f ≡ Some wait → IsSo b order (Arc e wait f 0)

-- it has what is supposed, if something is
abbrev pub HasSupposed : Problem → Option Supposition → List ℕ → Type 0
HasSupposed b None order = Unit {0}
HasSupposed b (Some s) order = IsSo b order (Before s.second s.first)

-- each faster order that has what is supposed has what is known with it
abbrev pub HoldsIn : Document → Premises → Type 0
HoldsIn d premises =
    (order : List ℕ) → IsLegal (problem_of d).block order → total_of (problem_of d) order < d.bound → HasSupposed (problem_of d) premises.supposed order →
    HasKnown (problem_of d) premises.known order

-- no faster order has what is supposed
abbrev pub IsRefutedIn : Document → Premises → Type 0
IsRefutedIn d premises =
    (order : List ℕ) → IsLegal (problem_of d).block order → HasSupposed (problem_of d) premises.supposed order → d.bound ≤ total_of (problem_of d) order

-- WHAT IS SAID of a fact line

-- A longest path from the origin to a moment, a wait, and a longest path from a moment to the end: one after the other they take so long
-- that the bound is reached. Their sum is what a sentence ends in.
pub record AddUp (b : Problem) (arcs : Network) (bound : ℕ) (until : Moment) (soonest wait : ℕ) (from : Moment) (rest : ℕ) : Type 0 where
  pub longest : span b arcs Origin until ≡ Some soonest
  pub longest_rest : span b arcs from End ≡ Some rest
  pub reaches : bound ≤ soonest + wait + rest

-- m would issue after the parcels of n
abbrev pub IsByParcels : Document → Network → (m n : ℕ) → List ℕ → Type 0
IsByParcels d arcs m n text =
    let parcels : ℕ = (row_at (problem_of d) n).parcels in
    (soonest rest : ℕ) × AddUp (problem_of d) arcs d.bound (At n Issue) soonest parcels (At m Issue) rest
    × (text ≡ pair_words d m n ++ by_parcels soonest parcels rest m n)

-- or once n has left the only unit of their kind
abbrev pub IsByUnit : Document → Network → (m n : ℕ) → List ℕ → Type 0
IsByUnit d arcs m n text =
    let kind : Kind = (row_at (problem_of d) n).kind in
    (same_kind kind (row_at (problem_of d) m).kind && copies (problem_of d) (row_at (problem_of d) m).kind == 1 ≡ true) ×
    ((soonest rest : ℕ) × AddUp (problem_of d) arcs d.bound (At n Free) soonest 0 (At m Issue) rest
    × (text ≡ pair_words d m n ++ by_unit kind soonest rest m n))

-- what is said of a pair
abbrev pub IsPairShown : Document → Network → (m n : ℕ) → List ℕ → Type 0
IsPairShown d arcs m n text = IsByParcels d arcs m n text ⊎ IsByUnit d arcs m n text

-- of a supposition, to show that m stands before n: k issues or starts too late
abbrev pub IsThrough : Document → Network → (m n k : ℕ) → (stage : Stage) → (does : List ℕ) → List ℕ → Type 0
IsThrough d arcs m n k stage does text =
    (soonest rest : ℕ) × AddUp (problem_of d) arcs d.bound (At k stage) soonest 0 (At k stage) rest
    × (text ≡ pair_words d m n ++ (codes "if not, " ++ comes_words does soonest rest k))

abbrev pub IsThroughShown : Document → Network → (m n k : ℕ) → List ℕ → Type 0
IsThroughShown d arcs m n k text =
    IsThrough d arcs m n k Issue (codes " issues at ") text ⊎ IsThrough d arcs m n k Start (codes " starts at ") text
