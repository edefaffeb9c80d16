-- Used by contracts within the crate alone: arcs of loads, found by the number of one of their moments: each number has a chain of places, the last one first.
use Rattle.std.specs.Prelude.{ℕ, zero, suc, ◌-◌, ◌≡◌, ◌≤◌, ◌<◌, ◌+◌, ◌⊎◌, ◌&&◌, Bool, true, List, [], ◌∷◌, ◌++◌, length, get_or, set, nat_le, Option, None}
use Rattle.s66_moments.specs.{Moment, Origin, At, End, KnownArc, same_moment, later, latest}
use Rattle.s66_facts.specs.declared.direction.Direction.{Direction}
use Rattle.s66_facts.specs.Passes.{by_arc}

-- of a moment, 0 if it has none
abbrev pub number_of : Moment → ℕ
number_of Origin = 0
number_of (At n s) = n
number_of End = 0

abbrev pub no_arc : KnownArc
no_arc = record { from = Origin; wait = 0; to = End }

-- the latest along a chain: by the arc at this place, counted from 1, and by those before it. Place 0 ends it
abbrev pub along : (KnownArc → Option ℕ) → List KnownArc → List ℕ → (fuel place : ℕ) → Option ℕ
along f arcs before zero place = None
along f arcs before (suc fuel) zero = None
along f arcs before (suc fuel) (suc i) = later (f (get_or arcs i no_arc)) (along f arcs before fuel (get_or before i 0))

-- an arc between the same moments, no shorter than another
abbrev pub is_as_long : KnownArc → KnownArc → Bool
is_as_long l other = same_moment l.from other.from && same_moment l.to other.to && nat_le other.wait l.wait

-- a chain has one, so that the other says nothing new
abbrev pub HasAsLong : List KnownArc → List ℕ → ℕ → KnownArc → Type 0
HasAsLong arcs before first other =
    (f : KnownArc → Option ℕ) → ((l : KnownArc) → is_as_long l other ≡ true → later (f l) (f other) ≡ f l) →
    later (along f arcs before first first) (f other) ≡ along f arcs before first first

-- places fall along chains
pub record IsFalling (arcs : List KnownArc) (before : List ℕ) : Type 0 where
  pub count : length before ≡ length arcs
  pub falls : (i : ℕ) → i < length before → get_or before i 0 ≤ i

-- with one more of number n, which its chain gets unless that has one as long
abbrev pub IsPushed : ℕ → List KnownArc → KnownArc → ℕ → (last before last2 before2 : List ℕ) → Type 0
IsPushed limit arcs other n last before last2 before2 =
    ((1 ≤ n → n ≤ limit → HasAsLong arcs before (get_or last (n - 1) 0) other) × (last2 ≡ last) × (before2 ≡ before ++ 0 ∷ []))
    ⊎ ((1 ≤ n) × (n ≤ limit) × (last2 ≡ set last (n - 1) (length arcs + 1)) × (before2 ≡ before ++ get_or last (n - 1) 0 ∷ []))

-- each number's chain gives what all arcs give that lead to its moments in a direction
pub record IsChained (limit : ℕ) (d : Direction) (arcs : List KnownArc) (last before : List ℕ) : Type 0 where
  pub size : limit ≤ length last
  pub falling : IsFalling arcs before
  pub fits : (n : ℕ) → 1 ≤ n → n ≤ limit → get_or last (n - 1) 0 ≤ length arcs
  pub whole : (time : Moment → Option ℕ) (e : Moment) → 1 ≤ number_of e → number_of e ≤ limit →
      along (by_arc d time e) arcs before (get_or last (number_of e - 1) 0) (get_or last (number_of e - 1) 0) ≡ latest (by_arc d time e) arcs
