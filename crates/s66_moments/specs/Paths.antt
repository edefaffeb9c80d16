-- To be believed: paths from moment to moment, each step an arc of the table, a known fact, or what a prefix decides.
use Rattle.std.specs.Prelude.{ℕ, ◌+◌, ◌≡◌, ◌≤◌, ◌⊎◌, Bool, true, false, List, [], ◌∷◌, Some}
use Rattle.s66_isa.specs.{weigh, has, Among}
use Rattle.s66_model.specs.{Problem, total_of, depends, is_remaining}
use Rattle.s66_moments.specs.declared.moment.Moment.{Moment}
use Rattle.s66_moments.specs.declared.moment.Moment.TheVariants.{Origin, At, End}
use Rattle.s66_moments.specs.Moments.{time_of, is_moment, soonest, arc}
use Rattle.s66_moments.specs.Facts.{Fact, Arc, Before, Begins, IsNumber}

-- WHICH NUMBER STANDS BEFORE WHICH

-- a prefix has only the first
abbrev pub IsPlacedFirst : List ℕ → ℕ → ℕ → Type 0
IsPlacedFirst prefix m n = (has m prefix ≡ true) × (has n prefix ≡ false)

-- n depends on m, or m is known to stand before n, or a known prefix has only m
abbrev pub IsFirst : Problem → List Fact → ℕ → ℕ → Type 0
IsFirst b known m n =
    (depends b.block m n ≡ true) ⊎ (Among (Before m n) known ⊎ ((prefix : List ℕ) × Among (Begins prefix) known × IsPlacedFirst prefix m n))

-- by these numbers between
abbrev pub PrecedesBy : Problem → List Fact → ℕ → List ℕ → ℕ → Type 0
PrecedesBy b known m [] n = IsFirst b known m n × IsNumber b n
PrecedesBy b known m (k ∷ ks) n = IsFirst b known m k × IsNumber b k × PrecedesBy b known k ks n

-- m stands before n: by dependence, by what is known, by a prefix that has only m, or by others between
abbrev pub Precedes : Problem → List Fact → ℕ → ℕ → Type 0
Precedes b known m n = (between : List ℕ) × PrecedesBy b known m between n

-- STEPS

-- both are of one instruction, or that of the first stands before that of the second
abbrev pub IsInOrder : Problem → List Fact → Moment → Moment → Type 0
IsInOrder b known (At m e) (At n f) = (m ≡ n) ⊎ Precedes b known m n
IsInOrder b known e f = Unit {0}

-- when a moment is in an order that begins so, or at the soonest
abbrev pub IsAtPrefix : Problem → List ℕ → ℕ → Moment → Type 0
IsAtPrefix b prefix w Origin = ⊥
IsAtPrefix b prefix w (At n stage) =
    ((has n prefix ≡ true) × (w ≡ time_of b prefix (At n stage))) ⊎ ((is_remaining b.block prefix n ≡ true) × (w ≡ soonest b prefix n stage))
IsAtPrefix b prefix w End = w ≡ total_of b prefix

-- in an order that begins with a known prefix
abbrev pub IsDecided : Problem → List Fact → ℕ → Moment → Type 0
IsDecided b known w f = (prefix : List ℕ) × Among (Begins prefix) known × IsAtPrefix b prefix w f

-- f comes w later than e at least: by the table, by a known fact, or from the origin by a known prefix; a known prefix decides when its
-- numbers' moments are, `soonest` for what remains, and its total for the end
abbrev pub IsStep : Problem → List Fact → Moment → ℕ → Moment → Type 0
IsStep b known e w f =
    (IsInOrder b known e f × (is_moment b f ≡ true) × (arc b e f ≡ Some w))
    ⊎ (Among (Arc e w f 0) known ⊎ ((e ≡ Origin) × IsDecided b known w f))

-- PATHS

-- how long a step takes at least, and where it leads
pub record Hop : Type 0 where
  pub wait : ℕ
  pub to : Moment

-- steps of a kind, each from where the one before it leads
abbrev pub IsPath : (Moment → ℕ → Moment → Type 0) → Moment → List Hop → Moment → Type 0
IsPath Steps e [] f = e ≡ f
IsPath Steps e (hop ∷ hops) f = Steps e hop.wait hop.to × IsPath Steps hop.to hops f

abbrev pub waits : List Hop → ℕ
waits hops = weigh (λ (hop : Hop). hop.wait) hops

-- times of what is reached, by which each step from there leads to what is reached, and is kept
abbrev pub AreKept : (Moment → ℕ → Moment → Type 0) → (Moment → Bool) → (Moment → ℕ) → Type 0
AreKept Steps reached times = (e f : Moment) (w : ℕ) → Steps e w f → reached e ≡ true → (reached f ≡ true) × (times e + w ≤ times f)

-- some path from e to f takes as long
abbrev pub Leads : Problem → List Fact → Moment → ℕ → Moment → Type 0
Leads b known e w f = (hops : List Hop) × IsPath (IsStep b known) e hops f × (w ≤ waits hops)
