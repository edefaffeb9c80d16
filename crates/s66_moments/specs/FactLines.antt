-- To be believed: lines that each give a fact of all legal orders that take less than a time, and on what they are founded: on what is known before them, and on that time.
use Rattle.std.specs.Prelude.{ℕ, ◌+◌, ◌≡◌, ◌≢◌, ◌≤◌, ◌⊎◌, true, List, [], ◌∷◌, map}
use Rattle.s66_isa.specs.{Kind, has, Among, same_kind}
use Rattle.s66_model.specs.{Problem, row_at, copies}
use Rattle.s66_moments.specs.declared.moment.Stage.{Stage}
use Rattle.s66_moments.specs.declared.moment.Stage.TheVariants.{Issue, Start, Free}
use Rattle.s66_moments.specs.declared.moment.Moment.{Moment}
use Rattle.s66_moments.specs.declared.moment.Moment.TheVariants.{Origin, At, End}
use Rattle.s66_moments.specs.Moments.{time_of}
use Rattle.s66_moments.specs.Facts.{Fact, Arc, Before, Begins, IsNumber, IsOnlyUnit, shared_time, AreOnce}
use Rattle.s66_moments.specs.Paths.{Precedes, Leads}

-- for how long the unit of a number is in use between two moments
pub record Use : Type 0 where
  pub number : ℕ
  pub amount : ℕ

pub data Line : Type 0 where
  -- the first number stands before the second, since the other way round the order takes low or more
  ForcedPair : ℕ → ℕ → Line
  -- the second moment comes a wait later than the first, since units of the kind are so used between, each at least so much after the first
  LoadArc : (kind : Kind) → (from to : Moment) → (after wait : ℕ) → List Use → Line
  -- the first number stands before the second, since no order that takes less than low has them the other way round
  Supposed : ℕ → ℕ → Line

abbrev pub fact_of : Line → Fact
fact_of (ForcedPair m n) = Before m n
fact_of (LoadArc kind from to after wait uses) = Arc from wait to 0
fact_of (Supposed m n) = Before m n

-- FORCED PAIRS: if n stood before m

-- m would issue after the parcels of n, too late
abbrev pub IsLateByParcels : Problem → ℕ → List Fact → ℕ → ℕ → Type 0
IsLateByParcels b low known n m =
    (h t : ℕ) × Leads b known Origin h (At n Issue) × Leads b known (At m Issue) t End × (low ≤ h + (row_at b n).parcels + t)

-- m would issue when n leaves the only unit, too late
abbrev pub IsLateByUnit : Problem → ℕ → List Fact → ℕ → ℕ → Type 0
IsLateByUnit b low known n m =
    (h t : ℕ) × IsOnlyUnit b n m × Leads b known Origin h (At n Free) × Leads b known (At m Issue) t End × (low ≤ h + t)

-- if n stood before m, m would issue after the parcels of n, or after n leaves the only unit of both, and so late that the order takes
-- low
abbrev pub IsForced : Problem → ℕ → List Fact → ℕ → ℕ → Type 0
IsForced b low known m n = (n ≢ m) × IsNumber b n × IsNumber b m × (IsLateByParcels b low known n m ⊎ IsLateByUnit b low known n m)

-- LOAD ARCS

-- what is used, shared by the copies of the kind
abbrev pub use_time : Problem → Kind → List Use → ℕ
use_time b kind uses = shared_time (λ (u : Use). u.amount) uses (copies b kind)

-- no longer than the instruction has the unit
abbrev pub IsHeld : Problem → Use → Type 0
IsHeld b u = u.amount ≤ (row_at b u.number).hold + 1

-- Each use begins `after` the first moment at the soonest. That, the time of all uses, and what is left from the end of any one of them
-- to the second moment make up the wait at least: `left` is from a moment of the use on, of which the amount may be part.

-- it begins with this stage
abbrev pub IsUsedFrom : Problem → List Fact → Moment → Moment → (after wait all : ℕ) → Stage → Use → Type 0
IsUsedFrom b known from to after wait all stage u =
    (left : ℕ) × IsHeld b u × Leads b known from after (At u.number stage) × Leads b known (At u.number stage) left to
    × (u.amount + wait ≤ after + all + left)

-- it begins with the start, and what is left counts from when its unit is free
abbrev pub IsUsedUntilFree : Problem → List Fact → Moment → Moment → (after wait all : ℕ) → Use → Type 0
IsUsedUntilFree b known from to after wait all u =
    (left : ℕ) × IsHeld b u × Leads b known from after (At u.number Start) × Leads b known (At u.number Free) left to
    × (wait ≤ after + all + left)

-- the number is placed, and the amount is what is left of its use from `after` on
abbrev pub IsUsedStill : Problem → List Fact → Moment → Moment → (after wait all : ℕ) → Use → Type 0
IsUsedStill b known from to after wait all u =
    (prefix : List ℕ) × (left : ℕ) × (from ≡ Origin) × Among (Begins prefix) known × (has u.number prefix ≡ true)
    × (time_of b prefix (At u.number Issue) ≤ after) × (after + u.amount ≤ time_of b prefix (At u.number Free))
    × Leads b known (At u.number Free) left to × (wait ≤ after + all + left)

abbrev pub IsBetween : Problem → List Fact → Moment → Moment → (after wait all : ℕ) → Use → Type 0
IsBetween b known from to after wait all u =
    IsUsedFrom b known from to after wait all Issue u ⊎ (IsUsedFrom b known from to after wait all Start u
    ⊎ (IsUsedUntilFree b known from to after wait all u ⊎ IsUsedStill b known from to after wait all u))

abbrev pub AreBetween : Problem → List Fact → Kind → Moment → Moment → (after wait all : ℕ) → List Use → Type 0
AreBetween b known kind from to after wait all [] = Unit {0}
AreBetween b known kind from to after wait all (u ∷ us) =
    IsNumber b u.number × (same_kind (row_at b u.number).kind kind ≡ true) × IsBetween b known from to after wait all u
    × AreBetween b known kind from to after wait all us

-- LINES, one after the other

-- by paths that are known, with nothing supposed: the pair is forced; or the load arc's uses are of one kind, none of one instruction twice, one at least, and each lies between
abbrev pub IsFoundedByPaths : Problem → ℕ → List Fact → Line → Type 0
IsFoundedByPaths b low known (ForcedPair m n) = IsForced b low known m n
IsFoundedByPaths b low known (LoadArc kind from to after wait []) = ⊥
IsFoundedByPaths b low known (LoadArc kind from to after wait (u ∷ us)) =
    AreOnce (map (λ (v : Use). v.number) (u ∷ us)) × AreBetween b known kind from to after wait (use_time b kind (u ∷ us)) (u ∷ us)
IsFoundedByPaths b low known (Supposed m n) = ⊥

-- what is known after lines, the newest first
abbrev pub facts_after : List Fact → List Line → List Fact
facts_after known [] = known
facts_after known (line ∷ lines) = facts_after (fact_of line ∷ known) lines

-- each line is founded in this way, on what is known before it
abbrev pub AreEach : (List Fact → Line → Type 0) → List Fact → List Line → Type 0
AreEach Is known [] = Unit {0}
AreEach Is known (line ∷ lines) = Is known line × AreEach Is (fact_of line ∷ known) lines

-- a path takes low, or a number stands before itself
abbrev pub IsTooLate : Problem → ℕ → List Fact → Type 0
IsTooLate b low known = Leads b known Origin low End ⊎ ((n : ℕ) × IsNumber b n × Precedes b known n n)

-- lines, each by paths, lead from there to what is too late: no order that takes less than low has what is known
abbrev pub IsRefuted : Problem → ℕ → List Fact → Type 0
IsRefuted b low known = (lines : List Line) × AreEach (IsFoundedByPaths b low) known lines × IsTooLate b low (facts_after known lines)

-- with n before m, what is known is refuted
abbrev pub IsSupposed : Problem → ℕ → List Fact → ℕ → ℕ → Type 0
IsSupposed b low known m n = (n ≢ m) × IsNumber b n × IsNumber b m × IsRefuted b low (Before n m ∷ known)

-- a pair since what is known is refuted with its second number before its first; any other line by paths
abbrev pub IsFounded : Problem → ℕ → List Fact → Line → Type 0
IsFounded b low known (Supposed m n) = IsSupposed b low known m n
IsFounded b low known line = IsFoundedByPaths b low known line

abbrev pub AreFounded : Problem → ℕ → List Fact → List Line → Type 0
AreFounded b low known lines = AreEach (IsFounded b low) known lines
