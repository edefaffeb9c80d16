-- Used by contracts within the crate alone: the times of all numbers, and which of them are right if those of all that comes sooner are, so that all are right once all numbers have theirs.
use Rattle.std.specs.Prelude.{ℕ, ◌+◌, ◌-◌, ◌≡◌, ◌≤◌, Bool, true, not, ◌||◌, ◌==◌, List}
use Rattle.s66_isa.specs.{Set, has, numbers_in}
use Rattle.s66_moments.specs.{Moment, IsNumber}
use Rattle.s66_facts.specs.declared.direction.Direction.{Direction}
use Rattle.s66_facts.specs.declared.direction.Direction.TheVariants.{Forward, Backward}
use Rattle.s66_facts.specs.declared.times.Times.{Times}
use Rattle.s66_facts.specs.Marked.{before_in}
use Rattle.s66_facts.specs.BlockGround.{Ground}
use Rattle.s66_facts.specs.Passes.{times_at, AreTimes}
use Rattle.s66_facts.specs.Directions.{sooner, rank, span_along}

-- the longest paths between a moment and those of each number
abbrev pub AreAll : Direction → Ground → Moment → List Times → Type 0
AreAll d g e times = (n : ℕ) → IsNumber g.problem n → AreTimes g.problem (span_along d g e) n (times_at times n)

-- these are the times of a number if those of all that comes sooner are right
abbrev pub IsStep : Direction → Ground → Moment → List Times → ℕ → Times → Type 0
IsStep d g e times n t =
    ((m : ℕ) → IsNumber g.problem m → sooner d (before_in g.marks) m n ≡ true → AreTimes g.problem (span_along d g e) m (times_at times m)) →
    AreTimes g.problem (span_along d g e) n t

-- so it is for each number that is marked
abbrev pub AreSettled : Direction → Ground → Moment → List Times → Set → Type 0
AreSettled d g e times settled = (n : ℕ) → IsNumber g.problem n → has n (numbers_in settled) ≡ true → IsStep d g e times n (times_at times n)

-- all that comes sooner is marked
abbrev pub IsReady : Direction → Ground → Set → ℕ → Type 0
IsReady d g done n = (m : ℕ) → IsNumber g.problem m → sooner d (before_in g.marks) m n ≡ true → has m (numbers_in done) ≡ true

-- all numbers are marked that have this rank at most; what comes sooner has a lesser one
abbrev pub IsMarkedUpTo : Direction → Ground → ℕ → Set → Type 0
IsMarkedUpTo d g h done = (n : ℕ) → IsNumber g.problem n → rank d g n ≤ h → has n (numbers_in done) ≡ true

-- the same numbers come sooner than k if m comes sooner than n too: k isn't n nor later, or is later than m already
abbrev pub keeps : (ℕ → ℕ → Bool) → ℕ → ℕ → ℕ → Bool
keeps before m n k = before m k || not (k == n || before n k)

-- of so many numbers the one that is looked at after so many others
abbrev pub nth_number : Direction → ℕ → ℕ → ℕ
nth_number Forward count position = position + 1
nth_number Backward count position = count - position
