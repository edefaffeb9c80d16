-- To be believed: networks of arcs, and the greatest path through one, by what follows each moment, which is known before anything is placed.
use Rattle.std.specs.Prelude.{ℕ, zero, suc, ◌+◌, ◌-◌, ◌*◌, ◌≡◌, ◌≤◌, ◌<◌, Bool, true, false, if◌then◌else◌, ◌||◌, ◌&&◌, ◌==◌, max, List, [], ◌∷◌, ◌++◌, map, length, Option, Some, None, unwrap_or}
use Rattle.std.specs.Prelude.{is_some}
use Rattle.s66_isa.specs.{Instr, greatest, some_of, tally, Among, Write, same_reg, numbers}
use Rattle.s66_model.specs.{Problem, row_at, depends, is_remaining, remaining}
use Rattle.s66_moments.specs.declared.moment.Stage.{Stage}
use Rattle.s66_moments.specs.declared.moment.Stage.TheVariants.{Issue, Start, Done, Free}
use Rattle.s66_moments.specs.declared.moment.Moment.{Moment}
use Rattle.s66_moments.specs.declared.moment.Moment.TheVariants.{Origin, At, End}
use Rattle.s66_moments.specs.Moments.{is_moment, has_stage, soonest, own_arc, arc}
use Rattle.s66_moments.specs.Facts.{Fact, Arc, Follows, IsNumber}
use Rattle.s66_moments.specs.Paths.{Precedes, IsStep, Hop, IsPath}

-- NETWORKS: how much later each moment comes at least than each other, None where nothing is said

abbrev pub Network : Type 0
Network = Moment → Moment → Option ℕ

-- the arcs of the table, where a test tells which number stands before which
abbrev pub is_in_order : (ℕ → ℕ → Bool) → Moment → Moment → Bool
is_in_order before (At m e) (At n f) = m == n || before m n
is_in_order before e f = true

abbrev pub network : Problem → (ℕ → ℕ → Bool) → Network
network b before e f = if is_moment b e && is_moment b f && is_in_order before e f then arc b e f else None

-- n depends on m, or on what m precedes, over at most this many between the two
abbrev pub precedes_over : List Instr → ℕ → ℕ → ℕ → Bool
precedes_over block zero m n = depends block m n
precedes_over block (suc more) m n = depends block m n || some_of (λ k. precedes_over block more m k && depends block k n) (numbers block)

-- by dependence alone
abbrev pub precedes : List Instr → ℕ → ℕ → Bool
precedes block m n = precedes_over block (length block) m n

-- so it is known
abbrev pub IsKnown : Problem → List Fact → (ℕ → ℕ → Bool) → Type 0
IsKnown b known before = (m n : ℕ) → IsNumber b m → IsNumber b n → before m n ≡ true → Precedes b known m n

-- each arc is a step by what is known
abbrev pub AreSteps : Problem → List Fact → Network → Type 0
AreSteps b known arcs = (e f : Moment) (w : ℕ) → arcs e f ≡ Some w → IsStep b known e w f

-- each arc follows from what is known
abbrev pub AreArcs : Problem → ℕ → List Fact → Network → Type 0
AreArcs b low known arcs = (e f : Moment) (w : ℕ) → arcs e f ≡ Some w → Follows b low known (Arc e w f 0)

abbrev pub moments_of : Problem → ℕ → List Moment
moments_of b n = At n Issue ∷ At n Start ∷ At n Free ∷ map (λ (w : Write). At n (Done w.reg)) (row_at b n).writes

abbrev pub moments_among : Problem → List ℕ → List Moment
moments_among b [] = []
moments_among b (n ∷ ns) = moments_of b n ++ moments_among b ns

-- where an arc may lead
abbrev pub targets : Problem → List Moment
targets b = End ∷ moments_among b (numbers b.block)

-- no path has more arcs than this: four stages of each instruction, and the end
abbrev pub most_arcs : Problem → ℕ
most_arcs b = 4 * length b.block + 1

-- each arc leads to a target of a higher rank
abbrev pub RisesBy : Problem → Network → (Moment → ℕ) → Type 0
RisesBy b arcs rank = (e f : Moment) → is_some (arcs e f) ≡ true → Among f (targets b) × (rank e < rank f) × (rank f ≤ most_arcs b)

-- so no path is a ring
abbrev pub IsRising : Problem → Network → Type 0
IsRising b arcs = (rank : Moment → ℕ) × RisesBy b arcs rank

-- places of the numbers by which what stands before stands lower: so no number stands before itself
abbrev pub IsPlaced : Problem → (ℕ → ℕ → Bool) → (ℕ → ℕ) → Type 0
IsPlaced b before place =
    ((n : ℕ) → IsNumber b n → IsNumber b (place n)) × ((m n : ℕ) → IsNumber b m → IsNumber b n → before m n ≡ true → place m < place n)

-- the ranks that these places give: the stages of each instruction one above the other, between the origin and the end
abbrev pub stage_rank : Stage → ℕ
stage_rank Issue = 0
stage_rank Start = 1
stage_rank (Done x) = 2
stage_rank Free = 3

abbrev pub rank_by : Problem → (ℕ → ℕ) → Moment → ℕ
rank_by b place Origin = 0
rank_by b place (At n stage) = 4 * place n + stage_rank stage - 3
rank_by b place End = most_arcs b

-- no arc of an instruction is missing, or shorter than in the table
abbrev pub HasOwnArcs : Problem → Network → Type 0
HasOwnArcs b arcs =
    (n : ℕ) (e f : Stage) (w : ℕ) → is_moment b (At n e) ≡ true → is_moment b (At n f) ≡ true → own_arc (row_at b n) e f ≡ Some w →
    (v : ℕ) × (arcs (At n e) (At n f) ≡ Some v) × (w ≤ v)

-- MORE ARCS AND PAIRS

abbrev pub same_stage : Stage → Stage → Bool
same_stage Issue Issue = true
same_stage Start Start = true
same_stage (Done x) (Done y) = same_reg x y
same_stage Free Free = true
same_stage e f = false

abbrev pub same_moment : Moment → Moment → Bool
same_moment Origin Origin = true
same_moment (At m e) (At n f) = m == n && same_stage e f
same_moment End End = true
same_moment e f = false

-- and from e to f so much at least
abbrev pub with_arc : Network → Moment → ℕ → Moment → Network
with_arc arcs e w f m n = if same_moment m e && same_moment n f then Some (max w (unwrap_or (arcs e f) 0)) else arcs m n

-- j stands before k too, and so does all before j before all after k
abbrev pub with_pair : (ℕ → ℕ → Bool) → ℕ → ℕ → ℕ → ℕ → Bool
with_pair before j k m n = before m n || ((m == j || before m j) && (n == k || before k n))

-- what stands before what stands before a number, stands before it
abbrev pub IsTransitive : Problem → (ℕ → ℕ → Bool) → Type 0
IsTransitive b before =
    (m k n : ℕ) → IsNumber b m → IsNumber b k → IsNumber b n → before m k ≡ true → before k n ≡ true → before m n ≡ true

-- no number stands before itself
abbrev pub HasNoRing : Problem → (ℕ → ℕ → Bool) → Type 0
HasNoRing b before = (n : ℕ) → IsNumber b n → before n n ≡ false

-- a number's place by how many stand before it
abbrev pub place_by : Problem → (ℕ → ℕ → Bool) → ℕ → ℕ
place_by b before n = 1 + tally (λ m. before m n) (numbers b.block)

-- WHAT FOLLOWS A MOMENT

-- an arc from e to f, and what follows f; 0 if there is none
abbrev pub through : Network → (Moment → ℕ) → Moment → Moment → ℕ
through arcs after e f = if is_some (arcs e f) then unwrap_or (arcs e f) 0 + after f else 0

-- how much later the end comes at least than e, over at most this many arcs
abbrev pub tail_over : Problem → Network → ℕ → Moment → ℕ
tail_over b arcs zero e = 0
tail_over b arcs (suc more) e = greatest (through arcs (tail_over b arcs more) e) (targets b)

abbrev pub tail : Problem → Network → Moment → ℕ
tail b arcs e = tail_over b arcs (most_arcs b) e

-- THE GREATEST PATH of what remains after a prefix

-- a moment of an instruction that isn't placed
abbrev pub IsRemaining : Problem → List ℕ → ℕ → Stage → Type 0
IsRemaining b prefix n stage = (is_remaining b.block prefix n ≡ true) × (has_stage (row_at b n) stage ≡ true)

-- by arcs of the network alone
abbrev pub IsNetworkPath : Network → Moment → List Hop → Moment → Type 0
IsNetworkPath arcs e hops f = IsPath (λ m w n. arcs m n ≡ Some w) e hops f

abbrev pub soonest_path : Problem → Network → List ℕ → Moment → ℕ
soonest_path b arcs prefix (At n stage) = soonest b prefix n stage + tail b arcs (At n stage)
soonest_path b arcs prefix e = 0

abbrev pub greatest_path : Problem → Network → List ℕ → ℕ
greatest_path b arcs prefix = greatest (soonest_path b arcs prefix) (moments_among b (remaining b.block prefix))
