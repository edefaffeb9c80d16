-- To be believed: the moments of an order, when each is, and how much later one comes at least than another (Reference Manual, central processor, functional units and reservation control).
use Rattle.std.specs.Prelude.{ℕ, ◌+◌, Bool, true, if◌then◌else◌, not, ◌&&◌, ◌==◌, List, [], Option, Some, None}
use Rattle.s66_isa.specs.{Reg, greatest, some_of, Row, Write, same_reg, same_kind, has_reg, memory_pair}
use Rattle.s66_model.specs.{Problem, Point, row_at, copies, done_at, point_of, points_of, total_of, is_remaining}
use Rattle.s66_moments.specs.declared.moment.Stage.{Stage}
use Rattle.s66_moments.specs.declared.moment.Stage.TheVariants.{Issue, Start, Done, Free}
use Rattle.s66_moments.specs.declared.moment.Moment.{Moment}
use Rattle.s66_moments.specs.declared.moment.Moment.TheVariants.{Origin, At, End}

-- MOMENTS: the origin, the stages of each instruction, and the end, which is the last result or free unit

abbrev pub stage_time : Stage → Point → ℕ
stage_time Issue p = p.issue
stage_time Start p = p.start
stage_time (Done x) p = done_at p x
stage_time Free p = p.free

-- of the point of this number, 0 if there is none; a legal order has one
abbrev pub time_at : ℕ → (Point → ℕ) → List Point → ℕ
time_at n f s = greatest (λ (p : Point). if n == p.number then f p else 0) s

abbrev pub time_of : Problem → List ℕ → Moment → ℕ
time_of b order Origin = 0
time_of b order (At n stage) = time_at n (stage_time stage) (points_of b order)
time_of b order End = total_of b order

abbrev pub writes : Row → Reg → Bool
writes r x = some_of (λ (w : Write). same_reg w.reg x) r.writes

-- only a result is done
abbrev pub has_stage : Row → Stage → Bool
has_stage r Issue = true
has_stage r Start = true
has_stage r (Done x) = writes r x
has_stage r Free = true

-- it is of an instruction of the block
abbrev pub is_moment : Problem → Moment → Bool
is_moment b Origin = true
is_moment b (At n stage) = is_remaining b.block [] n && has_stage (row_at b n) stage
is_moment b End = true

-- no sooner than if the instruction of this number came next
abbrev pub soonest : Problem → List ℕ → ℕ → Stage → ℕ
soonest b prefix n stage = stage_time stage (point_of b (points_of b prefix) n)

-- ARCS: how much later a moment comes at least than another, in minor cycles; None if nothing is said of the two

abbrev pub only_if : Bool → ℕ → Option ℕ
only_if test w = if test then Some w else None

-- how long the result in x takes
abbrev pub latency_to : Row → Reg → ℕ
latency_to r x = greatest (λ (w : Write). if same_reg w.reg x then w.latency else 0) r.writes

-- x is a result that comes from memory, which no unit holds
abbrev pub fetches : Row → Reg → Bool
fetches r x = some_of (λ (w : Write). same_reg w.reg x && not w.held) r.writes

-- of one instruction
abbrev pub own_arc : Row → Stage → Stage → Option ℕ
-- a unit starts when it has the instruction and its operands
own_arc r Issue Start = Some 0
-- it computes a result for its latency
own_arc r Start (Done x) = Some (latency_to r x)
-- it works for its time, and is free a minor cycle later
own_arc r Start Free = Some (r.hold + 1)
-- and a minor cycle after the last result that it holds
own_arc r (Done x) Free = only_if (not (fetches r x)) 1
own_arc r e f = None

-- of an instruction m, and of n, which stands after it
abbrev pub later_arc : Problem → Row → Row → Stage → Stage → Option ℕ
-- instructions issue in order, one parcel a minor cycle
later_arc b m n Issue Issue = Some m.parcels
-- first order of conflict: n doesn't issue while a register that it writes is still to be written
later_arc b m n (Done x) Issue = only_if (writes n x) 0
-- nor while the only unit of its kind is taken
later_arc b m n Free Issue = only_if (same_kind m.kind n.kind && copies b n.kind == 1) 0
-- second order: n doesn't start before its operands are there
later_arc b m n (Done x) Start = only_if (has_reg x n.reads) 0
-- nor before an earlier reference to memory, if one of the two is a store
later_arc b m n Start Start = only_if (memory_pair m.memory n.memory) 1
-- third order: n holds a result until the earlier readers of its register have started
later_arc b m n Start (Done x) = only_if (has_reg x m.reads) 1
later_arc b m n e f = None

-- if the two are of one instruction, or that of the first stands before that of the second
abbrev pub arc : Problem → Moment → Moment → Option ℕ
-- nothing comes before the origin
arc b Origin (At n f) = Some 0
arc b Origin End = Some 0
arc b (At m e) (At n f) = if m == n then own_arc (row_at b m) e f else later_arc b (row_at b m) (row_at b n) e f
-- no result and no unit comes after the end
arc b (At n (Done x)) End = Some 0
arc b (At n Free) End = Some 0
arc b e f = None
