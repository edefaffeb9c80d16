-- To be believed: fact lines as a certificate has them, what is known after some, longest paths by what is known, and the tests of lines and leaves by these paths.
--
-- `FORMATS.md`, "Fact lines" and "Leaves by facts", has the tests in words.
use Rattle.std.specs.Prelude.{ℕ, zero, suc, ◌+◌, ◌≡◌, ◌≤◌, Bool, true, false, if◌then◌else◌, not, ◌||◌, ◌&&◌, ◌==◌, max, List, [], ◌∷◌, ◌++◌, map, length, nat_le, nat_lt, get_or, Option, Some, None}
use Rattle.s66_isa.specs.{Kind, greatest, every, has, same_kind}
use Rattle.s66_model.specs.{Problem, row_at, copies, points_of, next, is_remaining, sum_remaining}
use Rattle.s66_moments.specs.declared.moment.Stage.{Stage}
use Rattle.s66_moments.specs.declared.moment.Stage.TheVariants.{Issue, Start, Done, Free}
use Rattle.s66_moments.specs.declared.moment.Moment.{Moment}
use Rattle.s66_moments.specs.declared.moment.Moment.TheVariants.{Origin, At, End}
use Rattle.s66_moments.specs.declared.fact_line.FactLine.{FactLine}
use Rattle.s66_moments.specs.declared.fact_line.FactLine.TheVariants.{Pair, Load}
use Rattle.s66_moments.specs.declared.fact_line.LoadLine.{LoadLine}
use Rattle.s66_moments.specs.declared.fact_line.KnownArc.{KnownArc}
use Rattle.s66_moments.specs.Moments.{is_moment, only_if, soonest}
use Rattle.s66_moments.specs.FactLines.{Use, Line, ForcedPair, LoadArc, use_time}
use Rattle.s66_moments.specs.Networks.{Network, network, precedes, moments_of, targets, most_arcs, same_moment, with_arc, with_pair, tail, soonest_path}

-- FACT LINES

-- what a load may come after: the origin, an issue or a start
abbrev pub is_front : Moment → Bool
is_front Origin = true
is_front (At n Issue) = true
is_front (At n Start) = true
is_front (At n (Done x)) = false
is_front (At n Free) = false
is_front End = false

-- and what it may come before: an issue, a start or the end
abbrev pub is_back : Moment → Bool
is_back Origin = false
is_back (At n Issue) = true
is_back (At n Start) = true
is_back (At n (Done x)) = false
is_back (At n Free) = false
is_back End = true

-- of an instruction of a block of at most limit
abbrev pub IsMomentWithin : ℕ → Moment → Type 0
IsMomentWithin limit Origin = Unit {0}
IsMomentWithin limit (At n stage) = (1 ≤ n) × (n ≤ limit)
IsMomentWithin limit End = Unit {0}

-- the moments of a load line
pub record IsAnchored (limit : ℕ) (line : LoadLine) : Type 0 where
  pub front : (is_front line.from ≡ true) × IsMomentWithin limit line.from
  pub back : (is_back line.to ≡ true) × IsMomentWithin limit line.to

-- all that its unit does for it
abbrev pub use_of : Problem → ℕ → Use
use_of b n = record { number = n; amount = (row_at b n).hold + 1 }

-- the kind of the first of these
abbrev pub kind_of_load : Problem → List ℕ → Kind
kind_of_load b ns = (row_at b (get_or ns 0 0)).kind

abbrev pub line_of : Problem → FactLine → Line
line_of b (Pair m n) = ForcedPair m n
line_of b (Load line) =
    LoadArc (kind_of_load b line.numbers.items) line.from line.to line.after line.wait (map (use_of b) line.numbers.items)

-- LONGEST PATHS: how much later a moment comes at least than another, None if no path leads there

abbrev pub later : Option ℕ → Option ℕ → Option ℕ
later None o = o
later (Some v) None = Some v
later (Some v) (Some w) = Some (max v w)

abbrev pub latest : {X : Type 0} → (X → Option ℕ) → List X → Option ℕ
latest f [] = None
latest f (x ∷ xs) = later (f x) (latest f xs)

-- one after the other
abbrev pub plus : Option ℕ → Option ℕ → Option ℕ
plus None o = None
plus (Some v) None = None
plus (Some v) (Some w) = Some (v + w)

-- by at most this many arcs
abbrev pub span_over : Problem → Network → ℕ → Moment → Moment → Option ℕ
span_over b arcs zero e f = only_if (same_moment e f) 0
span_over b arcs (suc more) e f =
    later (only_if (same_moment e f) 0) (latest (λ m. plus (arcs e m) (span_over b arcs more m f)) (targets b))

-- how much later f comes than e by the longest path of a network, `None` if no path leads there
abbrev pub span : Problem → Network → Moment → Moment → Option ℕ
span b arcs e f = span_over b arcs (most_arcs b) e f

-- there is a path, and the longest takes low at least
abbrev pub reaches : ℕ → Option ℕ → Bool
reaches low None = false
reaches low (Some w) = nat_le low w

-- WHAT IS KNOWN after lines

pub record Known : Type 0 where
  -- which number stands before which
  pub before : ℕ → ℕ → Bool
  -- the arcs of loads
  pub loads : List KnownArc

-- before the first line
abbrev pub known_first : Problem → Known
known_first b = record { before = precedes b.block; loads = [] }

abbrev pub with_line : Known → FactLine → Known
with_line known (Pair m n) = record { before = with_pair known.before m n; loads = known.loads }
with_line known (Load line) =
    record { before = known.before; loads = known.loads ++ record { from = line.from; wait = line.wait; to = line.to } ∷ [] }

abbrev pub with_loads : Network → List KnownArc → Network
with_loads arcs [] = arcs
with_loads arcs (load ∷ loads) = with_arc (with_loads arcs loads) load.from load.wait load.to

abbrev pub arcs_of : Problem → Known → Network
arcs_of b known = with_loads (network b known.before) known.loads

-- WHICH LINES ARE TAKEN

abbrev pub is_number : Problem → ℕ → Bool
is_number b n = nat_le 1 n && nat_le n (length b.block)

-- if n stood before m, m would issue after its parcels, too late for the bound
abbrev pub is_late_by_parcels : Problem → Network → ℕ → ℕ → ℕ → Bool
is_late_by_parcels b arcs bound m n =
    reaches bound (plus (plus (span b arcs Origin (At n Issue)) (Some (row_at b n).parcels)) (span b arcs (At m Issue) End))

-- or when it leaves the only unit of their kind
abbrev pub is_late_by_unit : Problem → Network → ℕ → ℕ → ℕ → Bool
is_late_by_unit b arcs bound m n =
    same_kind (row_at b n).kind (row_at b m).kind && copies b (row_at b m).kind == 1
    && reaches bound (plus (span b arcs Origin (At n Free)) (span b arcs (At m Issue) End))

-- m before n: n is not known to stand before m, and would come too late for m
abbrev pub is_pair_taken : Problem → ℕ → Known → ℕ → ℕ → Bool
is_pair_taken b bound known m n =
    not (m == n) && is_number b m && is_number b n && not (known.before n m)
    && (is_late_by_parcels b (arcs_of b known) bound m n || is_late_by_unit b (arcs_of b known) bound m n)

abbrev pub are_rising : List ℕ → Bool
are_rising [] = true
are_rising (n ∷ []) = true
are_rising (m ∷ (n ∷ ns)) = nat_lt m n && are_rising (n ∷ ns)

-- from the origin, to the end, or from a number to one that stands after it
abbrev pub leads_up : (ℕ → ℕ → Bool) → Moment → Moment → Bool
leads_up before (At m e) (At n f) = before m n
leads_up before e f = true

-- the use of n begins with this stage. It is not before the line says, and together with the time of all and what is left after this
-- stage shows the wait
abbrev pub is_used_from : Problem → Network → LoadLine → (time : ℕ) → Stage → ℕ → Bool
is_used_from b arcs line time stage n =
    reaches line.after (span b arcs line.from (At n stage))
    && reaches ((row_at b n).hold + 1 + line.wait) (plus (Some (line.after + time)) (span b arcs (At n stage) line.to))

-- its unit is of the kind, and is used from the issue or from the start on
abbrev pub is_used : Problem → Network → LoadLine → Kind → (time : ℕ) → ℕ → Bool
is_used b arcs line kind time n =
    is_number b n && same_kind (row_at b n).kind kind
    && (is_used_from b arcs line time Issue n || is_used_from b arcs line time Start n)

abbrev pub are_used : Problem → Network → LoadLine → Kind → Bool
are_used b arcs line kind =
    every (is_used b arcs line kind (use_time b kind (map (use_of b) line.numbers.items))) line.numbers.items

-- between moments that it may have
abbrev pub is_arc_up : Problem → (ℕ → ℕ → Bool) → Moment → Moment → Bool
is_arc_up b before e f = is_front e && is_moment b e && is_back f && is_moment b f && leads_up before e f

-- some numbers, each once
abbrev pub is_load_taken : Problem → Known → LoadLine → Bool
is_load_taken b known line =
    is_arc_up b known.before line.from line.to && nat_lt 0 (length line.numbers.items) && are_rising line.numbers.items
    && are_used b (arcs_of b known) line (kind_of_load b line.numbers.items)

abbrev pub is_taken : Problem → ℕ → Known → FactLine → Bool
is_taken b bound known (Pair m n) = is_pair_taken b bound known m n
is_taken b bound known (Load line) = is_load_taken b known line

-- all of these, one after the other
abbrev pub are_taken : Problem → ℕ → Known → List FactLine → Bool
are_taken b bound known [] = true
are_taken b bound known (line ∷ lines) = is_taken b bound known line && are_taken b bound (with_line known line) lines

abbrev pub known_after : Known → List FactLine → Known
known_after known [] = known
known_after known (line ∷ lines) = known_after (with_line known line) lines

-- WHICH LEAVES ARE RIGHT

-- E: if n came next after the prefix, the greatest of its moments, each with the longest path from there
abbrev pub next_value : Problem → Known → List ℕ → ℕ → ℕ
next_value b known prefix n = greatest (soonest_path b (arcs_of b known) prefix) (moments_of b n)

-- R: the prefix has n, and not m, which is known to stand before it
abbrev pub is_turned : Problem → Known → List ℕ → ℕ → ℕ → Bool
is_turned b known prefix m n = is_remaining b.block prefix m && is_number b n && has n prefix && known.before m n

-- L: some numbers of one kind remain. Units do all that these need of them from `after` on at the soonest; that, the time of all, and what
-- is left after any one of them take the bound

-- the use of n begins with this stage: not before `after`, if n came next
abbrev pub is_left_from : Problem → Known → List ℕ → (bound after time : ℕ) → Stage → ℕ → Bool
is_left_from b known prefix bound after time stage n =
    nat_le after (soonest b prefix n stage)
    && nat_le ((row_at b n).hold + 1 + bound) (after + time + tail b (arcs_of b known) (At n stage))

-- its unit is of the kind, and is used from the issue or from the start on
abbrev pub is_left : Problem → Known → List ℕ → Kind → (bound after time : ℕ) → ℕ → Bool
is_left b known prefix kind bound after time n =
    is_remaining b.block prefix n && same_kind (row_at b n).kind kind
    && (is_left_from b known prefix bound after time Issue n || is_left_from b known prefix bound after time Start n)

-- each once
abbrev pub is_loaded : Problem → Known → List ℕ → (bound after : ℕ) → List ℕ → Bool
is_loaded b known prefix bound after ns =
    nat_lt 0 (length ns) && are_rising ns
    && every (is_left b known prefix (kind_of_load b ns) bound after (use_time b (kind_of_load b ns) (map (use_of b) ns))) ns

-- what it says: the end comes the bound later than the origin, since units do that between
abbrev pub load_of : Problem → (bound after : ℕ) → List ℕ → Line
load_of b bound after ns = LoadArc (kind_of_load b ns) Origin End after bound (map (use_of b) ns)

-- WHEN A NUMBER THAT REMAINS COMES AT THE SOONEST

-- its slot, if all that remains and is known to stand before it comes next: one parcel a minor cycle
abbrev pub turn : Problem → Known → List ℕ → ℕ → ℕ
turn b known prefix n =
    next (points_of b prefix) + sum_remaining b.block prefix (λ m. if known.before m n then (row_at b m).parcels else 0)

-- no sooner than that, nor than if it came next
abbrev pub issue_at_least : Problem → Known → List ℕ → ℕ → ℕ
issue_at_least b known prefix n = max (soonest b prefix n Issue) (turn b known prefix n)

abbrev pub start_at_least : Problem → Known → List ℕ → ℕ → ℕ
start_at_least b known prefix n = max (soonest b prefix n Start) (turn b known prefix n)
