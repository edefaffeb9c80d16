-- Used by contracts within the crate alone: the two directions in which the longest paths are followed, from a moment on or back from one.
use Rattle.std.specs.Prelude.{ℕ, ◌+◌, ◌-◌, Bool, Option, length}
use Rattle.s66_moments.specs.{Moment, Origin, End, KnownArc, Network, place_by, span, is_front, is_back}
use Rattle.s66_facts.specs.declared.direction.Direction.{Direction}
use Rattle.s66_facts.specs.declared.direction.Direction.TheVariants.{Forward, Backward}
use Rattle.s66_facts.specs.Marked.{before_in}
use Rattle.s66_facts.specs.BlockGround.{Ground, ground_arcs}

-- the moment at which all paths begin
abbrev pub source : Direction → Moment
source Forward = Origin
source Backward = End

-- where paths are asked for to begin: there, at an issue or at a start
abbrev pub can_begin : Direction → Moment → Bool
can_begin Forward = is_front
can_begin Backward = is_back

-- the moment at which an arc begins in a direction, and that to which it leads
abbrev pub arc_start : Direction → KnownArc → Moment
arc_start Forward l = l.from
arc_start Backward l = l.to

abbrev pub arc_end : Direction → KnownArc → Moment
arc_end Forward l = l.to
arc_end Backward l = l.from

-- which number comes sooner
abbrev pub sooner : Direction → (ℕ → ℕ → Bool) → ℕ → ℕ → Bool
sooner Forward before = before
sooner Backward before = λ m n. before n m

-- how many numbers come sooner at most, and the number itself
abbrev pub rank : Direction → Ground → ℕ → ℕ
rank Forward g n = place_by g.problem (before_in g.marks) n
rank Backward g n = length g.problem.block + 1 - place_by g.problem (before_in g.marks) n

-- each arc turned
abbrev pub arcs_along : Direction → Network → Network
arcs_along Forward arcs = arcs
arcs_along Backward arcs = λ e f. arcs f e

-- the longest path from the first of two moments in the direction
abbrev pub span_along : Direction → Ground → Moment → Moment → Option ℕ
span_along Forward g e = λ m. span g.problem (ground_arcs g) e m
span_along Backward g e = λ m. span g.problem (ground_arcs g) m e
