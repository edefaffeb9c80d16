-- Used by contracts within the crate alone: what is known after fact lines, and how they are refused.
use Rattle.std.specs.Prelude.{ℕ, ◌≡◌, ◌+◌, ◌||◌, Bool, true, false, Option, None, Some, List, [], ◌∷◌, nat_le}
use Rattle.s66_isa.specs.{Write}
use Rattle.s66_model.specs.{Point, done_at}
use Rattle.s66_moments.specs.{Moment, End, IsNumber, is_moment, tail, span, arcs_of, premises_first, are_steps_taken}
use Rattle.s66_facts.specs.{Times, AreTimes, times_at, Ground, known_of as known_in}
use Rattle.s66_cert.specs.{Document}
use Rattle.s66_checker.specs.declared.verdict.Verdict.{Verdict}
use Rattle.s66_checker.specs.declared.verdict.Verdict.TheVariants.{No}
use Rattle.s66_checker.specs.declared.verdict.Reason.TheVariants as fault
use Rattle.s66_checker.specs.Verdict.{problem_of, facts_of, premises_of, known_of, fact_line_number, facts_verdict}

-- all that is known of its block after its fact lines
pub record KnowsAll (d : Document) (g : Ground) : Type 0 where
  pub problem : g.problem ≡ problem_of d
  pub known : known_in g ≡ known_of d

-- each of its fact lines is taken, and no supposition is left open
pub record AreTaken (d : Document) : Type 0 where
  pub each : are_steps_taken (problem_of d) d.bound (premises_first (problem_of d)) (facts_of d) ≡ true
  pub closed : (premises_of d).supposed ≡ None

-- the line of this number is the first that isn't; or all are, and on this one the supposition began that is open
abbrev pub IsUntaken : Document → ℕ → Type 0
IsUntaken d line =
    (later : Verdict) → facts_verdict d (fact_line_number d) 0 (premises_first (problem_of d)) (facts_of d) later ≡ No line fault.Fact

-- the longest path from each moment to the end is what follows it
abbrev pub HasTails : Ground → Type 0
HasTails g =
    (e : Moment) → is_moment g.problem e ≡ true →
    span g.problem (arcs_of g.problem (known_in g)) e End ≡ Some (tail g.problem (arcs_of g.problem (known_in g)) e)

-- those of number n are the longest paths to the end
abbrev pub AreTails : Ground → List Times → Type 0
AreTails g times =
    (n : ℕ) → IsNumber g.problem n →
    AreTimes g.problem (λ e. span g.problem (arcs_of g.problem (known_in g)) e End) n (times_at times n)

-- a time, and the longest path from there if there is one, reach the bound
abbrev pub is_reached : ℕ → ℕ → Option ℕ → Bool
is_reached bound time None = false
is_reached bound time (Some path) = nat_le bound (time + path)

abbrev pub is_result_late : ℕ → Point → Times → List Write → Bool
is_result_late bound p t [] = false
is_result_late bound p t (v ∷ []) = is_reached bound (done_at p v.reg) t.first
is_result_late bound p t (v ∷ (w ∷ ws)) = is_reached bound (done_at p v.reg) t.first || is_reached bound (done_at p w.reg) t.second

-- of some moment
abbrev pub is_point_late : ℕ → Point → Times → List Write → Bool
is_point_late bound p t writes =
    is_reached bound p.issue t.issue || is_reached bound p.start t.start || is_reached bound p.free t.free
    || is_result_late bound p t writes
