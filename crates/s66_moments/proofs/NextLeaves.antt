-- An unsplit prefix is closed if a moment, as if its instruction came next, and its tail reach the time, or if a known pair is turned.
use Rattle.std.proofs.Common.{ℕ, ◌+◌, ◌≤◌, ◌≡◌, true, List, [], ◌∷◌, ◌++◌, refl, sym, arith, inl, inr, subst, Some, eq-eqb, le-leb}
use Rattle.std.proofs.lemmas.Bool.{and_from}
use Rattle.s66_model.specs.{Problem, row_at, is_remaining}
use Rattle.s66_model.proofs.Remaining.{remaining-parts}
use Rattle.s66_moments.specs.{Stage, Issue, Start, Done, Free, Moment, Origin, At, End, is_moment, has_stage, soonest, own_arc, Fact, Begins, IsNumber, IsFirst, PrecedesBy, Precedes, IsPlacedFirst}
use Rattle.s66_moments.specs.{IsInOrder, IsStep, Hop, IsPath, waits, Leads, IsTooLate, Network, AreSteps, IsRemaining, IsNetworkPath, most_arcs, tail}
use Rattle.s66_moments.proofs.Tails.{tail-reached}
use Rattle.s66_moments.proofs.MoreArcs.{precedes-through}

-- WHAT IS KNOWN STAYS if more is

module _ (b : Problem) (known : List Fact) (fact : Fact) where
  first-more : (m n : ℕ) → IsFirst b known m n → IsFirst b (fact ∷ known) m n
  first-more m n (inl dep) = inl dep
  first-more m n (inr (inl among)) = inr (inl (inr among))
  first-more m n (inr (inr (prefix, among, placed))) = inr (inr (prefix, inr among, placed))

  by-more : (m : ℕ) (between : List ℕ) (n : ℕ) → PrecedesBy b known m between n → PrecedesBy b (fact ∷ known) m between n
  by-more m [] n by = (first-more m n by.0, by.1)
  by-more m (k ∷ ks) n by = (first-more m k by.0, by.1, by-more k ks n by.2)

  pub precedes-more : (m n : ℕ) → Precedes b known m n → Precedes b (fact ∷ known) m n
  precedes-more m n (between, by) = (between, by-more m between n by)

  in_order-more : (e f : Moment) → IsInOrder b known e f → IsInOrder b (fact ∷ known) e f
  in_order-more (At m e) (At n f) (inl same) = inl same
  in_order-more (At m e) (At n f) (inr before) = inr (precedes-more m n before)
  in_order-more _ _ h = tt

  step-more : (e : Moment) (w : ℕ) (f : Moment) → IsStep b known e w f → IsStep b (fact ∷ known) e w f
  step-more e w f (inl (stands, is, at)) = inl (in_order-more e f stands, is, at)
  step-more e w f (inr (inl among)) = inr (inl (inr among))
  step-more e w f (inr (inr (origin, decided))) = (let (prefix, among, is) = decided in inr (inr (origin, (prefix, inr among, is))))

-- PATHS

pub path-join : (Steps : Moment → ℕ → Moment → Type 0) (e f g : Moment) (first second : List Hop) → IsPath Steps e first f → IsPath Steps f second g → IsPath Steps e (first ++ second) g
path-join Steps e f g [] second path then = subst (λ m. IsPath Steps m second g) (sym path) then
path-join Steps e f g (hop ∷ hops) second path then = (path.0, path-join Steps hop.to f g hops second path.1 then)

pub waits-join : (first second : List Hop) → waits (first ++ second) ≡ waits first + waits second
waits-join [] second = omega arith
waits-join (hop ∷ hops) second = omega (arith, waits-join hops second)

-- each moment leads to the end
module _ (b : Problem) (known : List Fact) where
  abbrev Steps : Moment → ℕ → Moment → Type 0
  Steps = IsStep b known

  own-step : (n : ℕ) (e f : Stage) (w : ℕ) → is_moment b (At n f) ≡ true → own_arc (row_at b n) e f ≡ Some w → Steps (At n e) w (At n f)
  own-step n e f w is arc = inl (inl refl, is, rw (eq-eqb n n refl) arc)

  abbrev free_hops : ℕ → List Hop
  free_hops n = record { wait = 0; to = End } ∷ []

  abbrev start_hops : ℕ → List Hop
  start_hops n = record { wait = (row_at b n).hold + 1; to = At n Free } ∷ free_hops n

  start-ends : (n : ℕ) → is_moment b (At n Start) ≡ true → IsPath Steps (At n Start) (start_hops n) End
  start-ends n is = (own-step n Start Free ((row_at b n).hold + 1) is refl, (inl (tt, refl, refl), refl))

  ends : (f : Moment) → is_moment b f ≡ true → (hops : List Hop) × IsPath Steps f hops End
  ends Origin is = (record { wait = 0; to = End } ∷ [], (inl (tt, refl, refl), refl))
  ends (At n Issue) is = (record { wait = 0; to = At n Start } ∷ start_hops n, (own-step n Issue Start 0 is refl, start-ends n is))
  ends (At n Start) is = (start_hops n, start-ends n is)
  ends (At n (Done x)) is = (free_hops n, (inl (tt, refl, refl), refl))
  ends (At n Free) is = (free_hops n, (inl (tt, refl, refl), refl))
  ends End is = ([], refl)

-- LEAVES

module _ (b : Problem) (low : ℕ) (known : List Fact) (prefix : List ℕ) where
  abbrev now : List Fact
  now = Begins prefix ∷ known

  network-path : (arcs : Network) → AreSteps b known arcs → (e f : Moment) (hops : List Hop) → IsNetworkPath arcs e hops f → IsPath (IsStep b now) e hops f
  network-path arcs steps e f [] path = path
  network-path arcs steps e f (hop ∷ hops) path =
      (step-more b known (Begins prefix) e hop.wait hop.to (steps e hop.to hop.wait path.0), network-path arcs steps hop.to f hops path.1)

  -- from each moment the longest path leads to the end
  pub tail-leads : (arcs : Network) (e : Moment) → AreSteps b known arcs → is_moment b e ≡ true → Leads b now e (tail b arcs e) End
  tail-leads arcs e steps moment =
      let (hops, f, path, takes, is) = tail-reached b arcs (most_arcs b) e in
      let (more, rest) = ends b now f (is moment) in
      (hops ++ more, path-join (IsStep b now) e f End hops more (network-path arcs steps e f hops path) rest, omega (arith, takes, waits-join hops more))

  -- what remains comes no sooner than if it came next
  pub soonest-leads : (n : ℕ) (stage : Stage) → is_remaining b.block prefix n ≡ true → Leads b now Origin (soonest b prefix n stage) (At n stage)
  soonest-leads n stage remains =
      (record { wait = soonest b prefix n stage; to = At n stage } ∷ [], (inr (inr (refl, (prefix, inl refl, inr (remains, refl)))), refl), omega arith)

  pub left-moment : (n : ℕ) (stage : Stage) → IsRemaining b prefix n stage → is_moment b (At n stage) ≡ true
  left-moment n stage (remains, there) =
      let (from, to, new) = remaining-parts b.block prefix n remains in
      let stays : is_remaining b.block [] n ≡ true = rw (le-leb 1 n from, le-leb n _ to) refl in
      and_from (is_remaining b.block [] n) (has_stage (row_at b n) stage) stays there

  -- a path from a moment of what remains, and on to the end
  pub next-late : (arcs : Network) (n : ℕ) (stage : Stage) → AreSteps b known arcs → IsRemaining b prefix n stage → low ≤ soonest b prefix n stage + tail b arcs (At n stage) → IsTooLate b low now
  next-late arcs n stage steps left late =
      let (first, comes, is) = soonest-leads n stage left.0 in
      let (hops, path, takes) = tail-leads arcs (At n stage) steps (left-moment n stage left) in
      inl (first ++ hops, path-join (IsStep b now) Origin (At n stage) End first hops comes path, omega (arith, late, is, takes, waits-join first hops))

  -- what stands first is not placed first
  pub turned-late : (m n : ℕ) → IsNumber b m → IsNumber b n → Precedes b known m n → IsPlacedFirst prefix n m → IsTooLate b low now
  turned-late m n is_m is_n first placed =
      let again : Precedes b now n m = ([], (inr (inr (prefix, inl refl, placed)), is_m)) in
      inr (n, is_n, precedes-through b now n m n again (precedes-more b known (Begins prefix) m n first))
