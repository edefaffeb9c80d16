-- A longest path as it is found, arc by arc: it leads to the end, and takes as long as the end comes later at least.
use Rattle.std.specs.Option.{option_or}
use Rattle.std.proofs.Common.{ℕ, zero, suc, ◌≡◌, ◌≤◌, ◌<◌, ◌∙◌, ◌+◌, ◌-◌, ◌⊎◌, Bool, true, false, true≢false, cond, List, [], ◌∷◌, length, Option, None, Some, inl, inr, ap, arith, refl, subst, sym}
use Rattle.std.proofs.Common.{is_some, unwrap_or, le-leb, leb-true}
use Rattle.s66_isa.specs.{Among}
use Rattle.s66_model.specs.{Problem}
use Rattle.s66_moments.specs.{Moment, Origin, At, End, Hop as Step, waits, IsRising, IsNetworkPath, most_arcs, targets, plus, reaches}
use Rattle.s66_moments.proofs.TableArcs.{Some-same, None-none}
use Rattle.s66_moments.proofs.Tails.{arc-some}
use Rattle.s66_moments.proofs.Spans.{height, plus-some, span-high, span-path}
use Rattle.s66_cert.specs.{Document}
use Rattle.s66_checker.specs.{problem_of}
use Rattle.s66_reasons.specs.{Hop, arcs, first_hop, hop_and, hop_to, hops_from, next_hop, to_end, IsAlong, sum_of}

-- OPTIONS

when-some : {X : Type 0} (test : Bool) (x y : X) → cond {A = Option X} test (Some x) None ≡ Some y → (test ≡ true) × (x ≡ y)
when-some true x y h = (refl, cc)
when-some false x y h = absurd cc

or-parts : (o p : Option Hop) (hop : Hop) → option_or o p ≡ Some hop → (o ≡ Some hop) ⊎ (p ≡ Some hop)
or-parts None p hop h = inr h
or-parts (Some q) p hop h = inl h

or-left : (o p : Option Hop) → is_some o ≡ true → is_some (option_or o p) ≡ true
or-left None p h = absurd (true≢false (sym h))
or-left (Some q) p h = refl

or-right : (o p : Option Hop) → is_some p ≡ true → is_some (option_or o p) ≡ true
or-right None p h = h
or-right (Some q) p h = refl

some-of : (o : Option Hop) → is_some o ≡ true → (hop : Hop) × (o ≡ Some hop)
some-of None h = absurd (true≢false (sym h))
some-of (Some hop) h = (hop, refl)

none-of : (o : Option Hop) → ((hop : Hop) → o ≡ Some hop → ⊥) → o ≡ None
none-of None h = refl
none-of (Some hop) h = absurd (h hop refl)

reaches-some : (low : ℕ) (o : Option ℕ) → reaches low o ≡ true → (w : ℕ) × (o ≡ Some w) × (low ≤ w)
reaches-some low None h = absurd (true≢false (sym h))
reaches-some low (Some w) h = (w, refl, leb-true low w h)

reaches-true : (low u v : ℕ) (o p : Option ℕ) → o ≡ Some u → v < height p → low ≤ u + v → reaches low (plus o p) ≡ true
reaches-true low u v None p is high le = absurd (None-none u is)
reaches-true low u v (Some w) None is high le = absurd (omega (arith, high))
reaches-true low u v (Some w) (Some t) is high le = le-leb low (w + t) (omega (arith, high, le, Some-same w u is))

-- ARCS OF A DOCUMENT, which form no ring

module _ (d : Document) (rises : IsRising (problem_of d) (arcs d)) where
  abbrev b : Problem
  b = problem_of d

  abbrev rank : Moment → ℕ
  rank = rises.0

  pub rank-along : (e : Moment) (hops : List Step) (f : Moment) → IsNetworkPath (arcs d) e hops f → rank e + length hops ≤ rank f
  rank-along e [] f path = omega (arith, ap rank path)
  rank-along e (hop ∷ hops) f path =
      let (among, up, high) = rises.1 e hop.to (arc-some (arcs d e hop.to) hop.wait path.0).0 in
      omega (arith, up, rank-along hop.to hops f path.1)

  at-end : (hops : List Step) → IsNetworkPath (arcs d) End hops End → waits hops ≡ 0
  at-end [] path = refl
  at-end (hop ∷ hops) path = absurd (omega (arith, rank-along End (hop ∷ hops) End path))

  end-high : (e : Moment) (hops : List Step) → IsNetworkPath (arcs d) e hops End → waits hops < height (to_end d e)
  end-high Origin hops path = span-high b (arcs d) rises Origin hops End path
  end-high (At n stage) hops path = span-high b (arcs d) rises (At n stage) hops End path
  end-high End hops path = omega (arith, at-end hops path)

  pub end-path : (e : Moment) (w : ℕ) → to_end d e ≡ Some w → (hops : List Step) × IsNetworkPath (arcs d) e hops End × (waits hops ≡ w)
  end-path Origin w is = span-path b (arcs d) Origin End w is
  end-path (At n stage) w is = span-path b (arcs d) (At n stage) End w is
  end-path End w is = ([], refl, Some-same 0 w is)

  -- THE NEXT ARC

  -- an arc, from which the end is as far as is left
  abbrev IsNext : ℕ → Moment → Hop → Type 0
  IsNext left e hop = (arcs d e hop.to ≡ Some hop.wait) × (t : ℕ) × (to_end d hop.to ≡ Some t) × (left ≤ hop.wait + t)

  hop-next : (left : ℕ) (e f : Moment) (hop : Hop) → hop_to d left e f ≡ Some hop → IsNext left e hop
  hop-next left e f hop h =
      let made : Hop = record { wait = unwrap_or (arcs d e f) 0; to = f } in
      let (all, same) = when-some (reaches left (plus (arcs d e f) (to_end d f))) made hop h in
      let (w, is, le) = reaches-some left (plus (arcs d e f) (to_end d f)) all in
      let (u, t, arc, rest, sum) = plus-some (arcs d e f) (to_end d f) w is in
      let wait : unwrap_or (arcs d e f) 0 ≡ u = (arc-some (arcs d e f) u arc).1 in
      subst (IsNext left e) same (arc ∙ ap (λ k. Some k) (sym wait), t, rest, omega (arith, le, sum, wait))

  first-next : (left : ℕ) (e : Moment) (fs : List Moment) (hop : Hop) → first_hop d left e fs ≡ Some hop → IsNext left e hop
  first-next left e [] hop h = absurd cc
  first-next left e (f ∷ fs) hop h =
      elim (or-parts (hop_to d left e f) (first_hop d left e fs) hop h) [
        | inl here ↦ hop-next left e f hop here
        | inr past ↦ first-next left e fs hop past
      ]

  hop-there : (left : ℕ) (e f : Moment) (u v : ℕ) → arcs d e f ≡ Some u → v < height (to_end d f) → left ≤ u + v → is_some (hop_to d left e f) ≡ true
  hop-there left e f u v is high le =
      let made : Hop = record { wait = unwrap_or (arcs d e f) 0; to = f } in
      ap (λ (t : Bool). is_some (cond {A = Option Hop} t (Some made) None)) (reaches-true left u v (arcs d e f) (to_end d f) is high le)

  first-there : (left : ℕ) (e f : Moment) (fs : List Moment) → Among f fs → is_some (hop_to d left e f) ≡ true → is_some (first_hop d left e fs) ≡ true
  first-there left e f [] among h = absurd among
  first-there left e f (g ∷ fs) among h =
      elim among [
        | inl here ↦ or-left (hop_to d left e g) (first_hop d left e fs) (subst (λ m. is_some (hop_to d left e m) ≡ true) here h)
        | inr past ↦ or-right (hop_to d left e g) (first_hop d left e fs) (first-there left e f fs past h)
      ]

  next-there : (left : ℕ) (e : Moment) (hop : Step) (hops : List Step) → IsNetworkPath (arcs d) e (hop ∷ hops) End → left ≤ waits (hop ∷ hops) → is_some (next_hop d left e) ≡ true
  next-there left e hop hops path le =
      let among : Among hop.to (targets b) = (rises.1 e hop.to (arc-some (arcs d e hop.to) hop.wait path.0).0).0 in
      first-there left e hop.to (targets b) among (hop-there left e hop.to hop.wait (waits hops) path.0 (end-high hop.to hops path.1) (omega (arith, le)))

  -- none leads on from the end
  end-none : (left : ℕ) → next_hop d left End ≡ None
  end-none left =
      none-of (next_hop d left End) (λ hop is.
      let (arc, t, rest, le) = first-next left End (targets b) hop is in
      let (hops, path, takes) = end-path hop.to t rest in
      let step : Step = record { wait = hop.wait; to = hop.to } in
      omega (arith, rank-along End (step ∷ hops) End (arc, path)))

  -- ALL OF THEM

  -- if some path to the end takes what is left, and there is room for all arcs to the highest rank
  pub along : (more left : ℕ) (e : Moment) (path : List Step) → IsNetworkPath (arcs d) e path End → left ≤ waits path → most_arcs b ≤ rank e + more →
      IsAlong (arcs d) e (hops_from d more left e) End × (left ≤ sum_of (hops_from d more left e))
  along zero left e [] path le room = (path, le)
  along zero left e (hop ∷ hops) path le room =
      let (among, up, high) = rises.1 e hop.to (arc-some (arcs d e hop.to) hop.wait path.0).0 in
      absurd (omega (arith, up, high, room))
  along (suc more) left e [] path le room =
      let after : Hop → List Hop = λ (h : Hop). hops_from d more (left - h.wait) h.to in
      subst (λ m. IsAlong (arcs d) m (hops_from d (suc more) left m) End × (left ≤ sum_of (hops_from d (suc more) left m))) (sym path)
      (subst (λ (o : Option Hop). IsAlong (arcs d) End (hop_and o after) End × (left ≤ sum_of (hop_and o after))) (sym (end-none left)) (refl, le))
  along (suc more) left e (hop ∷ hops) path le room =
      let after : Hop → List Hop = λ (h : Hop). hops_from d more (left - h.wait) h.to in
      let (next, is) = some-of (next_hop d left e) (next-there left e hop hops path le) in
      let (arc, t, rest, far) = first-next left e (targets b) next is in
      let (on, leads, takes) = end-path next.to t rest in
      let (among, up, high) = rises.1 e next.to (arc-some (arcs d e next.to) next.wait arc).0 in
      let (then, sum) = along more (left - next.wait) next.to on leads (omega (arith, far, takes)) (omega (arith, up, room)) in
      subst (λ (o : Option Hop). IsAlong (arcs d) e (hop_and o after) End × (left ≤ sum_of (hop_and o after))) (sym is) ((arc, then), omega (arith, sum))

  pub as-path : (e : Moment) (hops : List Hop) (f : Moment) → IsAlong (arcs d) e hops f → (steps : List Step) × IsNetworkPath (arcs d) e steps f × (waits steps ≡ sum_of hops)
  as-path e [] f leads = ([], leads, refl)
  as-path e (hop ∷ hops) f leads =
      let (steps, path, takes) = as-path hop.to hops f leads.1 in
      (record { wait = hop.wait; to = hop.to } ∷ steps, (leads.0, path), omega (arith, takes))

  -- none takes longer
  pub along-high : (e : Moment) (hops : List Hop) → IsAlong (arcs d) e hops End → sum_of hops < height (to_end d e)
  along-high e hops leads =
      let (steps, path, takes) = as-path e hops End leads in
      omega (arith, end-high e steps path, takes)
