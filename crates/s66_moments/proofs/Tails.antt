-- Tails of a network: each is reached by a path, no path is greater, and each follows from what is known.
use Rattle.std.proofs.Common.{ℕ, zero, suc, ◌+◌, ◌-◌, ◌≤◌, ◌<◌, ◌≡◌, Bool, true, false, true≢false, cond, max, List, [], ◌∷◌, ◌++◌, length, map, refl, sym, ap, arith, inl, inr, ◌∙◌, subst, Some, None}
use Rattle.std.proofs.Common.{Option, unwrap_or, is_some, eqb-true, eq-eqb, ne_eqb, le-leb}
use Rattle.std.proofs.lemmas.Bool.{cond_both, cond-true, cond-false, or_cases, and_from, cases_Bool, cases_eq}
use Rattle.s66_isa.specs.{Reg, greatest, some_of, Among, Row, Write, same_reg, numbers}
use Rattle.s66_isa.proofs.Lists.{greatest-le, le-greatest, among-front, among-rest, split-among}
use Rattle.s66_isa.proofs.SameRegister.{same_reg-true, same_reg-self}
use Rattle.s66_model.specs.{Problem, row_at, total_of, IsLegal, is_remaining, remaining}
use Rattle.s66_model.proofs.Remaining.{remaining-parts, among-remaining, remaining-among, all-remain}
use Rattle.s66_model.proofs.LongestChain.{greatest-reached}
use Rattle.s66_moments.specs.{Stage, Issue, Start, Done, Free, Moment, Origin, At, End, time_of, has_stage, is_moment, soonest, own_arc, arc, Fact, Arc, Begins, AreSo, Follows, IsInOrder, Hop, waits}
use Rattle.s66_moments.specs.{Network, is_in_order, network, AreArcs, moments_of, moments_among, targets, most_arcs, IsRising, IsPlaced, tail_over, tail, through, IsRemaining, IsNetworkPath, IsKnown}
use Rattle.s66_moments.specs.{HasOwnArcs, soonest_path, greatest_path, RisesBy, rank_by, stage_rank, precedes, AreSteps}
use Rattle.s66_moments.proofs.TableArcs.{and_three, found-some, None-none, moment-parts, moment-number}
use Rattle.s66_moments.proofs.Soonest.{soonest-le, stage-le-total}
use Rattle.s66_moments.proofs.Steps.{step-so}

-- THE MOMENTS OF NUMBERS

among-done : (n : ℕ) (x : Reg) (ws : List Write) → some_of (λ (w : Write). same_reg w.reg x) ws ≡ true → Among (At n (Done x)) (map (λ (w : Write). At n (Done w.reg)) ws)
among-done n x [] h = absurd cc
among-done n x (w ∷ ws) h =
    elim (or_cases (same_reg w.reg x) (some_of (λ (u : Write). same_reg u.reg x) ws) h) [
      | inl here ↦ inl (ap (λ y. At n (Done y)) (sym (same_reg-true w.reg x here)))
      | inr past ↦ inr (among-done n x ws past)
    ]

among-own : (b : Problem) (n : ℕ) (stage : Stage) → has_stage (row_at b n) stage ≡ true → Among (At n stage) (moments_of b n)
among-own b n Issue h = inl refl
among-own b n Start h = inr (inl refl)
among-own b n Free h = inr (inr (inl refl))
among-own b n (Done x) h = inr (inr (inr (among-done n x (row_at b n).writes h)))

among-all : (b : Problem) (n : ℕ) (stage : Stage) (ns : List ℕ) → Among n ns → has_stage (row_at b n) stage ≡ true → Among (At n stage) (moments_among b ns)
among-all b n stage [] h there = absurd h
among-all b n stage (m ∷ ns) h there =
    elim h [
      | inl here ↦ among-front (At n stage) (moments_of b m) (moments_among b ns) (subst (λ k. Among (At n stage) (moments_of b k)) here (among-own b n stage there))
      | inr past ↦ among-rest (At n stage) (moments_of b m) (moments_among b ns) (among-all b n stage ns past there)
    ]

-- and back
pub written : (w : Write) (ws : List Write) → Among w ws → some_of (λ (u : Write). same_reg u.reg w.reg) ws ≡ true
written w ws among = found-some (λ (u : Write). same_reg u.reg w.reg) w ws among (same_reg-self w.reg)

done-among : (e : Moment) (n : ℕ) (ws all : List Write) → ((w : Write) → Among w ws → some_of (λ (u : Write). same_reg u.reg w.reg) all ≡ true) → Among e (map (λ (w : Write). At n (Done w.reg)) ws) → (x : Reg) × (e ≡ At n (Done x)) × (some_of (λ (u : Write). same_reg u.reg x) all ≡ true)
done-among e n [] all each h = absurd h
done-among e n (w ∷ ws) all each h =
    elim h [
      | inl here ↦ (w.reg, here, each w (inl refl))
      | inr past ↦ done-among e n ws all (λ u among. each u (inr among)) past
    ]

-- it is a moment of one of these numbers
abbrev pub IsOf : Problem → Moment → List ℕ → Type 0
IsOf b e ns = (n : ℕ) × (stage : Stage) × (e ≡ At n stage) × Among n ns × (has_stage (row_at b n) stage ≡ true)

pub own-among : (b : Problem) (e : Moment) (n : ℕ) (ns : List ℕ) → Among e (moments_of b n) → IsOf b e (n ∷ ns)
own-among b e n ns h =
    elim h [
      | inl issue ↦ (n, Issue, issue, inl refl, refl)
      | inr more ↦
          elim more [
            | inl start ↦ (n, Start, start, inl refl, refl)
            | inr more2 ↦
                elim more2 [
                  | inl free ↦ (n, Free, free, inl refl, refl)
                  | inr done ↦ (let (x, is, there) = done-among e n (row_at b n).writes (row_at b n).writes (λ w among. written w (row_at b n).writes among) done in (n, Done x, is, inl refl, there))
                ]
          ]
    ]

pub all-among : (b : Problem) (e : Moment) (ns : List ℕ) → Among e (moments_among b ns) → IsOf b e ns
all-among b e [] h = absurd h
all-among b e (n ∷ ns) h =
    elim (split-among e (moments_of b n) (moments_among b ns) h) [
      | inl first ↦ own-among b e n ns first
      | inr second ↦ (let (m, stage, is, among, there) = all-among b e ns second in (m, stage, is, inr among, there))
    ]

moment-among : (b : Problem) (prefix : List ℕ) (n : ℕ) (stage : Stage) → is_remaining b.block prefix n ≡ true → has_stage (row_at b n) stage ≡ true → Among (At n stage) (moments_among b (remaining b.block prefix))
moment-among b prefix n stage remains there = among-all b n stage (remaining b.block prefix) (among-remaining b.block prefix n remains) there

pub moment-target : (b : Problem) (n : ℕ) (stage : Stage) → is_moment b (At n stage) ≡ true → Among (At n stage) (targets b)
moment-target b n stage is =
    let (stays, there) = moment-parts b n stage is in
    inr (subst (λ ns. Among (At n stage) (moments_among b ns)) (all-remain b.block) (moment-among b [] n stage stays there))

pub target-moment : (b : Problem) (f : Moment) → Among f (targets b) → is_moment b f ≡ true
target-moment b f (inl end) = ap (is_moment b) end
target-moment b f (inr among) =
    let (n, stage, is, in_block, there) = all-among b f (numbers b.block) among in
    let stays : is_remaining b.block [] n ≡ true = remaining-among b.block [] n (subst (λ ns. Among n ns) (sym (all-remain b.block)) in_block) in
    ap (is_moment b) is ∙ and_from (is_remaining b.block [] n) (has_stage (row_at b n) stage) stays there

-- TAILS ARE REACHED BY PATHS

pub some-arc : (o : Option ℕ) → is_some o ≡ true → o ≡ Some (unwrap_or o 0)
some-arc None h = absurd (true≢false (sym h))
some-arc (Some w) h = refl

pub arc-some : (o : Option ℕ) (w : ℕ) → o ≡ Some w → (is_some o ≡ true) × (unwrap_or o 0 ≡ w)
arc-some o w h = rw h (refl, refl)

module _ (b : Problem) (arcs : Network) where
  pub tail-reached : (more : ℕ) (e : Moment) → (hops : List Hop) × (f : Moment) × IsNetworkPath arcs e hops f × (waits hops ≡ tail_over b arcs more e) × (is_moment b e ≡ true → is_moment b f ≡ true)
  tail-reached zero e = ([], e, refl, refl, λ h. h)
  tail-reached (suc more) e =
      let (f, among, same) = greatest-reached (through arcs (tail_over b arcs more) e) End (targets b) (inl refl) in
      elim (cases_Bool (is_some (arcs e f))) [
        | inl goes ↦
            let (hops, g, path, takes, ends) = tail-reached more f in
            let first : Hop = record { wait = unwrap_or (arcs e f) 0; to = f } in
            (first ∷ hops, g, (some-arc (arcs e f) goes, path), omega (arith, same, takes, cond-true {A = ℕ} (is_some (arcs e f)) (unwrap_or (arcs e f) 0 + tail_over b arcs more f) 0 goes), λ h. ends (target-moment b f among))
        | inr none ↦ ([], e, refl, omega (arith, same, cond-false {A = ℕ} (is_some (arcs e f)) (unwrap_or (arcs e f) 0 + tail_over b arcs more f) 0 none), λ h. h)
      ]

  -- NONE IS GREATER

  module _ (rises : IsRising b arcs) where
    abbrev rank : Moment → ℕ
    rank = rises.0

    pub path-short : (e : Moment) (hops : List Hop) (f : Moment) → IsNetworkPath arcs e hops f → rank e + length hops ≤ max (rank e) (most_arcs b)
    path-short e [] f path = omega arith
    path-short e (hop ∷ hops) f path =
        let (among, up, high) = rises.1 e hop.to (arc-some (arcs e hop.to) hop.wait path.0).0 in
        omega (arith, up, high, path-short hop.to hops f path.1)

    path-le : (more : ℕ) (e : Moment) (hops : List Hop) (f : Moment) → length hops ≤ more → IsNetworkPath arcs e hops f → waits hops ≤ tail_over b arcs more e
    path-le zero e (hop ∷ hops) f short path = absurd (omega (arith, short))
    path-le (suc more) e (hop ∷ hops) f short path =
        let (some, takes) = arc-some (arcs e hop.to) hop.wait path.0 in
        omega (
          arith,
          takes,
          path-le more hop.to hops f (omega (arith, short)) path.1,
          le-greatest (through arcs (tail_over b arcs more) e) hop.to (targets b) (rises.1 e hop.to some).0,
          cond-true {A = ℕ} (is_some (arcs e hop.to)) (unwrap_or (arcs e hop.to) 0 + tail_over b arcs more hop.to) 0 some,
        )
    path-le _ e [] f short path = omega arith

    pub path-tail : (e : Moment) (hops : List Hop) (f : Moment) → IsNetworkPath arcs e hops f → waits hops ≤ tail b arcs e
    path-tail e hops f path = path-le (most_arcs b) e hops f (omega (arith, path-short e hops f path)) path

    pub value-le : (prefix : List ℕ) (n : ℕ) (stage : Stage) (hops : List Hop) (f : Moment) → is_remaining b.block prefix n ≡ true → has_stage (row_at b n) stage ≡ true → IsNetworkPath arcs (At n stage) hops f → soonest b prefix n stage + waits hops ≤ greatest_path b arcs prefix
    value-le prefix n stage hops f remains there path =
        omega (
          arith,
          path-tail (At n stage) hops f path,
          le-greatest (soonest_path b arcs prefix) (At n stage) (moments_among b (remaining b.block prefix)) (moment-among b prefix n stage remains there),
        )

  -- SOME PATH TAKES IT

  pub greatest-is_path : (prefix : List ℕ) (n : ℕ) → is_remaining b.block prefix n ≡ true →
      (m : ℕ) × (stage : Stage) × (hops : List Hop) × (f : Moment) × IsRemaining b prefix m stage × IsNetworkPath arcs (At m stage) hops f × (soonest b prefix m stage + waits hops ≡ greatest_path b arcs prefix)
  greatest-is_path prefix n remains =
      let (e, among, same) = greatest-reached (soonest_path b arcs prefix) (At n Issue) (moments_among b (remaining b.block prefix)) (moment-among b prefix n Issue remains refl) in
      let (m, stage, is, left, there) = all-among b e (remaining b.block prefix) among in
      let (hops, f, path, takes, ends) = tail-reached (most_arcs b) (At m stage) in
      (m, stage, hops, f, (remaining-among b.block prefix m left, there), path, omega (arith, takes, same, ap (soonest_path b arcs prefix) is))

  -- TAILS FOLLOW from what is known, if the arcs do

  module _ (low : ℕ) (known : List Fact) (known_arcs : AreArcs b low known arcs) where
    module _ (order : List ℕ) (legal : IsLegal b.block order) (less : total_of b order < low) (so : AreSo b order known) where
      moment-le-total : (e : Moment) → is_moment b e ≡ true → time_of b order e ≤ total_of b order
      moment-le-total (At n stage) is = stage-le-total b order legal n stage (moment-parts b n stage is).0
      moment-le-total _ is = omega arith

      tail-so : (more : ℕ) (e : Moment) → is_moment b e ≡ true → time_of b order e + tail_over b arcs more e ≤ total_of b order
      tail-so zero e is = omega (arith, moment-le-total e is)
      tail-so (suc more) e is =
          let room : ℕ = total_of b order - time_of b order e in
          let most : greatest (through arcs (tail_over b arcs more) e) (targets b) ≤ room = greatest-le (through arcs (tail_over b arcs more) e) room (targets b) (λ f among.
          cond_both (is_some (arcs e f)) (unwrap_or (arcs e f) 0 + tail_over b arcs more f) 0 (λ t. t ≤ room)
          (λ some. (let step = known_arcs e f (unwrap_or (arcs e f) 0) (some-arc (arcs e f) some) order legal less so in
          omega (arith, step, tail-so more f (target-moment b f among))))
          (λ none. omega arith)) in
          omega (arith, most, moment-le-total e is)

    soonest-follows : (prefix : List ℕ) (n : ℕ) (stage : Stage) → is_remaining b.block prefix n ≡ true → has_stage (row_at b n) stage ≡ true → Follows b low (Begins prefix ∷ known) (Arc Origin (soonest b prefix n stage + tail b arcs (At n stage)) End 0)
    soonest-follows prefix n stage remains there order legal less ((rest, begins), so) =
        let (from, to, new) = remaining-parts b.block prefix n remains in
        let stays : is_remaining b.block [] n ≡ true = rw (le-leb 1 n from, le-leb n _ to) refl in
        let is : is_moment b (At n stage) ≡ true = and_from (is_remaining b.block [] n) (has_stage (row_at b n) stage) stays there in
        omega (arith, soonest-le b order legal prefix rest begins n stage remains, tail-so order legal less so (most_arcs b) (At n stage) is)

    pub greatest-follows : (prefix : List ℕ) → Follows b low (Begins prefix ∷ known) (Arc Origin (greatest_path b arcs prefix) End 0)
    greatest-follows prefix order legal less so =
        let most : greatest_path b arcs prefix ≤ total_of b order = greatest-le (soonest_path b arcs prefix) (total_of b order) (moments_among b (remaining b.block prefix)) (λ e among.
        let (n, stage, is, left, there) = all-among b e (remaining b.block prefix) among in
        let one = soonest-follows prefix n stage (remaining-among b.block prefix n left) there order legal less so in
        omega (arith, one, ap (soonest_path b arcs prefix) is)) in
        omega (arith, most)

-- THE NETWORK OF THE TABLE

when-parts : (test : Bool) (o : Option ℕ) (w : ℕ) → cond {A = Option ℕ} test o None ≡ Some w → (test ≡ true) × (o ≡ Some w)
when-parts true o w h = (refl, h)
when-parts false o w h = absurd (None-none w h)

module _ (b : Problem) (before : ℕ → ℕ → Bool) where
  pub network-parts : (e f : Moment) (w : ℕ) → network b before e f ≡ Some w → (is_moment b e ≡ true) × (is_moment b f ≡ true) × (is_in_order before e f ≡ true) × (arc b e f ≡ Some w)
  network-parts e f w h =
      let (all, is) = when-parts _ (arc b e f) w h in
      let (is_e, is_f, stands) = and_three (is_moment b e) (is_moment b f) (is_in_order before e f) all in
      (is_e, is_f, stands, is)

  in-order-is : (known : List Fact) → IsKnown b known before → (e f : Moment) → is_moment b e ≡ true → is_moment b f ≡ true → is_in_order before e f ≡ true → IsInOrder b known e f
  in-order-is known each (At m e) (At n f) is_e is_f h =
      elim (or_cases _ (before m n) h) [
        | inl same ↦ inl (eqb-true m n same)
        | inr first ↦ inr (each m n (moment-number b m e is_e) (moment-number b n f is_f) first)
      ]
  in-order-is known each _ _ is_e is_f h = tt

  pub network-steps : (known : List Fact) → IsKnown b known before → AreSteps b known (network b before)
  network-steps known is e f w h =
      let (is_e, is_f, stands, at) = network-parts e f w h in
      inl (in-order-is known is e f is_e is_f stands, is_f, at)

  pub network-follows : (low : ℕ) (known : List Fact) → IsKnown b known before → AreArcs b low known (network b before)
  network-follows low known each e f w h order legal less so =
      omega (arith, step-so b known order legal so e w f (network-steps known each e f w h))

pub network-own : (b : Problem) (before : ℕ → ℕ → Bool) → HasOwnArcs b (network b before)
network-own b before n e f w is_e is_f is = (w, rw (is_e, is_f, eq-eqb n n refl) is, omega arith)

-- ARCS LEAD UP

stage-small : (stage : Stage) → stage_rank stage ≤ 3
stage-small (Done x) = omega arith
stage-small _ = omega arith

own-rises : (r : Row) (e f : Stage) (w : ℕ) → own_arc r e f ≡ Some w → stage_rank e < stage_rank f
own-rises r Issue Start w h = omega arith
own-rises r Start (Done x) w h = omega arith
own-rises r Start Free w h = omega arith
own-rises r (Done x) Free w h = omega arith
own-rises r _ _ w h = absurd (None-none w h)

module _ (b : Problem) (before : ℕ → ℕ → Bool) (place : ℕ → ℕ) (placed : IsPlaced b before place) where
  abbrev place_rank : Moment → ℕ
  place_rank e = rank_by b place e

  abbrev LeadsUp : Moment → Moment → Type 0
  LeadsUp e f = Among f (targets b) × (place_rank e < place_rank f) × (place_rank f ≤ most_arcs b)

  up-both : (m n : ℕ) (e f : Stage) (w : ℕ) → is_moment b (At m e) ≡ true → is_moment b (At n f) ≡ true → is_in_order before (At m e) (At n f) ≡ true → arc b (At m e) (At n f) ≡ Some w → LeadsUp (At m e) (At n f)
  up-both m n e f w is_e is_f stands is =
      let number = moment-number b n f is_f in
      let (low, high) = placed.0 n number in
      let up : place_rank (At m e) < place_rank (At n f) = elim (cases_eq m n) [
        | inl same ↦
            let own : own_arc (row_at b m) e f ≡ Some w = rw (eq-eqb m n same) at is in
            omega (arith, ap place same, own-rises (row_at b m) e f w own, low)
        | inr other ↦
            let first : before m n ≡ true = rw (ne_eqb m n other) at stands in
            omega (arith, placed.1 m n (moment-number b m e is_e) number first, stage-small e, low)
      ] in
      (moment-target b n f is_f, up, omega (arith, high, stage-small f))

  up-end : (m : ℕ) (e : Stage) → is_moment b (At m e) ≡ true → LeadsUp (At m e) End
  up-end m e is_e =
      let (low, high) = placed.0 m (moment-number b m e is_e) in
      (inl refl, omega (arith, high, stage-small e), omega arith)

  leads-up : (e f : Moment) (w : ℕ) → is_moment b e ≡ true → is_moment b f ≡ true → is_in_order before e f ≡ true → arc b e f ≡ Some w → LeadsUp e f
  leads-up Origin (At n f) w is_e is_f stands is =
      let (low, high) = placed.0 n (moment-number b n f is_f) in
      (moment-target b n f is_f, omega (arith, low), omega (arith, high, stage-small f))
  leads-up Origin End w is_e is_f stands is = (inl refl, omega arith, omega arith)
  leads-up (At m e) (At n f) w is_e is_f stands is = up-both m n e f w is_e is_f stands is
  leads-up (At m e) End w is_e is_f stands is = up-end m e is_e
  leads-up _ _ w is_e is_f stands is = absurd (None-none w is)

  pub network-rises_by : RisesBy b (network b before) (rank_by b place)
  network-rises_by e f some =
      let w : ℕ = unwrap_or (network b before e f) 0 in
      let (is_e, is_f, stands, is) = network-parts b before e f w (some-arc (network b before e f) some) in
      leads-up e f w is_e is_f stands is

-- BY DEPENDENCE no order is below the greatest path

pub dependence-below : (b : Problem) (prefix rest : List ℕ) → IsKnown b [] (precedes b.block) → IsLegal b.block (prefix ++ rest) → greatest_path b (network b (precedes b.block)) prefix ≤ total_of b (prefix ++ rest)
dependence-below b prefix rest known legal =
    let low : ℕ = total_of b (prefix ++ rest) + 1 in
    let late = greatest-follows b (network b (precedes b.block)) low [] (network-follows b (precedes b.block) low [] known) prefix (prefix ++ rest) legal (omega arith) ((rest, refl), tt) in
    omega (arith, late)
