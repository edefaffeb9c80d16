-- Spans: the longest of the paths from one moment to another, from either side.
use Rattle.std.proofs.Common.{ℕ, zero, suc, ◌+◌, ◌≤◌, ◌<◌, ◌≡◌, ◌⊎◌, true, max, List, [], ◌∷◌, ◌++◌, length, refl, sym, ap, arith, inl, inr, subst, Option, Some, None}
use Rattle.s66_isa.specs.{greatest, Among}
use Rattle.s66_isa.proofs.Lists.{cases_le, le-greatest}
use Rattle.s66_model.specs.{Problem}
use Rattle.s66_moments.specs.{Moment, only_if, Hop, waits, Network, targets, most_arcs, IsRising, IsNetworkPath, same_moment, later, latest, plus, span_over, span}
use Rattle.s66_moments.proofs.TableArcs.{Some-same, None-none, only_if-parts}
use Rattle.s66_moments.proofs.Tails.{arc-some, path-short}
use Rattle.s66_moments.proofs.MoreArcs.{same_moment-true, same_moment-self}
use Rattle.s66_moments.proofs.NextLeaves.{path-join, waits-join}

-- HEIGHTS: None is below all

abbrev pub height : Option ℕ → ℕ
height None = 0
height (Some w) = suc w

pub height-same : (o p : Option ℕ) → height o ≡ height p → o ≡ p
height-same None None h = refl
height-same (Some v) (Some w) h = ap (λ k. Some k) (omega (arith, h))
height-same _ _ h = absurd (omega (arith, h))

pub height-some : (o : Option ℕ) (w : ℕ) → o ≡ Some w → height o ≡ suc w
height-some o w h = ap height h

-- what is above something is there
pub some-height : (o : Option ℕ) (w : ℕ) → w < height o → (v : ℕ) × (o ≡ Some v) × (w ≤ v)
some-height None w h = absurd (omega (arith, h))
some-height (Some v) w h = (v, refl, omega (arith, h))

pub height-later : (o p : Option ℕ) → height (later o p) ≡ max (height o) (height p)
height-later (Some v) (Some w) = omega arith
height-later _ _ = omega arith

pub height-latest : {X : Type 0} (f : X → Option ℕ) (xs : List X) → height (latest f xs) ≡ greatest (λ x. height (f x)) xs
height-latest f [] = refl
height-latest f (x ∷ xs) = omega (arith, height-later (f x) (latest f xs), height-latest f xs)

pub height-plus : (o p : Option ℕ) (u w : ℕ) → o ≡ Some u → w < height p → u + w < height (plus o p)
height-plus None p u w is h = absurd (None-none u is)
height-plus (Some v) None u w is h = absurd (omega (arith, h))
height-plus (Some v) (Some x) u w is h = omega (arith, Some-same v u is, h)

pub later-some : (o p : Option ℕ) (w : ℕ) → later o p ≡ Some w → (o ≡ Some w) ⊎ (p ≡ Some w)
later-some None p w h = inr h
later-some (Some v) None w h = inl h
later-some (Some v) (Some u) w h =
    elim (cases_le u v) [
      | inl le ↦ inl (ap (λ k. Some k) (omega (arith, Some-same (max v u) w h, le)))
      | inr lt ↦ inr (ap (λ k. Some k) (omega (arith, Some-same (max v u) w h, lt)))
    ]

pub latest-some : {X : Type 0} (f : X → Option ℕ) (xs : List X) (w : ℕ) → latest f xs ≡ Some w → (x : X) × Among x xs × (f x ≡ Some w)
latest-some f [] w h = absurd (None-none w h)
latest-some f (x ∷ xs) w h =
    elim (later-some (f x) (latest f xs) w h) [
      | inl here ↦ (x, inl refl, here)
      | inr past ↦ (let (y, among, is) = latest-some f xs w past in (y, inr among, is))
    ]

pub plus-some : (o p : Option ℕ) (w : ℕ) → plus o p ≡ Some w → (u v : ℕ) × (o ≡ Some u) × (p ≡ Some v) × (u + v ≡ w)
plus-some (Some u) (Some v) w h = (u, v, refl, refl, Some-same (u + v) w h)
plus-some _ _ w h = absurd (None-none w h)

-- no lower than each that is among them
pub latest-high : {X : Type 0} (f : X → Option ℕ) (x : X) (xs : List X) (w : ℕ) → Among x xs → w < height (f x) → w < height (latest f xs)
latest-high f x xs w among h = omega (arith, h, height-latest f xs, le-greatest (λ y. height (f y)) x xs among)

pub later-left : (o p : Option ℕ) (w : ℕ) → w < height o → w < height (later o p)
later-left o p w h = omega (arith, h, height-later o p)

pub later-right : (o p : Option ℕ) (w : ℕ) → w < height p → w < height (later o p)
later-right o p w h = omega (arith, h, height-later o p)

-- no step at all
pub same-high : (e f : Moment) → e ≡ f → 0 < height (only_if (same_moment e f) 0)
same-high e f same =
    let is : same_moment e f ≡ true = subst (λ m. same_moment e m ≡ true) same (same_moment-self e) in
    omega (arith, ap (λ t. height (only_if t 0)) is)

-- PATHS

module _ (b : Problem) (arcs : Network) where
  abbrev pub IsPathOf : Moment → Moment → ℕ → Type 0
  IsPathOf e f w = (hops : List Hop) × IsNetworkPath arcs e hops f × (waits hops ≡ w)

  -- some path takes it, and none more
  abbrev pub IsSpan : Moment → Moment → Option ℕ → Type 0
  IsSpan e f o = ((w : ℕ) → o ≡ Some w → IsPathOf e f w) × ((hops : List Hop) → IsNetworkPath arcs e hops f → waits hops < height o)

  span-below : (e f : Moment) (o p : Option ℕ) → IsSpan e f o → IsSpan e f p → height o ≤ height p
  span-below e f None p one two = omega arith
  span-below e f (Some w) p one two =
      let (hops, path, takes) = one.0 w refl in
      omega (arith, two.1 hops path, takes)

  pub span-same : (e f : Moment) (o p : Option ℕ) → IsSpan e f o → IsSpan e f p → o ≡ p
  span-same e f o p one two = height-same o p (omega (arith, span-below e f o p one two, span-below e f p o two one))

  none-path : (e f : Moment) (w : ℕ) → only_if (same_moment e f) 0 ≡ Some w → IsPathOf e f w
  none-path e f w h =
      let parts = only_if-parts (same_moment e f) 0 w h in
      ([], same_moment-true e f parts.0, parts.1)

  -- FROM THE FRONT, with what is known of paths from the targets on

  abbrev by_front : (Moment → Option ℕ) → Moment → Moment → Option ℕ
  by_front after e f = later (only_if (same_moment e f) 0) (latest (λ m. plus (arcs e m) (after m)) (targets b))

  front-path : (after : Moment → Option ℕ) (e f : Moment) → ((m : Moment) (w : ℕ) → after m ≡ Some w → IsPathOf m f w) → (w : ℕ) → by_front after e f ≡ Some w → IsPathOf e f w
  front-path after e f paths w h =
      elim (later-some (only_if (same_moment e f) 0) (latest (λ m. plus (arcs e m) (after m)) (targets b)) w h) [
        | inl here ↦ none-path e f w here
        | inr past ↦
            let (m, among, is) = latest-some (λ m. plus (arcs e m) (after m)) (targets b) w past in
            let (u, v, first, then, sum) = plus-some (arcs e m) (after m) w is in
            let (hops, path, takes) = paths m v then in
            (record { wait = u; to = m } ∷ hops, (first, path), omega (arith, takes, sum))
      ]

  front-none : (after : Moment → Option ℕ) (e f : Moment) → e ≡ f → 0 < height (by_front after e f)
  front-none after e f same =
      later-left (only_if (same_moment e f) 0) (latest (λ m. plus (arcs e m) (after m)) (targets b)) 0 (same-high e f same)

  front-more : (after : Moment → Option ℕ) (e f : Moment) (hop : Hop) (w : ℕ) → Among hop.to (targets b) → arcs e hop.to ≡ Some hop.wait → w < height (after hop.to) → hop.wait + w < height (by_front after e f)
  front-more after e f hop w among first then =
      later-right (only_if (same_moment e f) 0) (latest (λ m. plus (arcs e m) (after m)) (targets b)) (hop.wait + w)
      (latest-high (λ m. plus (arcs e m) (after m)) hop.to (targets b) (hop.wait + w) among (height-plus (arcs e hop.to) (after hop.to) hop.wait w first then))

  over-path : (more : ℕ) (e f : Moment) (w : ℕ) → span_over b arcs more e f ≡ Some w → IsPathOf e f w
  over-path zero e f w h = none-path e f w h
  over-path (suc more) e f w h = front-path (λ m. span_over b arcs more m f) e f (λ m. over-path more m f) w h

  pub span-path : (e f : Moment) (w : ℕ) → span b arcs e f ≡ Some w → IsPathOf e f w
  span-path e f w h = over-path (most_arcs b) e f w h

  module _ (rises : IsRising b arcs) where
    hop-among : (e f : Moment) (w : ℕ) → arcs e f ≡ Some w → Among f (targets b)
    hop-among e f w is = (rises.1 e f (arc-some (arcs e f) w is).0).0

    over-longest : (more : ℕ) (e : Moment) (hops : List Hop) (f : Moment) → length hops ≤ more → IsNetworkPath arcs e hops f → waits hops < height (span_over b arcs more e f)
    over-longest zero e [] f short path = same-high e f path
    over-longest zero e (hop ∷ hops) f short path = absurd (omega (arith, short))
    over-longest (suc more) e [] f short path = front-none (λ m. span_over b arcs more m f) e f path
    over-longest (suc more) e (hop ∷ hops) f short path =
        front-more (λ m. span_over b arcs more m f) e f hop (waits hops) (hop-among e hop.to hop.wait path.0) path.0 (over-longest more hop.to hops f (omega (arith, short)) path.1)

    pub span-high : (e : Moment) (hops : List Hop) (f : Moment) → IsNetworkPath arcs e hops f → waits hops < height (span b arcs e f)
    span-high e hops f path = over-longest (most_arcs b) e hops f (omega (arith, path-short b arcs rises e hops f path)) path

    span-is : (e f : Moment) → IsSpan e f (span b arcs e f)
    span-is e f = (span-path e f, λ hops path. span-high e hops f path)

    front-high : (e : Moment) (hops : List Hop) (f : Moment) → IsNetworkPath arcs e hops f → waits hops < height (by_front (λ m. span b arcs m f) e f)
    front-high e [] f path = front-none (λ m. span b arcs m f) e f path
    front-high e (hop ∷ hops) f path =
        front-more (λ m. span b arcs m f) e f hop (waits hops) (hop-among e hop.to hop.wait path.0) path.0 (span-high hop.to hops f path.1)

    pub span-from_front : (e f : Moment) → span b arcs e f ≡ later (only_if (same_moment e f) 0) (latest (λ m. plus (arcs e m) (span b arcs m f)) (targets b))
    span-from_front e f =
        span-same e f (span b arcs e f) (by_front (λ m. span b arcs m f) e f) (span-is e f)
        (front-path (λ m. span b arcs m f) e f (λ m. span-path m f), λ hops path. front-high e hops f path)

    -- FROM THE BACK

    abbrev by_back : Moment → Moment → Option ℕ
    by_back e f = later (only_if (same_moment e f) 0) (latest (λ m. plus (span b arcs e m) (arcs m f)) (e ∷ targets b))

    back-path : (e f : Moment) (w : ℕ) → by_back e f ≡ Some w → IsPathOf e f w
    back-path e f w h =
        elim (later-some (only_if (same_moment e f) 0) (latest (λ m. plus (span b arcs e m) (arcs m f)) (e ∷ targets b)) w h) [
          | inl here ↦ none-path e f w here
          | inr past ↦
              let (m, among, is) = latest-some (λ m. plus (span b arcs e m) (arcs m f)) (e ∷ targets b) w past in
              let (u, v, first, then, sum) = plus-some (span b arcs e m) (arcs m f) w is in
              let (hops, path, takes) = span-path e m u first in
              let last : Hop = record { wait = v; to = f } in
              (hops ++ (last ∷ []), path-join (λ m w n. arcs m n ≡ Some w) e m f hops (last ∷ []) path (then, refl), omega (arith, waits-join hops (last ∷ []), takes, sum))
        ]

    -- a path's last step
    last-step : (e : Moment) (hop : Hop) (hops : List Hop) (f : Moment) → IsNetworkPath arcs e (hop ∷ hops) f →
        (front : List Hop) × (m : Moment) × (w : ℕ) × IsNetworkPath arcs e front m × Among m (e ∷ targets b) × (arcs m f ≡ Some w) × (waits front + w ≡ waits (hop ∷ hops))
    last-step e hop [] f path = ([], e, hop.wait, refl, inl refl, subst (λ m. arcs e m ≡ Some hop.wait) path.1 path.0, omega arith)
    last-step e hop (next ∷ hops) f path =
        let (front, m, w, first, among, last, takes) = last-step hop.to next hops f path.1 in
        let here : Among hop.to (targets b) = hop-among e hop.to hop.wait path.0 in
        let further : Among m (targets b) = elim among [
          | inl same ↦ subst (λ k. Among k (targets b)) (sym same) here
          | inr past ↦ past
        ] in
        (hop ∷ front, m, w, (path.0, first), inr further, last, omega (arith, takes))

    back-high : (e : Moment) (hops : List Hop) (f : Moment) → IsNetworkPath arcs e hops f → waits hops < height (by_back e f)
    back-high e [] f path =
        later-left (only_if (same_moment e f) 0) (latest (λ m. plus (span b arcs e m) (arcs m f)) (e ∷ targets b)) 0 (same-high e f path)
    back-high e (hop ∷ hops) f path =
        let (front, m, w, first, among, last, takes) = last-step e hop hops f path in
        let (v, is, le) = some-height (span b arcs e m) (waits front) (span-high e front m first) in
        let sum : v + w < height (plus (span b arcs e m) (arcs m f)) = height-plus (span b arcs e m) (arcs m f) v w is (omega (arith, height-some (arcs m f) w last)) in
        let high = latest-high (λ m. plus (span b arcs e m) (arcs m f)) m (e ∷ targets b) (v + w) among sum in
        omega (arith, takes, le, later-right (only_if (same_moment e f) 0) (latest (λ m. plus (span b arcs e m) (arcs m f)) (e ∷ targets b)) (v + w) high)

    pub span-from_back : (e f : Moment) → span b arcs e f ≡ later (only_if (same_moment e f) 0) (latest (λ m. plus (span b arcs e m) (arcs m f)) (e ∷ targets b))
    span-from_back e f = span-same e f (span b arcs e f) (by_back e f) (span-is e f) (back-path e f, λ hops path. back-high e hops f path)
