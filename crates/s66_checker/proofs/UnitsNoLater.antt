-- What is stated of the units of a kind: that they are free no later, place by place.
use Rattle.std.proofs.Common.{ℕ, ◌+◌, ◌≤◌, ◌<◌, ◌≡◌, ◌↔◌, ◌∙◌, ◌&&◌, Bool, IsTrue, true, false, true≢false, max, List, length, drop, get_or, reverse, sym, ap, subst, arith, leb, inl, inr, Decides}
use Rattle.std.proofs.lemmas.Bool.{cases_eq}
use Rattle.std.proofs.lemmas.Bool.Decides.{Decides-like, same_from_decides}
use Rattle.std.proofs.lemmas.List.{at_drop_more}
use Rattle.s66_isa.specs.{Kind, Boolean, Profile, every, tally, kind_number, copies_of, all_kinds}
use Rattle.s66_model.specs.{Point, busy_at, free_times}
use Rattle.s66_checker.specs.{AreFree, never_busy, AreWords, FreeTimes, Words, are_places_no_later}
use Rattle.s66_checker.proofs.FreeUnits.{first-time, second-time}
use Rattle.s66_checker.proofs.NoLater.{le-Decides, places-Decides}

-- what is stated of each place
pub places-stated : (count clamp : ℕ) (xs ys us vs : List ℕ) (stated : Bool) → us ≡ xs → vs ≡ ys → IsTrue stated ↔ ((i : ℕ) → i < count → get_or us i 0 ≤ max (get_or vs i 0) clamp) → stated ≡ are_places_no_later count clamp xs ys
places-stated count clamp xs ys us vs stated own other is =
    same_from_decides stated (are_places_no_later count clamp us vs) is (places-Decides count clamp us vs)
    ∙ ap (λ zs. are_places_no_later count clamp zs vs) own
    ∙ ap (are_places_no_later count clamp xs) other

-- one kind less is left if its test passes
pub kinds-step : (profile : Profile) (clamp : ℕ) (q p : List Point) (i copies : ℕ) (stated : Bool) → i < length all_kinds → copies ≡ copies_of profile (get_or all_kinds i Boolean) →
    stated ≡ are_places_no_later copies clamp (free_times (get_or all_kinds i Boolean) q) (free_times (get_or all_kinds i Boolean) p) → stated ≡ true →
    every (λ kind. are_places_no_later (copies_of profile kind) clamp (free_times kind q) (free_times kind p)) (drop (i + 1) all_kinds) ≡ every (λ kind. are_places_no_later (copies_of profile kind) clamp (free_times kind q) (free_times kind p)) (drop i all_kinds)
kinds-step profile clamp q p i copies stated lt known is passes =
    let test = λ (kind : Kind). are_places_no_later (copies_of profile kind) clamp (free_times kind q) (free_times kind p) in
    let kind : Kind = get_or all_kinds i Boolean in
    let here : test kind ≡ true = ap (λ n. are_places_no_later n clamp (free_times kind q) (free_times kind p)) (sym known) ∙ sym is ∙ passes in
    sym (at_drop_more (every test) all_kinds i Boolean lt ∙ ap (λ b. b && every test (drop (i + 1) all_kinds)) here)

-- BY THE WORDS OF TWO PASTS

module _ (kind : Kind) (xs ys : List Point) (w v : Words) (place copies clamp : ℕ) (own : AreWords xs w) (other : AreWords ys v) (is : place ≡ kind_number kind) where
  f : FreeTimes
  f = get_or w.free place never_busy

  g : FreeTimes
  g = get_or v.free place never_busy

  abbrev Test : Bool
  Test = are_places_no_later copies clamp (free_times kind (reverse xs)) (free_times kind (reverse ys))

  abbrev Within : ℕ → Type 0
  Within i = get_or (free_times kind (reverse xs)) i 0 ≤ max (get_or (free_times kind (reverse ys)) i 0) clamp

  decides : Decides Test ((i : ℕ) → i < copies → Within i)
  decides = places-Decides copies clamp (free_times kind (reverse xs)) (free_times kind (reverse ys))

  own_free : AreFree (λ t. tally (busy_at kind t) xs) f
  unfolding f
  own_free = subst (λ i. AreFree (λ t. tally (busy_at kind t) xs) (get_or w.free i never_busy)) (sym is) (own.free kind)

  other_free : AreFree (λ t. tally (busy_at kind t) ys) g
  unfolding g
  other_free = subst (λ i. AreFree (λ t. tally (busy_at kind t) ys) (get_or v.free i never_busy)) (sym is) (other.free kind)

  first : (get_or w.free place never_busy).all ≤ max (get_or v.free place never_busy).all clamp ↔ Within 0
  unfolding f g
  first = (
    λ h. omega (arith, h, first-time kind xs f own_free, first-time kind ys g other_free),
    λ h. omega (arith, h, first-time kind xs f own_free, first-time kind ys g other_free),
  )

  second : (get_or w.free place never_busy).all_but_one ≤ max (get_or v.free place never_busy).all_but_one clamp ↔ Within 1
  unfolding f g
  second = (
    λ h. omega (arith, h, second-time kind xs f own_free, second-time kind ys g other_free),
    λ h. omega (arith, h, second-time kind xs f own_free, second-time kind ys g other_free),
  )

  pub first-later : 1 ≤ copies → max (get_or v.free place never_busy).all clamp < (get_or w.free place never_busy).all → false ≡ Test
  first-later some later =
      same_from_decides false Test
      ((λ e. absurd (true≢false (sym e))), λ (each : (i : ℕ) → i < copies → Within i). absurd (omega (arith, later, first.1 (each 0 (omega (arith, some))))))
      decides

  pub one-stated : copies ≡ 1 → (get_or w.free place never_busy).all ≤ max (get_or v.free place never_busy).all clamp → true ≡ Test
  one-stated one no_later =
      sym (decides.1 (λ i lt. subst (λ j. Within j) (omega (arith, lt, one)) (first.0 no_later)))

  pub two-stated : copies ≡ 2 → (get_or w.free place never_busy).all ≤ max (get_or v.free place never_busy).all clamp → (most : ℕ) → most ≡ max (get_or v.free place never_busy).all_but_one clamp → leb (get_or w.free place never_busy).all_but_one most ≡ Test
  two-stated two no_later most e =
      ap (leb (get_or w.free place never_busy).all_but_one) e
      ∙ same_from_decides (leb (get_or w.free place never_busy).all_but_one (max (get_or v.free place never_busy).all_but_one clamp)) Test
      (Decides-like (leb (get_or w.free place never_busy).all_but_one (max (get_or v.free place never_busy).all_but_one clamp))
      (λ h i lt.
      elim (cases_eq i 0) [
        | inl none ↦ subst (λ j. Within j) (sym none) (first.0 no_later)
        | inr some ↦ subst (λ j. Within j) (omega (arith, lt, two, some)) (second.0 h)
      ])
      (λ (each : (i : ℕ) → i < copies → Within i). second.1 (each 1 (omega (arith, two))))
      (le-Decides (get_or w.free place never_busy).all_but_one (max (get_or v.free place never_busy).all_but_one clamp)))
      decides
