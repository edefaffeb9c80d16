-- The path that is printed is one: each of its steps lets the next go on, and what they add is the time.
use Rattle.std.proofs.Common.{ℕ, ◌+◌, ◌-◌, ◌≤◌, ◌<◌, ◌≡◌, ◌⊎◌, ◌∙◌, ◌==◌, ◌&&◌, Bool, cond, max, nat_lt, true, false, true≢false, List, [], ◌∷◌, ◌++◌, if◌then◌else◌, length, map, reverse, refl, ap}
use Rattle.std.proofs.Common.{sym, subst, arith, inl, inr, eq-eqb, eqb-true, ltb-false, ltb-true, ne_eqb}
use Rattle.std.proofs.lemmas.Bool.{and_cases, and_from, and_parts, cases_Bool, cond-true, cond-false, eqb-false, or_cases, or_left, or_parts, or_right}
use Rattle.std.proofs.lemmas.List.{reverse-append}
use Rattle.s66_isa.specs.{Reg, Among, greatest, has, weigh, Write, same_kind, same_reg}
use Rattle.s66_isa.proofs.Lists.{cases_le, greatest-le, greatest-le-greatest, among-rest, le-greatest, weigh-reverse}
use Rattle.s66_isa.proofs.SameRegister.{same_reg-self, same_reg-true}
use Rattle.s66_model.specs.{Problem, Point, ResultAt, done_at, done_of, end_of, free_after, last_done, parcel_of, point, point_of, points_after, points_of, readers_wait, result_at, total, fits_at}
use Rattle.s66_model.proofs.ChainBound.{last-is_greatest}
use Rattle.s66_model.proofs.Growth.{fits_at-ge, none-first}
use Rattle.s66_model.proofs.PointTimes.{greatest-stays, hold-le-free, point_of-number, points_after-append}
use Rattle.s66_model.proofs.WrittenOrders.{greatest-map}
use Rattle.s66_why.specs.{Cause, Writes, Takes, References, Reads, Ends, Holder, Link, Held, InLine, Milestone, Step, Wait, Conflict, First, Second, Third, before, before_issue, before_start, decides}
use Rattle.s66_why.specs.{first_holder, holder, is_held, lets_go, next_wait, second_holder, slot, steps, steps_from, third_holder, walk, AreFromOne, AddsUp, AreEachOnce, WaitGoesOn, IsPath, Leads}
use Rattle.s66_why.specs.{LetsGoWith, made_at, unhindered}
use Rattle.s66_why.proofs.Alike.{AreAlike, row-alike}
use Rattle.s66_why.proofs.AmongParts.{greatest-met}
use Rattle.s66_why.proofs.Forbidden.{IsHeldBy, IsPlaced, first-held, placed, positive-after, second-held, third-held}
use Rattle.s66_why.proofs.Found.{ArePositive, found-or-none}

-- LISTS

among-split : {X : Type 0} (x : X) (xs : List X) → Among x xs → (later : List X) × (e : List X) × (xs ≡ later ++ x ∷ e)
among-split x [] among = absurd among
among-split x (y ∷ ys) (inl here) = ([], ys, ap (λ z. z ∷ ys) (sym here))
among-split x (y ∷ ys) (inr past) = let more = among-split x ys past in (y ∷ more.0, more.1, ap (λ zs. y ∷ zs) more.2)

-- if f is at most g, and as great where g is greatest, then so are the greatest
top-same : {X : Type 0} (f g : X → ℕ) (xs : List X) → ((x : X) → f x ≤ g x) → ((x : X) → Among x xs → 1 ≤ g x → g x ≡ greatest g xs → f x ≡ g x) →
    greatest f xs ≡ greatest g xs
top-same f g xs le same =
    let below : greatest f xs ≤ greatest g xs = greatest-le-greatest f g le xs in
    elim (cases_le 1 (greatest g xs)) [
      | inl some ↦
          let met = greatest-met g xs some in
          omega (arith, below, le-greatest f met.0 xs met.1, same met.0 met.1 (omega (arith, met.2, some)) met.2, met.2)
      | inr none ↦ omega (arith, below, none)
    ]

-- RESULTS

-- when a result is done
abbrev time_of : List Point → ℕ → Write → ℕ
time_of e start w = max (start + w.latency) (readers_wait e w.reg)

-- no sooner if it waits for readers
made-le : (e : List Point) (start : ℕ) (test : Write → Bool) (w : Write) → cond (test w) (start + w.latency) 0 ≤ cond (test w) (time_of e start w) 0
made-le e start test w =
    elim (cases_Bool (test w)) [
      | inl is ↦ omega (arith, cond-true {A = ℕ} (test w) (start + w.latency) 0 is, cond-true {A = ℕ} (test w) (time_of e start w) 0 is)
      | inr is ↦ omega (arith, cond-false {A = ℕ} (test w) (start + w.latency) 0 is)
    ]

-- the latest of those of a test, made and done, if the latest doesn't wait
latest-same : (e : List Point) (start : ℕ) (test : Write → Bool) (ws : List Write) →
    ((w : Write) → Among w ws → test w ≡ true → time_of e start w ≡ greatest (λ v. cond (test v) (time_of e start v) 0) ws → start + w.latency ≡ time_of e start w) →
    greatest (λ w. cond (test w) (start + w.latency) 0) ws ≡ greatest (λ w. cond (test w) (time_of e start w) 0) ws
latest-same e start test ws same =
    top-same (λ w. cond (test w) (start + w.latency) 0) (λ w. cond (test w) (time_of e start w) 0) ws (made-le e start test)
    (λ w among some is.
    elim (cases_Bool (test w)) [
      | inl holds ↦
          let whole = cond-true {A = ℕ} (test w) (time_of e start w) 0 holds in
          cond-true {A = ℕ} (test w) (start + w.latency) 0 holds ∙ same w among holds (sym whole ∙ is) ∙ sym whole
      | inr fails ↦ cond-false {A = ℕ} (test w) (start + w.latency) 0 fails ∙ sym (cond-false {A = ℕ} (test w) (time_of e start w) 0 fails)
    ])

-- when the unit is free by the latest of these results, if there is one
free-of : (start hold : ℕ) (f : Write → ResultAt) (w : Write) (ws : List Write) →
    free_after start hold (map f (w ∷ ws)) ≡ greatest (λ v. cond (f v).held (f v).time 0) (w ∷ ws) + 1
free-of start hold f w ws = ap (λ n. n + 1) (greatest-map (λ (d : ResultAt). cond d.held d.time 0) f (w ∷ ws))

free-le : (e : List Point) (start hold : ℕ) (ws : List Write) → free_after start hold (map (made_at start) ws) ≤ free_after start hold (map (result_at e start) ws)
free-le e start hold [] = omega arith
free-le e start hold (w ∷ ws) =
    omega (
      arith,
      free-of start hold (made_at start) w ws,
      free-of start hold (result_at e start) w ws,
      greatest-le-greatest (λ v. cond v.held (start + v.latency) 0) (λ v. cond v.held (time_of e start v) 0) (made-le e start (λ v. v.held)) (w ∷ ws),
    )

free-same : (e : List Point) (start hold : ℕ) (ws : List Write) →
    ((w : Write) → Among w ws → w.held ≡ true → time_of e start w + 1 ≡ free_after start hold (map (result_at e start) ws) → start + w.latency ≡ time_of e start w) →
    free_after start hold (map (made_at start) ws) ≡ free_after start hold (map (result_at e start) ws)
free-same e start hold [] same = refl
free-same e start hold (w ∷ ws) same =
    let done = free-of start hold (result_at e start) w ws in
    free-of start hold (made_at start) w ws
    ∙ ap (λ n. n + 1) (latest-same e start (λ v. v.held) (w ∷ ws) (λ v among is top. same v among is (ap (λ n. n + 1) top ∙ sym done)))
    ∙ sym done

-- POINTS IN TURN

-- what holds of a point after the points s
pub record IsSound (b : Problem) (s : List Point) (p : Point) : Type 0 where
  pub placed : IsPlaced b s p
  pub latest : (r : Reg) → last_done r s ≡ done_of s r
  pub positive : ArePositive s
  pub apart : (q : Point) → Among q s → p.number ≡ q.number → ⊥
  pub parcel : p.parcel ≡ parcel_of s p.row.parcels
  pub free : p.free ≡ free_after p.start p.row.hold p.results
  pub frees : p.start + 1 ≤ p.free
  pub alike : AreAlike p.row.writes

abbrev pub AllSound : Problem → List Point → Type 0
AllSound b [] = Unit {0}
AllSound b (p ∷ s) = IsSound b s p × AllSound b s

sound-of : (b : Problem) (s : List Point) (n : ℕ) → ((r : Reg) → last_done r s ≡ done_of s r) → ArePositive s → ((q : Point) → Among q s → n ≡ q.number → ⊥) →
    IsSound b s (point_of b s n)
unfolding point
sound-of b s n latest positive apart =
    record {
      placed = placed b s n;
      latest = latest;
      positive = positive;
      apart = apart;
      parcel = refl;
      free = refl;
      frees = omega (arith, hold-le-free b s n);
      alike = row-alike b.profile _;
    }

-- the numbers of these points are other ones
abbrev AreNew : List ℕ → List Point → Type 0
AreNew ns s = (q : Point) → Among q s → has q.number ns ≡ false

all-sound : (b : Problem) (ms ns : List ℕ) → AllSound b (points_of b ms) → ArePositive (points_of b ms) → AreNew ns (points_of b ms) → AreEachOnce ns → AreFromOne ns →
    AllSound b (points_after b (points_of b ms) ns)
all-sound b ms [] sound positive new once from = sound
all-sound b ms (n ∷ ns) sound positive new once from =
    let s : List Point = points_of b ms in
    let p : Point = point_of b s n in
    let number : p.number ≡ n = point_of-number b s n in
    let here : IsSound b s p = sound-of b s n (last-is_greatest b ms) positive
    (λ q among same. eqb-false q.number n (or_parts (q.number == n) (has q.number ns) (new q among)).0 (sym same)) in
    let more : points_of b (ms ++ n ∷ []) ≡ p ∷ s = points_after-append b [] ms (n ∷ []) in
    let above : ArePositive (p ∷ s) =
    λ q among. elim among [ inl e ↦ omega (arith, ap (λ (u : Point). u.number) e, number, from n (inl refl)) | inr past ↦ positive q past ] in
    let other : AreNew ns (p ∷ s) =
    λ q among.
    elim among [
      | inl e ↦ ap (λ m. has m ns) (ap (λ (u : Point). u.number) e ∙ number) ∙ once.0
      | inr past ↦ (or_parts (q.number == n) (has q.number ns) (new q past)).1
    ] in
    subst (λ (l : List Point). AllSound b l → ArePositive l → AreNew ns l → AllSound b (points_after b l ns)) more
    (λ so po ne. all-sound b (ms ++ n ∷ []) ns so po ne once.1 (λ m among. from m (inr among))) (here, sound) above other

-- MILESTONES

abbrev held_until : Holder → ℕ → Wait
held_until h t = record { link = Held h; until = t }

abbrev line_until : ℕ → Wait
line_until t = record { link = InLine; until = t }

abbrev stone : ℕ → ℕ → Milestone
stone number time = record { number = number; time = time }

abbrev step : ℕ → ℕ → Step
step number adds = record { number = number; adds = adds }

-- the time of the first
abbrev first_time : List Milestone → ℕ
first_time [] = 0
first_time (x ∷ xs) = x.time

-- the steps to these, the latest first
abbrev steps_back : List Milestone → List Step
steps_back [] = []
steps_back (x ∷ xs) = step x.number (x.time - first_time xs) ∷ steps_back xs

-- when the last of these is, after that minor cycle
abbrev last_from : ℕ → List Milestone → ℕ
last_from t [] = t
last_from t (x ∷ xs) = last_from x.time xs

steps_from-append : (t : ℕ) (xs : List Milestone) (x : Milestone) → steps_from t (xs ++ x ∷ []) ≡ steps_from t xs ++ step x.number (x.time - last_from t xs) ∷ []
steps_from-append t [] x = refl
steps_from-append t (y ∷ ys) x = ap (λ zs. step y.number (y.time - t) ∷ zs) (steps_from-append y.time ys x)

last_from-append : (t : ℕ) (xs : List Milestone) (x : Milestone) → last_from t (xs ++ x ∷ []) ≡ x.time
last_from-append t [] x = refl
last_from-append t (y ∷ ys) x = last_from-append y.time ys x

last-of_reverse : (xs : List Milestone) → last_from 0 (reverse xs) ≡ first_time xs
last-of_reverse [] = refl
last-of_reverse (x ∷ xs) = ap (last_from 0) (reverse-append (x ∷ []) xs) ∙ last_from-append 0 (reverse xs) x

steps-of_reverse : (xs : List Milestone) → reverse (steps_from 0 (reverse xs)) ≡ steps_back xs
steps-of_reverse [] = refl
steps-of_reverse (x ∷ xs) =
    let ys : List Milestone = reverse xs in
    let last : Step = step x.number (x.time - last_from 0 ys) in
    ap (λ zs. reverse (steps_from 0 zs)) (reverse-append (x ∷ []) xs) ∙ ap reverse (steps_from-append 0 ys x) ∙ reverse-append (steps_from 0 ys) (last ∷ [])
    ∙ ap (λ zs. last ∷ zs) (steps-of_reverse xs) ∙ ap (λ k. step x.number (x.time - k) ∷ steps_back xs) (last-of_reverse xs)

-- WHEN AN INSTRUCTION LETS GO

module _ (b : Problem) (e : List Point) (p : Point) (sound : IsSound b e p) where
  abbrev ws : List Write
  ws = p.row.writes

  abbrev time : Write → ℕ
  time w = time_of e p.start w

  results-at : (f : ResultAt → ℕ) → greatest f p.results ≡ greatest (λ w. f (result_at e p.start w)) ws
  results-at f = ap (greatest f) sound.placed.results ∙ greatest-map f (result_at e p.start) ws

  -- a register is done when a result in it is
  done-is : (w : Write) → Among w ws → done_at p w.reg ≡ time w
  done-is w among =
      let f : Write → ℕ = λ v. cond (same_reg v.reg w.reg) (time v) 0 in
      let whole : done_at p w.reg ≡ greatest f ws = results-at (λ d. cond (same_reg d.reg w.reg) d.time 0) in
      let own : f w ≡ time w = cond-true {A = ℕ} (same_reg w.reg w.reg) (time w) 0 (same_reg-self w.reg) in
      let most : greatest f ws ≤ time w =
      greatest-le f (time w) ws
      (λ v in_ws.
      elim (cases_Bool (same_reg v.reg w.reg)) [
        | inl is ↦
            omega (
              arith,
              cond-true {A = ℕ} (same_reg v.reg w.reg) (time v) 0 is,
              sound.alike w v among in_ws is,
              ap (readers_wait e) (same_reg-true v.reg w.reg is),
            )
        | inr is ↦ omega (arith, cond-false {A = ℕ} (same_reg v.reg w.reg) (time v) 0 is)
      ]) in
      omega (arith, whole, own, most, le-greatest f w ws among)

  -- it lets go no sooner than it starts
  start-le : (cause : Cause) (t : ℕ) → 1 ≤ t → lets_go cause t p ≡ true → p.start ≤ t
  start-le (Writes r) t some lets =
      let f : Write → ℕ = λ v. cond (same_reg v.reg r) (time v) 0 in
      let is : greatest f ws ≡ t = sym (results-at (λ d. cond (same_reg d.reg r) d.time 0)) ∙ eqb-true (done_at p r) t lets in
      let met = greatest-met f ws (omega (arith, is, some)) in
      elim (cases_Bool (same_reg met.0.reg r)) [
        | inl holds ↦ omega (arith, met.2, is, cond-true {A = ℕ} (same_reg met.0.reg r) (time met.0) 0 holds)
        | inr fails ↦ absurd (omega (arith, met.2, is, some, cond-false {A = ℕ} (same_reg met.0.reg r) (time met.0) 0 fails))
      ]
  start-le (Takes kind) t some lets = omega (arith, eqb-true p.free t (and_parts (same_kind p.row.kind kind) (p.free == t) lets).1, sound.frees)
  start-le (References memory) t some lets = omega (arith, eqb-true (p.start + 1) t (and_parts _ (p.start + 1 == t) lets).1)
  start-le (Reads r) t some lets = omega (arith, eqb-true (p.start + 1) t (and_parts _ (p.start + 1 == t) lets).1)
  start-le Ends t some lets = omega (arith, eqb-true (end_of p) t lets, sound.frees)

  -- none of the results by which it lets go for the cause waits for a reader
  abbrev NoneWaits : Cause → Type 0
  NoneWaits cause = (w : Write) → Among w ws → (decides cause p w && is_held e p w) ≡ false

  on-time : (cause : Cause) → NoneWaits cause → (w : Write) → Among w ws → decides cause p w ≡ true → p.start + w.latency ≡ time w
  on-time cause none w among decided =
      elim (and_cases (decides cause p w) (is_held e p w) (none w among)) [
        | inl other ↦ absurd (true≢false (sym decided ∙ other))
        | inr early ↦ omega (arith, ltb-false (p.start + w.latency) (readers_wait e w.reg) early)
      ]

  all-free : p.free ≡ free_after p.start p.row.hold (map (result_at e p.start) ws)
  all-free = sound.free ∙ ap (free_after p.start p.row.hold) sound.placed.results

  -- the unit is free as if nothing waited, if that doesn't wait by which it gets free
  free-by : ((w : Write) → Among w ws → w.held ≡ true → done_at p w.reg ≡ p.free - 1 → p.start + w.latency ≡ time w) → (unhindered p).free ≡ p.free
  free-by same =
      free-same e p.start p.row.hold ws (λ w among held top. same w among held (omega (arith, done-is w among, top, all-free))) ∙ sym all-free

  -- so nothing changes when it lets go
  lets-unhindered : (cause : Cause) (t : ℕ) → lets_go cause t p ≡ true → NoneWaits cause → lets_go cause t (unhindered p) ≡ true
  lets-unhindered (Writes r) t lets none =
      let made : done_at (unhindered p) r ≡ greatest (λ w. cond (same_reg w.reg r) (p.start + w.latency) 0) ws =
      greatest-map (λ (d : ResultAt). cond (same_reg d.reg r) d.time 0) (made_at p.start) ws in
      let same = latest-same e p.start (λ w. same_reg w.reg r) ws (λ w among is top. on-time (Writes r) none w among is) in
      eq-eqb (done_at (unhindered p) r) t (made ∙ same ∙ sym (results-at (λ d. cond (same_reg d.reg r) d.time 0)) ∙ eqb-true (done_at p r) t lets)
  lets-unhindered (Takes kind) t lets none =
      let parts = and_parts (same_kind p.row.kind kind) (p.free == t) lets in
      let same : (unhindered p).free ≡ p.free =
      free-by (λ w among held done. on-time (Takes kind) none w among (and_from w.held (done_at p w.reg == p.free - 1) held (eq-eqb (done_at p w.reg) (p.free - 1) done))) in
      and_from (same_kind p.row.kind kind) ((unhindered p).free == t) parts.0 (eq-eqb (unhindered p).free t (same ∙ eqb-true p.free t parts.1))
  lets-unhindered (References memory) t lets none = lets
  lets-unhindered (Reads r) t lets none = lets
  lets-unhindered Ends t lets none =
      let end : end_of p ≡ t = eqb-true (end_of p) t lets in
      let done : greatest (λ (d : ResultAt). d.time) p.results ≡ greatest time ws = results-at (λ d. d.time) in
      let made : greatest (λ (d : ResultAt). d.time) (map (made_at p.start) ws) ≡ greatest (λ w. p.start + w.latency) ws =
      greatest-map (λ (d : ResultAt). d.time) (made_at p.start) ws in
      let less : (unhindered p).free ≤ p.free = omega (arith, free-le e p.start p.row.hold ws, all-free) in
      elim (cases_le p.free (greatest time ws)) [
        | inl late ↦
            let same : greatest (λ w. p.start + w.latency) ws ≡ greatest time ws =
            latest-same e p.start (λ _. true) ws
            (λ w among is top.
            on-time Ends none w among
            (or_left (done_at p w.reg == end_of p) _ (eq-eqb (done_at p w.reg) (end_of p) (omega (arith, done-is w among, top, done, late))))) in
            eq-eqb (end_of (unhindered p)) t (omega (arith, end, done, made, less, late, same))
        | inr early ↦
            let same : (unhindered p).free ≡ p.free =
            free-by
            (λ w among held last.
            on-time Ends none w among
            (or_right (done_at p w.reg == end_of p) _
            (and_from (p.free == end_of p && w.held) (done_at p w.reg == p.free - 1)
            (and_from (p.free == end_of p) w.held (eq-eqb p.free (end_of p) (omega (arith, done, early))) held) (eq-eqb (done_at p w.reg) (p.free - 1) last)))) in
            let most : greatest (λ w. p.start + w.latency) ws ≤ greatest time ws = greatest-le-greatest (λ w. p.start + w.latency) time (λ w. omega arith) ws in
            eq-eqb (end_of (unhindered p)) t (omega (arith, end, done, made, early, same, most))
      ]

  -- if a result by which it lets go waits for a reader, it lets go with that
  lets-with : (cause : Cause) (t : ℕ) → lets_go cause t p ≡ true → (w : Write) → Among w ws → decides cause p w ≡ true → is_held e p w ≡ true →
      LetsGoWith cause p (Reads w.reg) (readers_wait e w.reg) t × (readers_wait e w.reg ≤ t)
  lets-with cause t lets w among decided held =
      let done : done_at p w.reg ≡ readers_wait e w.reg =
      omega (arith, done-is w among, ltb-true (p.start + w.latency) (readers_wait e w.reg) held) in
      by cause lets decided done
    where
      with-unit : (t : ℕ) → p.free ≡ t → done_at p w.reg ≡ p.free - 1 → done_at p w.reg ≡ readers_wait e w.reg →
          ((t ≡ p.free) × (t ≡ readers_wait e w.reg + 1)) × (readers_wait e w.reg ≤ t)
      with-unit t free last done = ((sym free, omega (arith, free, last, done, sound.frees)), omega (arith, free, last, done))

      by : (cause : Cause) → lets_go cause t p ≡ true → decides cause p w ≡ true → done_at p w.reg ≡ readers_wait e w.reg →
          LetsGoWith cause p (Reads w.reg) (readers_wait e w.reg) t × (readers_wait e w.reg ≤ t)
      by (Writes r) lets decided done =
          let same : w.reg ≡ r = same_reg-true w.reg r decided in
          let is : t ≡ readers_wait e w.reg = sym (ap (done_at p) same ∙ eqb-true (done_at p r) t lets) ∙ done in
          ((ap (λ (x : Reg). Reads x) same, is), omega (arith, is))
      by (Takes kind) lets decided done =
          with-unit t (eqb-true p.free t (and_parts (same_kind p.row.kind kind) (p.free == t) lets).1)
          (eqb-true (done_at p w.reg) (p.free - 1) (and_parts w.held (done_at p w.reg == p.free - 1) decided).1) done
      by (References memory) lets decided done = absurd (true≢false (sym decided))
      by (Reads r) lets decided done = absurd (true≢false (sym decided))
      by Ends lets decided done =
          let end : end_of p ≡ t = eqb-true (end_of p) t lets in
          elim (or_cases (done_at p w.reg == end_of p) _ decided) [
            | inl here ↦
                let is : t ≡ readers_wait e w.reg = sym (eqb-true (done_at p w.reg) (end_of p) here ∙ end) ∙ done in
                (inl is, omega (arith, is))
            | inr unit ↦
                let (both, last) = and_parts (p.free == end_of p && w.held) (done_at p w.reg == p.free - 1) unit in
                let (free, held) = and_parts (p.free == end_of p) w.held both in
                let is = with-unit t (eqb-true p.free (end_of p) free ∙ end) (eqb-true (done_at p w.reg) (p.free - 1) last) done in
                (inr is.0, is.1)
          ]

  -- what it waited for last before it let go
  before-is : (cause : Cause) (vs : List Write) →
      ((w : Write) × Among w vs × (decides cause p w ≡ true) × (is_held e p w ≡ true) × (before cause e p vs ≡ held_until (third_holder e w) (readers_wait e w.reg)))
      ⊎ (((w : Write) → Among w vs → (decides cause p w && is_held e p w) ≡ false) × (before cause e p vs ≡ before_start e p))
  before-is cause [] = inr (λ w none. absurd none, refl)
  before-is cause (w ∷ vs) =
      let here : Wait = held_until (third_holder e w) (readers_wait e w.reg) in
      elim (cases_Bool (decides cause p w && is_held e p w)) [
        | inl holds ↦
            let parts = and_parts (decides cause p w) (is_held e p w) holds in
            inl (w, inl refl, parts.0, parts.1, cond-true (decides cause p w && is_held e p w) here (before cause e p vs) holds)
        | inr fails ↦
            let rest : before cause e p (w ∷ vs) ≡ before cause e p vs = cond-false (decides cause p w && is_held e p w) here (before cause e p vs) fails in
            elim (before-is cause vs) [
              | inl found ↦ inl (found.0, inr found.1, found.2, found.3, rest ∙ found.4)
              | inr none ↦
                  inr (
                    λ v among. elim among [ inl same ↦ subst (λ (u : Write). (decides cause p u && is_held e p u) ≡ false) (sym same) fails | inr past ↦ none.0 v past ],
                    rest ∙ none.1,
                  )
            ]
      ]

-- A LINE

-- p issues in its slot: so do all before it, or all after some q, which doesn't
abbrev LineOf : ℕ → List Point → Point → Type 0
LineOf t e p =
    ((walk (line_until t) e ≡ []) × (p.issue ≡ p.parcel))
    ⊎ ((later : List Point) × (q : Point) × (rest : List Point) × (e ≡ later ++ q ∷ rest) × (slot rest q < q.issue) × (p.issue ≡ q.issue + (p.parcel - q.parcel))
    × (q.parcel ≤ p.parcel) × (walk (line_until t) e ≡ stone q.number q.issue ∷ walk (next_wait InLine rest q) rest))

line-of : (b : Problem) (t : ℕ) (e : List Point) (p : Point) → IsSound b e p → AllSound b e → p.issue ≡ slot e p → LineOf t e p
line-of b t [] p sound all is = inl (refl, omega (arith, is, sound.parcel, none-first p.row.parcels))
line-of b t (q ∷ s) p sound all is =
    let after : p.parcel ≡ fits_at (q.parcel + q.row.parcels) p.row.parcels = sound.parcel in
    let behind : q.parcel ≤ p.parcel = omega (arith, after, fits_at-ge (q.parcel + q.row.parcels) p.row.parcels) in
    let gap : p.issue ≡ q.issue + (p.parcel - q.parcel) = is in
    let here : List Milestone = stone q.number q.issue ∷ walk (next_wait InLine s q) s in
    elim (cases_Bool (nat_lt (slot s q) q.issue)) [
      | inl late ↦ inr ([], q, s, refl, ltb-true (slot s q) q.issue late, gap, behind, cond-true (nat_lt (slot s q) q.issue) here (walk (line_until t) s) late)
      | inr early ↦
          let there : walk (line_until t) (q ∷ s) ≡ walk (line_until t) s = cond-false (nat_lt (slot s q) q.issue) here (walk (line_until t) s) early in
          let in_slot : q.issue ≡ slot s q = omega (arith, ltb-false (slot s q) q.issue early, all.0.placed.issue.late, all.0.placed.slot) in
          elim (line-of b t s q all.0 all.1 in_slot) [
            | inl (none, at) ↦ inl (there ∙ none, omega (arith, gap, at, behind))
            | inr (later, r, rest, split, late, more, le, walks) ↦
                inr (q ∷ later, r, rest, ap (λ zs. q ∷ zs) split, late, omega (arith, gap, more, behind, le), omega (arith, behind, le), there ∙ walks)
          ]
    ]

-- THE WALK

-- a walk to a holder goes to the one instruction of its number
walk-skip : (b : Problem) (h : Holder) (t : ℕ) (later : List Point) (q : Point) (e : List Point) → q.number ≡ h.number → AllSound b (later ++ q ∷ e) →
    walk (held_until h t) (later ++ q ∷ e) ≡ stone q.number t ∷ walk (next_wait (Held h) e q) e
walk-skip b h t [] q e is sound =
    cond-true (q.number == h.number) (stone q.number t ∷ walk (next_wait (Held h) e q) e) (walk (held_until h t) e) (eq-eqb q.number h.number is)
walk-skip b h t (x ∷ later) q e is sound =
    let rest : List Point = later ++ q ∷ e in
    let apart : x.number ≡ h.number → ⊥ = λ same. sound.0.apart q (among-rest q later (q ∷ e) (inl refl)) (same ∙ sym is) in
    cond-false (x.number == h.number) (stone x.number t ∷ walk (next_wait (Held h) rest x) rest) (walk (held_until h t) rest) (ne_eqb x.number h.number apart)
    ∙ walk-skip b h t later q e is sound.1

module _ (b : Problem) where
  -- the steps that the walk gives from a link on that leads to p at t
  abbrev steps_to : List Point → Point → Link → ℕ → List Step
  steps_to e p link t = steps_back (stone p.number t ∷ walk (next_wait link e p) e)

  -- are those of a path
  abbrev HasSteps : List Point → Point → Link → ℕ → Type 0
  HasSteps e p link t = IsPath b e p link t (steps_to e p link t)

  -- a link leads there, and the walk takes it
  abbrev Aims : List Point → Point → Link → ℕ → Type 0
  Aims e p (Held h) t = (p.number ≡ h.number) × (lets_go h.cause t p ≡ true) × (1 ≤ t)
  Aims e p InLine t = (t ≡ p.issue) × (slot e p < p.issue)

  abbrev AllReach : List Point → Type 0
  AllReach [] = Unit {0}
  AllReach (p ∷ e) = ((link : Link) (t : ℕ) → Aims e p link t → HasSteps e p link t) × AllReach e

  reach-at : (later : List Point) (q : Point) (e : List Point) → AllReach (later ++ q ∷ e) → (link : Link) (t : ℕ) → Aims e q link t → HasSteps e q link t
  reach-at [] q e reach = reach.0
  reach-at (x ∷ later) q e reach = reach-at later q e reach.1

  -- the path with the rest of the walk
  with-rest : (e : List Point) (p : Point) (link : Link) (t : ℕ) (ms : List Milestone) → walk (next_wait link e p) e ≡ ms →
      IsPath b e p link t (steps_back (stone p.number t ∷ ms)) → HasSteps e p link t
  with-rest e p link t ms is path = subst (λ (ns : List Milestone). IsPath b e p link t (steps_back (stone p.number t ∷ ns))) (sym is) path

  -- p waited for a holder until `to`, and then for nothing more
  onward : (e : List Point) (p : Point) (link : Link) (t : ℕ) → AllSound b e → AllReach e → Leads link p t → (conflict : Conflict) (from to : ℕ) (h : Holder) → from < to →
      IsHeldBy b e p conflict from to h → WaitGoesOn conflict link p h.cause to t → to ≤ t → next_wait link e p ≡ held_until h to → HasSteps e p link t
  onward e p link t sound reach leads conflict from to h waits (q, among, number, kept, lets) goes le next =
      let split = among-split q e among in
      let by : Link = Held (record { cause = h.cause; number = q.number }) in
      let below : HasSteps split.1 q by to = reach-at split.0 q split.1 (subst AllReach split.2 reach) by to (refl, lets, omega (arith, waits)) in
      let walks : walk (next_wait link e p) e ≡ stone q.number to ∷ walk (next_wait (Held h) split.1 q) split.1 =
      ap (λ w. walk w e) next ∙ ap (walk (held_until h to)) split.2 ∙ walk-skip b h to split.0 q split.1 number (subst (AllSound b) split.2 sound) in
      let adds : t ≡ to + (t - to) = omega (arith, le) in
      with-rest e p link t (stone q.number to ∷ walk (next_wait (Held h) split.1 q) split.1) walks
      (refl, leads, inl (to, h.cause, q, split.1, ((split.0, split.2), (conflict, from, waits, kept, goes)), adds, below))

  -- a wait that ends then, as it is said of the minor cycle before
  until : (to : ℕ) (P : ℕ → Type 0) → 1 ≤ to → ((k : ℕ) → to ≡ k + 1 → P (k + 1)) → P to
  until to P some made = let last : to ≡ (to - 1) + 1 = omega (arith, some) in subst P (sym last) (made (to - 1) last)

  first-of : (e : List Point) (p : Point) → IsSound b e p → slot e p < p.issue → IsHeldBy b e p First (slot e p) p.issue (first_holder e p)
  first-of e p sound late =
      until p.issue (λ to. IsHeldBy b e p First (slot e p) to (first_holder e p)) (omega (arith, late))
      (λ k is. first-held b e p k is sound.placed sound.positive (omega (arith, is, late)))

  second-of : (e : List Point) (p : Point) → IsSound b e p → p.issue < p.start → IsHeldBy b e p Second p.issue p.start (second_holder e p)
  second-of e p sound late =
      until p.start (λ to. IsHeldBy b e p Second p.issue to (second_holder e p)) (omega (arith, late))
      (λ k is. second-held b e p k is sound.placed sound.latest sound.positive (omega (arith, is, late)))

  third-of : (e : List Point) (p : Point) (w : Write) → IsSound b e p → Among w p.row.writes → p.start + w.latency < readers_wait e w.reg →
      IsHeldBy b e p Third (p.start + w.latency) (readers_wait e w.reg) (third_holder e w)
  third-of e p w sound among late =
      until (readers_wait e w.reg) (λ to. IsHeldBy b e p Third (p.start + w.latency) to (third_holder e w)) (omega (arith, late))
      (λ k is. third-held b e p w k is sound.placed sound.positive among (omega (arith, is, late)))

  -- p waits for nothing before it starts: it stands in line
  in-line : (e : List Point) (p : Point) (h : Holder) (t : ℕ) → IsSound b e p → AllSound b e → AllReach e → Leads (Held h) p t → p.start ≤ t →
      WaitGoesOn First (Held h) p Ends p.issue t → p.issue ≡ slot e p → next_wait (Held h) e p ≡ line_until p.issue → HasSteps e p (Held h) t
  in-line e p h t sound all reach leads late goes is next =
      let started : p.issue ≤ t = omega (arith, late, goes.0) in
      elim (line-of b p.issue e p sound all is) [
        | inl (none, at) ↦
            let adds : t ≡ t - 0 = omega arith in
            with-rest e p (Held h) t [] (ap (λ w. walk w e) next ∙ none) (refl, leads, inr ((is, goes), inl (refl, at, adds)))
        | inr (later, q, rest, split, held, gap, le, walks) ↦
            let below : HasSteps rest q InLine q.issue = reach-at later q rest (subst AllReach split reach) InLine q.issue (refl, held) in
            let adds : t ≡ q.issue + (t - q.issue) = omega (arith, started, gap) in
            with-rest e p (Held h) t (stone q.number q.issue ∷ walk (next_wait InLine rest q) rest) (ap (λ w. walk w e) next ∙ walks)
            (refl, leads, inr ((is, goes), inr (q, rest, ((later, split), gap), adds, below)))
      ]

  -- nothing that it made waited, so what it waited for before it started
  from-start : (e : List Point) (p : Point) (h : Holder) (t : ℕ) → IsSound b e p → AllSound b e → AllReach e → Leads (Held h) p t → p.start ≤ t →
      lets_go h.cause t (unhindered p) ≡ true → next_wait (Held h) e p ≡ before_start e p → HasSteps e p (Held h) t
  from-start e p h t sound all reach leads late free next =
      elim (cases_Bool (nat_lt p.issue p.start)) [
        | inl waits ↦
            let second = ltb-true p.issue p.start waits in
            onward e p (Held h) t all reach leads Second p.issue p.start (second_holder e p) second (second-of e p sound second) free late
            (next ∙ cond-true (nat_lt p.issue p.start) (held_until (second_holder e p) p.start) (before_issue e p) waits)
        | inr starts ↦
            let same : p.start ≡ p.issue = omega (arith, ltb-false p.issue p.start starts, sound.placed.start) in
            let issued : next_wait (Held h) e p ≡ before_issue e p =
            next ∙ cond-false (nat_lt p.issue p.start) (held_until (second_holder e p) p.start) (before_issue e p) starts in
            let linked : (l : Link) → (if nat_lt (slot e p) p.issue then Held (first_holder e p) else InLine) ≡ l → next_wait (Held h) e p ≡ record { link = l; until = p.issue } =
            λ l leads_to. issued ∙ ap (λ (k : Link). record { link = k; until = p.issue }) leads_to in
            elim (cases_Bool (nat_lt (slot e p) p.issue)) [
              | inl waits ↦
                  let first = ltb-true (slot e p) p.issue waits in
                  onward e p (Held h) t all reach leads First (slot e p) p.issue (first_holder e p) first (first-of e p sound first) (same, free) (omega (arith, late, same))
                  (linked (Held (first_holder e p)) (cond-true (nat_lt (slot e p) p.issue) (Held (first_holder e p)) InLine waits))
              | inr slots ↦
                  let is : p.issue ≡ slot e p = omega (arith, ltb-false (slot e p) p.issue slots, sound.placed.issue.late, sound.placed.slot) in
                  in-line e p h t sound all reach leads late (same, free) is (linked InLine (cond-false (nat_lt (slot e p) p.issue) (Held (first_holder e p)) InLine slots))
            ]
      ]

  steps-from : (e : List Point) (p : Point) → IsSound b e p → AllSound b e → AllReach e → (link : Link) (t : ℕ) → Aims e p link t → HasSteps e p link t
  steps-from e p sound all reach InLine t (is, late) =
      onward e p InLine t all reach is First (slot e p) p.issue (first_holder e p) late (first-of e p sound late) is (omega (arith, is)) refl
  steps-from e p sound all reach (Held h) t (number, lets, some) =
      let late : p.start ≤ t = start-le b e p sound h.cause t some lets in
      elim (before-is b e p sound h.cause p.row.writes) [
        | inl (w, among, decided, held, next) ↦
            let with = lets-with b e p sound h.cause t lets w among decided held in
            let waits = ltb-true (p.start + w.latency) (readers_wait e w.reg) held in
            onward e p (Held h) t all reach (number, lets) Third (p.start + w.latency) (readers_wait e w.reg) (third_holder e w) waits (third-of e p w sound among waits)
            with.0 with.1 next
        | inr (none, next) ↦ from-start e p h t sound all reach (number, lets) late (lets-unhindered b e p sound h.cause t lets none) next
      ]

  reach : (s : List Point) → AllSound b s → AllReach s
  reach [] sound = tt
  reach (p ∷ e) sound = let rest = reach e sound.1 in (steps-from e p sound.0 sound.1 rest, rest)

-- THE SUM

pub adds-up : (b : Problem) (s : List Point) (p : Point) (link : Link) (t : ℕ) (xs : List Step) → IsPath b s p link t xs → weigh (λ (x : Step). x.adds) xs ≡ t
adds-up b s p link t [] is = absurd is
adds-up b s p link t (x ∷ xs) (number, leads, inl (to, cause, q, e, waits, adds, rest)) =
    omega (arith, adds, adds-up b e q (Held (record { cause = cause; number = q.number })) to xs rest)
adds-up b s p link t (x ∷ xs) (number, leads, inr (nothing, inl (none, at, adds))) =
    omega (arith, adds, ap (weigh (λ (y : Step). y.adds)) none)
adds-up b s p link t (x ∷ xs) (number, leads, inr (nothing, inr (q, e, line, adds, rest))) =
    omega (arith, adds, adds-up b e q InLine q.issue xs rest)

-- THE PATH OF AN ORDER

some-total : (b : Problem) (n : ℕ) (ns : List ℕ) → 1 ≤ total (points_of b (n ∷ ns))
some-total b n ns = omega (arith, greatest-stays b end_of (point_of b [] n ∷ []) ns, hold-le-free b [] n)

pub path-adds_up : (b : Problem) (ns : List ℕ) → 1 ≤ length ns → AreFromOne ns → AreEachOnce ns → AddsUp b (points_of b ns)
path-adds_up b [] some from once = absurd (omega (arith, some))
path-adds_up b (n ∷ ns) some from once =
    let s : List Point = points_of b (n ∷ ns) in
    let t : ℕ = total s in
    let positive : ArePositive s = positive-after b [] (n ∷ ns) (λ q none. absurd none) from in
    let sound : AllSound b s = all-sound b [] (n ∷ ns) tt (λ q none. absurd none) (λ q none. absurd none) once from in
    elim (found-or-none Ends t s positive) [
      | inl f ↦
          let split = among-split f.point s f.among in
          let q : Point = f.point in
          let e : List Point = split.1 in
          let last : Link = Held (record { cause = Ends; number = q.number }) in
          let path : IsPath b e q last t (steps_to b e q last t) = reach-at b split.0 q e (subst (AllReach b) split.2 (reach b s sound)) last t (refl, f.lets, some-total b n ns) in
          let h : Holder = holder Ends t s in
          let walks : walk (held_until h t) s ≡ stone q.number t ∷ walk (next_wait (Held h) e q) e =
          ap (walk (held_until h t)) split.2 ∙ walk-skip b h t split.0 q e f.number (subst (AllSound b) split.2 sound) in
          let back : reverse (steps s) ≡ steps_to b e q last t = steps-of_reverse (walk (held_until h t) s) ∙ ap steps_back walks in (
            sym (weigh-reverse (λ (x : Step). x.adds) (steps s)) ∙ ap (weigh (λ (x : Step). x.adds)) back ∙ adds-up b e q last t (steps_to b e q last t) path,
            (q, e, (split.0, split.2), subst (IsPath b e q last t) (sym back) path),
          )
      | inr none ↦
          let met = greatest-met end_of s (some-total b n ns) in
          absurd (true≢false (sym (eq-eqb (end_of met.0) t met.2) ∙ none.none met.0 met.1))
    ]
