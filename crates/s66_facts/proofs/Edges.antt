-- The arcs of what is known, and the longest paths in a direction by their last arcs.
use Rattle.std.proofs.Common.{ℕ, ◌+◌, ◌-◌, ◌*◌, ◌^◌, ◌≤◌, ◌<◌, ◌≡◌, ◌⊎◌, Bool, true, false, true≢false, cond, not, List, [], ◌∷◌, ◌++◌, length, refl, sym, ap, arith, inl, inr, eqb, ◌∙◌, subst, Option}
use Rattle.std.proofs.Common.{Some, None, eqb-true, eq-eqb, ne_eqb, le-leb}
use Rattle.std.proofs.lemmas.Bool.{and_from, or_cases, or_left, or_right, cond-true, cond-false, cases_Bool}
use Rattle.s66_isa.specs.{Reg, Among, Row, Write, same_reg, has_reg, memory_pair, instr_at}
use Rattle.s66_isa.proofs.Lists.{greatest-le}
use Rattle.s66_isa.proofs.GoodRows.{row-good}
use Rattle.s66_model.specs.{Problem, row_at, is_remaining}
use Rattle.s66_moments.specs.{Stage, Issue, Start, Done, Free, Moment, Origin, At, End, KnownArc, writes, fetches, has_stage, is_moment, only_if, own_arc, later_arc, arc, latency_to, Hop, waits}
use Rattle.s66_moments.specs.{IsNumber, Network, network, is_in_order, IsRising, IsNetworkPath, targets, same_moment, rank_by, place_by, later, latest, plus, span, with_loads}
use Rattle.s66_moments.proofs.TableArcs.{Some-same, None-none, only_if-parts}
use Rattle.s66_moments.proofs.Tails.{network-parts, path-short, all-among, arc-some}
use Rattle.s66_moments.proofs.MoreArcs.{same_moment-true, with-some, with-there, with-longer}
use Rattle.s66_moments.proofs.NextLeaves.{path-join, waits-join}
use Rattle.s66_moments.proofs.KnownLines.{loads-rise}
use Rattle.s66_moments.proofs.Spans.{height, height-later, height-latest, later-some, latest-some, plus-some, span-path, span-high, span-from_front, span-from_back}
use Rattle.s66_facts.specs.{Direction, Forward, Backward, before_in, Ground, ground_arcs, IsAcyclic, source, sooner, arc_start, arc_end, arcs_along, span_along, add, when, share_unit}

-- BELOW A HEIGHT

pub later-low : (o p : Option ℕ) (h : ℕ) → height o ≤ h → height p ≤ h → height (later o p) ≤ h
later-low o p h first second = omega (arith, first, second, height-later o p)

pub latest-low : {X : Type 0} (f : X → Option ℕ) (xs : List X) (h : ℕ) → ((x : X) → Among x xs → height (f x) ≤ h) → height (latest f xs) ≤ h
latest-low f xs h each = omega (arith, height-latest f xs, greatest-le (λ x. height (f x)) h xs each)

pub add-low : (o : Option ℕ) (w h : ℕ) → ((u : ℕ) → o ≡ Some u → u + w < h) → height (add o w) ≤ h
add-low None w h each = omega arith
add-low (Some t) w h each = omega (arith, each t refl)

pub when-low : (test : Bool) (o : Option ℕ) (h : ℕ) → (test ≡ true → height o ≤ h) → height (when test o) ≤ h
when-low true o h each = each refl
when-low false o h each = omega arith

pub only_if-low : (test : Bool) (h : ℕ) → (test ≡ true → 0 < h) → height (only_if test 0) ≤ h
only_if-low true h each = omega (arith, each refl)
only_if-low false h each = omega arith

-- ABOVE A NUMBER

abbrev pub most_time : ℕ
most_time = 2 ^ 64 - 1

pub add-high : (o : Option ℕ) (u v w : ℕ) → o ≡ Some u → u + v ≡ w → w ≤ most_time → w < height (add o v)
add-high None u v w is sum fits = absurd (None-none u is)
add-high (Some t) u v w is sum fits = omega (arith, Some-same t u is, sum, fits)

pub when-high : (test : Bool) (o : Option ℕ) (w : ℕ) → test ≡ true → w < height o → w < height (when test o)
when-high true o w is high = high
when-high false o w is high = absurd (true≢false (sym is))

-- an option between two heights
pub between : (o p : Option ℕ) → ((w : ℕ) → o ≡ Some w → w < height p) → height o ≤ height p
between None p each = omega arith
between (Some w) p each = omega (arith, each w refl)

-- THE ARCS OF LOADS

-- an arc that was there, or one of these
abbrev pub IsKindOf : Network → List KnownArc → Moment → Moment → ℕ → Type 0
IsKindOf arcs loads e f v = (arcs e f ≡ Some v) ⊎ ((l : KnownArc) × Among l loads × (e ≡ l.from) × (f ≡ l.to) × (v ≡ l.wait))

pub loads-cases : (arcs : Network) (loads : List KnownArc) (e f : Moment) (v : ℕ) → with_loads arcs loads e f ≡ Some v → IsKindOf arcs loads e f v
loads-cases arcs [] e f v is = inl is
loads-cases arcs (load ∷ loads) e f v is =
    elim (with-some (with_loads arcs loads) load.from load.wait load.to e f v is) [
      | inl old ↦
          elim (loads-cases arcs loads e f v old) [
            | inl table ↦ inl table
            | inr (l, among, from, to, wait) ↦ inr (l, inr among, from, to, wait)
          ]
      | inr (from, to, wait) ↦ inr (load, inl refl, from, to, wait)
    ]

-- an arc of this wait at least
abbrev pub HasArc : Network → Moment → ℕ → Moment → Type 0
HasArc arcs e w f = (v : ℕ) × (arcs e f ≡ Some v) × (w ≤ v)

pub loads-longer : (arcs : Network) (loads : List KnownArc) (e f : Moment) (w : ℕ) → HasArc arcs e w f → HasArc (with_loads arcs loads) e w f
loads-longer arcs [] e f w has = has
loads-longer arcs (load ∷ loads) e f w has =
    let (u, there, le) = loads-longer arcs loads e f w has in
    let (v, is, more) = with-longer (with_loads arcs loads) load.from load.wait load.to e f u there in
    (v, is, omega (arith, le, more))

pub loads-there : (arcs : Network) (loads : List KnownArc) (l : KnownArc) → Among l loads → HasArc (with_loads arcs loads) l.from l.wait l.to
loads-there arcs [] l among = absurd among
loads-there arcs (load ∷ loads) l among =
    elim among [
      | inl here ↦ subst (λ (k : KnownArc). HasArc (with_loads arcs (load ∷ loads)) k.from k.wait k.to) (sym here) (_, with-there (with_loads arcs loads) load.from load.wait load.to, omega arith)
      | inr past ↦
          let (u, there, le) = loads-there arcs loads l past in
          let (v, is, more) = with-longer (with_loads arcs loads) load.from load.wait load.to l.from l.to u there in
          (v, is, omega (arith, le, more))
    ]

-- THE ARCS OF THE TABLE are short

only_if-value : (test : Bool) (u v : ℕ) → only_if test u ≡ Some v → u ≡ v
only_if-value test u v is = (only_if-parts test u v is).1

module _ (b : Problem) where
  latency-short : (n : ℕ) (x : Reg) → latency_to (row_at b n) x ≤ 100
  latency-short n x =
      greatest-le (λ (w : Write). cond {A = ℕ} (same_reg w.reg x) w.latency 0) 100 (row_at b n).writes (λ w among.
      elim (cases_Bool (same_reg w.reg x)) [
        | inl is ↦ omega (arith, cond-true {A = ℕ} (same_reg w.reg x) w.latency 0 is, ((row-good b.profile (instr_at b.block n)).latencies w among).1)
        | inr off ↦ omega (arith, cond-false {A = ℕ} (same_reg w.reg x) w.latency 0 off)
      ])

  own-short : (n : ℕ) (s t : Stage) (v : ℕ) → own_arc (row_at b n) s t ≡ Some v → v ≤ 101
  own-short n Issue Start v is = omega (arith, Some-same 0 v is)
  own-short n Start (Done x) v is = omega (arith, Some-same (latency_to (row_at b n) x) v is, latency-short n x)
  own-short n Start Free v is = omega (arith, Some-same ((row_at b n).hold + 1) v is, (row-good b.profile (instr_at b.block n)).hold.1)
  own-short n (Done x) Free v is = omega (arith, only_if-value (not (fetches (row_at b n) x)) 1 v is)
  own-short n _ _ v is = absurd (None-none v is)

  -- the arcs that there are from one number to another
  pub later-cases : (m n : ℕ) (P : Stage → Stage → ℕ → Type 0) → P Issue Issue (row_at b m).parcels → ((x : Reg) → writes (row_at b n) x ≡ true → P (Done x) Issue 0) → (share_unit b m n ≡ true → P Free Issue 0) →
      ((x : Reg) → has_reg x (row_at b n).reads ≡ true → P (Done x) Start 0) → (memory_pair (row_at b m).memory (row_at b n).memory ≡ true → P Start Start 1) → ((x : Reg) → has_reg x (row_at b m).reads ≡ true → P Start (Done x) 1) →
      (s t : Stage) (v : ℕ) → later_arc b (row_at b m) (row_at b n) s t ≡ Some v → P s t v
  later-cases m n P parcels result unit operand memory reader Issue Issue v is = subst (P Issue Issue) (Some-same (row_at b m).parcels v is) parcels
  later-cases m n P parcels result unit operand memory reader (Done x) Issue v is = (let (written, nil) = only_if-parts (writes (row_at b n) x) 0 v is in subst (P (Done x) Issue) nil (result x written))
  later-cases m n P parcels result unit operand memory reader Free Issue v is = (let (shared, nil) = only_if-parts (share_unit b m n) 0 v is in subst (P Free Issue) nil (unit shared))
  later-cases m n P parcels result unit operand memory reader (Done x) Start v is = (let (read, nil) = only_if-parts (has_reg x (row_at b n).reads) 0 v is in subst (P (Done x) Start) nil (operand x read))
  later-cases m n P parcels result unit operand memory reader Start Start v is = (let (pair, one) = only_if-parts (memory_pair (row_at b m).memory (row_at b n).memory) 1 v is in subst (P Start Start) one (memory pair))
  later-cases m n P parcels result unit operand memory reader Start (Done x) v is = (let (read, one) = only_if-parts (has_reg x (row_at b m).reads) 1 v is in subst (P Start (Done x)) one (reader x read))
  later-cases m n P parcels result unit operand memory reader _ _ v is = absurd (None-none v is)

  later-short : (m n : ℕ) (s t : Stage) (v : ℕ) → later_arc b (row_at b m) (row_at b n) s t ≡ Some v → v ≤ 101
  later-short m n =
      later-cases m n (λ s t v. v ≤ 101) (omega (arith, (row-good b.profile (instr_at b.block m)).parcels.1))
      (λ x is. omega arith) (λ is. omega arith) (λ x is. omega arith) (λ is. omega arith) (λ x is. omega arith)

  -- of one number, or between two
  pub at-cases : (m n : ℕ) (s t : Stage) (v : ℕ) → arc b (At m s) (At n t) ≡ Some v →
      ((eqb m n ≡ true) × (own_arc (row_at b m) s t ≡ Some v)) ⊎ ((eqb m n ≡ false) × (later_arc b (row_at b m) (row_at b n) s t ≡ Some v))
  at-cases m n s t v is =
      let own : Option ℕ = own_arc (row_at b m) s t in
      let after : Option ℕ = later_arc b (row_at b m) (row_at b n) s t in
      elim (cases_Bool (eqb m n)) [
        | inl same ↦ inl (same, sym (cond-true {A = Option ℕ} (eqb m n) own after same) ∙ is)
        | inr other ↦ inr (other, sym (cond-false {A = Option ℕ} (eqb m n) own after other) ∙ is)
      ]

  arc-short : (e f : Moment) (v : ℕ) → arc b e f ≡ Some v → v ≤ 101
  arc-short Origin (At n f) v is = omega (arith, Some-same 0 v is)
  arc-short Origin End v is = omega (arith, Some-same 0 v is)
  arc-short (At m e) (At n f) v is =
      elim (at-cases m n e f v is) [
        | inl (same, own) ↦ own-short m e f v own
        | inr (other, later) ↦ later-short m n e f v later
      ]
  arc-short (At m (Done x)) End v is = omega (arith, Some-same 0 v is)
  arc-short (At m Free) End v is = omega (arith, Some-same 0 v is)
  arc-short _ _ v is = absurd (None-none v is)

-- SPANS

-- arcs of one number, and from one that comes sooner
abbrev pub own_along : Direction → Row → Stage → Stage → Option ℕ
own_along Forward r s t = own_arc r s t
own_along Backward r s t = own_arc r t s

abbrev pub later_along : Direction → Problem → ℕ → ℕ → Stage → Stage → Option ℕ
later_along Forward b m n s t = later_arc b (row_at b m) (row_at b n) s t
later_along Backward b m n s t = later_arc b (row_at b n) (row_at b m) t s

-- whether a stage has an arc from the moment at which all paths begin
abbrev pub is_reached : Direction → Stage → Bool
is_reached Backward Issue = false
is_reached Backward Start = false
is_reached _ _ = true

module _ (g : Ground) (ordered : IsAcyclic g) where
  abbrev b : Problem
  b = g.problem

  abbrev before : ℕ → ℕ → Bool
  before = before_in g.marks

  abbrev arcs : Network
  arcs = ground_arcs g

  abbrev pub rises : IsRising b arcs
  rises = (rank_by b (place_by b before), loads-rise b before ordered.transitive ordered.no_ring g.loads ordered.up)

  arcs-short : (e f : Moment) (v : ℕ) → arcs e f ≡ Some v → v ≤ 2 ^ 32
  arcs-short e f v is =
      elim (loads-cases (network b before) g.loads e f v is) [
        | inl table ↦ omega (arith, arc-short b e f v (network-parts b before e f v table).3)
        | inr load ↦ (let (l, among, from, to, wait) = load in omega (arith, wait, ordered.short l among))
      ]

  path-waits : (e : Moment) (hops : List Hop) (f : Moment) → IsNetworkPath arcs e hops f → waits hops ≤ length hops * 2 ^ 32
  path-waits e [] f path = omega arith
  path-waits e (hop ∷ hops) f path = omega (arith, arcs-short e hop.to hop.wait path.0, path-waits hop.to hops f path.1)

  fits : (e f : Moment) (w : ℕ) → span b arcs e f ≡ Some w → w ≤ most_time
  fits e f w is =
      let (hops, path, takes) = span-path b arcs e f w is in
      omega (arith, takes, path-waits e hops f path, path-short b arcs rises e hops f path, ordered.few)

  pub span-fits : (d : Direction) (e f : Moment) (w : ℕ) → span_along d g e f ≡ Some w → w ≤ most_time
  span-fits Forward e f w is = fits e f w is
  span-fits Backward e f w is = fits f e w is

  pub none-high : (d : Direction) (e f : Moment) → e ≡ f → 0 < height (span_along d g e f)
  none-high Forward e f same = span-high b arcs rises e [] f same
  none-high Backward e f same = span-high b arcs rises f [] e (sym same)

  -- BY THE LAST ARC

  pub last-arc : (d : Direction) (e f : Moment) (w : ℕ) → span_along d g e f ≡ Some w → ((e ≡ f) × (0 ≡ w)) ⊎ ((m : Moment) × (u v : ℕ) × (span_along d g e m ≡ Some u) × (arcs_along d arcs m f ≡ Some v) × (u + v ≡ w))
  last-arc Forward e f w is =
      elim (later-some (only_if (same_moment e f) 0) (latest (λ m. plus (span b arcs e m) (arcs m f)) (e ∷ targets b)) w (sym (span-from_back b arcs rises e f) ∙ is)) [
        | inl here ↦ (let parts = only_if-parts (same_moment e f) 0 w here in inl (same_moment-true e f parts.0, parts.1))
        | inr past ↦
            let (m, among, through) = latest-some (λ m. plus (span b arcs e m) (arcs m f)) (e ∷ targets b) w past in
            let (u, v, first, then, sum) = plus-some (span b arcs e m) (arcs m f) w through in
            inr (m, u, v, first, then, sum)
      ]
  last-arc Backward e f w is =
      elim (later-some (only_if (same_moment f e) 0) (latest (λ m. plus (arcs f m) (span b arcs m e)) (targets b)) w (sym (span-from_front b arcs rises f e) ∙ is)) [
        | inl here ↦ (let parts = only_if-parts (same_moment f e) 0 w here in inl (sym (same_moment-true f e parts.0), parts.1))
        | inr past ↦
            let (m, among, through) = latest-some (λ m. plus (arcs f m) (span b arcs m e)) (targets b) w past in
            let (v, u, first, then, sum) = plus-some (arcs f m) (span b arcs m e) w through in
            inr (m, u, v, then, first, omega (arith, sum))
      ]

  pub step : (d : Direction) (e m f : Moment) (u w : ℕ) → span_along d g e m ≡ Some u → HasArc (arcs_along d arcs) m w f → u + w < height (span_along d g e f)
  step Forward e m f u w is (v, there, le) =
      let (hops, path, takes) = span-path b arcs e m u is in
      let last : Hop = record { wait = v; to = f } in
      let high = span-high b arcs rises e (hops ++ (last ∷ [])) f (path-join (λ m w n. arcs m n ≡ Some w) e m f hops (last ∷ []) path (there, refl)) in
      omega (arith, high, waits-join hops (last ∷ []), takes, le)
  step Backward e m f u w is (v, there, le) =
      let (hops, path, takes) = span-path b arcs m e u is in
      let first : Hop = record { wait = v; to = m } in
      let high = span-high b arcs rises f (first ∷ hops) e (there, path) in
      omega (arith, high, takes, le)

  pub step-low : (d : Direction) (e m f : Moment) (o : Option ℕ) (w : ℕ) → o ≡ span_along d g e m → HasArc (arcs_along d arcs) m w f → height (add o w) ≤ height (span_along d g e f)
  step-low d e m f o w is has = add-low o w (height (span_along d g e f)) (λ u there. step d e m f u w (sym is ∙ there) has)

  -- nothing leads to the moment at which all paths begin
  pub to-source : (d : Direction) (e : Moment) (u : ℕ) → span_along d g e (source d) ≡ Some u → (e ≡ source d) × (0 ≡ u)
  to-source Forward e u is =
      elim (last-arc Forward e Origin u is) [
        | inl here ↦ here
        | inr past ↦
            let (m, x, v, first, then, sum) = past in
            absurd (no-origin (rises.1 m Origin (arc-some (arcs m Origin) v then).0).0)
      ]
    where
      no-origin : Among Origin (targets b) → ⊥
      no-origin (inl end) = true≢false (ap (λ m. same_moment Origin m) end)
      no-origin (inr among) = (let (n, stage, is_at, in_ns, there) = all-among b Origin _ among in true≢false (ap (λ m. same_moment Origin m) is_at))
  to-source Backward e u is =
      elim (last-arc Backward e End u is) [
        | inl here ↦ here
        | inr past ↦
            let (m, x, v, first, then, sum) = past in
            let (among, up, high) = rises.1 End m (arc-some (arcs End m) v then).0 in
            absurd (omega (arith, up, high))
      ]

  -- AN ARC

  table-arc : (e f : Moment) (w : ℕ) → is_moment b e ≡ true → is_moment b f ≡ true → is_in_order before e f ≡ true → arc b e f ≡ Some w → HasArc arcs e w f
  table-arc e f w is_e is_f stands is =
      loads-longer (network b before) g.loads e f w (w, rw (is_e, is_f, stands) is, omega arith)

  pub load-arc : (d : Direction) (l : KnownArc) → Among l g.loads → HasArc (arcs_along d arcs) (arc_start d l) l.wait (arc_end d l)
  load-arc Forward l among = loads-there (network b before) g.loads l among
  load-arc Backward l among = loads-there (network b before) g.loads l among

  pub is-stage : (m : ℕ) (s : Stage) → IsNumber b m → has_stage (row_at b m) s ≡ true → is_moment b (At m s) ≡ true
  is-stage m s is there =
      let stays : is_remaining b.block [] m ≡ true = rw (le-leb 1 m is.0, le-leb m _ is.1) refl in
      and_from (is_remaining b.block [] m) (has_stage (row_at b m) s) stays there

  own : (m : ℕ) → IsNumber b m → (s t : Stage) (w : ℕ) → has_stage (row_at b m) s ≡ true → has_stage (row_at b m) t ≡ true → own_arc (row_at b m) s t ≡ Some w → HasArc arcs (At m s) w (At m t)
  own m is_m s t w is_s is_t is =
      table-arc (At m s) (At m t) w (is-stage m s is_m is_s) (is-stage m t is_m is_t) (or_left (eqb m m) (before m m) (eq-eqb m m refl))
      (cond-true {A = Option ℕ} (eqb m m) (own_arc (row_at b m) s t) (later_arc b (row_at b m) (row_at b m) s t) (eq-eqb m m refl) ∙ is)

  pub own-edge : (d : Direction) (m : ℕ) → IsNumber b m → (s t : Stage) (w : ℕ) → has_stage (row_at b m) s ≡ true → has_stage (row_at b m) t ≡ true → own_along d (row_at b m) s t ≡ Some w → HasArc (arcs_along d arcs) (At m s) w (At m t)
  own-edge Forward m is_m s t w is_s is_t is = own m is_m s t w is_s is_t is
  own-edge Backward m is_m s t w is_s is_t is = own m is_m t s w is_t is_s is

  between-two : (m n : ℕ) → IsNumber b m → IsNumber b n → before m n ≡ true → (s t : Stage) (w : ℕ) → has_stage (row_at b m) s ≡ true → has_stage (row_at b n) t ≡ true → later_arc b (row_at b m) (row_at b n) s t ≡ Some w → HasArc arcs (At m s) w (At n t)
  between-two m n is_m is_n first s t w is_s is_t is =
      table-arc (At m s) (At n t) w (is-stage m s is_m is_s) (is-stage n t is_n is_t) (or_right (eqb m n) (before m n) first)
      (cond-false {A = Option ℕ} (eqb m n) (own_arc (row_at b m) s t) (later_arc b (row_at b m) (row_at b n) s t) (ne_eqb m n (λ same. true≢false (sym (subst (λ i. before i n ≡ true) same first) ∙ ordered.no_ring n is_n))) ∙ is)

  pub later-edge : (d : Direction) (m n : ℕ) → IsNumber b m → IsNumber b n → sooner d before m n ≡ true → (s t : Stage) (w : ℕ) → has_stage (row_at b m) s ≡ true → has_stage (row_at b n) t ≡ true → later_along d b m n s t ≡ Some w → HasArc (arcs_along d arcs) (At m s) w (At n t)
  later-edge Forward m n is_m is_n first s t w is_s is_t is = between-two m n is_m is_n first s t w is_s is_t is
  later-edge Backward m n is_m is_n last s t w is_s is_t is = between-two n m is_n is_m last t s w is_t is_s is

  pub source-edge : (d : Direction) (n : ℕ) → IsNumber b n → (t : Stage) → is_reached d t ≡ true → has_stage (row_at b n) t ≡ true → HasArc (arcs_along d arcs) (source d) 0 (At n t)
  source-edge Forward n is_n t is there = table-arc Origin (At n t) 0 refl (is-stage n t is_n there) refl refl
  source-edge Backward n is_n (Done x) is there = table-arc (At n (Done x)) End 0 (is-stage n (Done x) is_n there) refl refl refl
  source-edge Backward n is_n Free is there = table-arc (At n Free) End 0 (is-stage n Free is_n there) refl refl refl
  source-edge Backward n is_n _ is there = absurd (true≢false (sym is))

  -- WHAT LEADS to a moment of n

  abbrev pub Leads : Direction → ℕ → Moment → Stage → ℕ → Type 0
  Leads d n m t v =
      ((m ≡ source d) × (0 ≡ v) × (is_reached d t ≡ true))
      ⊎ (((s : Stage) × (m ≡ At n s) × (is_moment b (At n s) ≡ true) × (own_along d (row_at b n) s t ≡ Some v))
      ⊎ (((k : ℕ) × (s : Stage) × (m ≡ At k s) × (is_moment b (At k s) ≡ true) × (is_moment b (At n t) ≡ true) × (sooner d before k n ≡ true) × (later_along d b k n s t ≡ Some v))
      ⊎ ((l : KnownArc) × Among l g.loads × (m ≡ arc_start d l) × (At n t ≡ arc_end d l) × (v ≡ l.wait))))

  stands-before : (m n : ℕ) → eqb m n ≡ false → is_in_order before (At m Issue) (At n Issue) ≡ true → before m n ≡ true
  stands-before m n other stands =
      elim (or_cases (eqb m n) (before m n) stands) [
        | inl same ↦ absurd (true≢false (sym same ∙ other))
        | inr first ↦ first
      ]

  pub leads : (d : Direction) (n : ℕ) (m : Moment) (t : Stage) (v : ℕ) → arcs_along d arcs m (At n t) ≡ Some v → Leads d n m t v
  leads Forward n m t v is =
      elim (loads-cases (network b before) g.loads m (At n t) v is) [
        | inl table ↦ (let (is_m, is_t, stands, at) = network-parts b before m (At n t) v table in from_table m is_m is_t stands at)
        | inr load ↦ inr (inr (inr load))
      ]
    where
      from_table : (m : Moment) → is_moment b m ≡ true → is_moment b (At n t) ≡ true → is_in_order before m (At n t) ≡ true → arc b m (At n t) ≡ Some v → Leads Forward n m t v
      from_table Origin is is_t stands at = inl (refl, Some-same 0 v at, refl)
      from_table (At k s) is is_t stands at =
          elim (at-cases b k n s t v at) [
            | inl (same, arc_is) ↦
                let is_n : k ≡ n = eqb-true k n same in
                inr (inl (s, ap (λ i. At i s) is_n, subst (λ i. is_moment b (At i s) ≡ true) is_n is, subst (λ i. own_arc (row_at b i) s t ≡ Some v) is_n arc_is))
            | inr (other, arc_is) ↦ inr (inr (inl (k, s, refl, is, is_t, stands-before k n other stands, arc_is)))
          ]
      from_table End is is_t stands at = absurd (None-none v at)
  leads Backward n m t v is =
      elim (loads-cases (network b before) g.loads (At n t) m v is) [
        | inl table ↦ (let (is_t, is_m, stands, at) = network-parts b before (At n t) m v table in to_table m t is_m is_t stands at)
        | inr (l, among, from, to, wait) ↦ inr (inr (inr (l, among, to, from, wait)))
      ]
    where
      to_table : (m : Moment) (t : Stage) → is_moment b m ≡ true → is_moment b (At n t) ≡ true → is_in_order before (At n t) m ≡ true → arc b (At n t) m ≡ Some v → Leads Backward n m t v
      to_table Origin t is is_t stands at = absurd (None-none v at)
      to_table (At k s) t is is_t stands at =
          elim (at-cases b n k t s v at) [
            | inl (same, arc_is) ↦
                let is_n : k ≡ n = sym (eqb-true n k same) in
                inr (inl (s, ap (λ i. At i s) is_n, subst (λ i. is_moment b (At i s) ≡ true) is_n is, arc_is))
            | inr (other, arc_is) ↦ inr (inr (inl (k, s, refl, is, is_t, stands-before n k other stands, arc_is)))
          ]
      to_table End Issue is is_t stands at = absurd (None-none v at)
      to_table End Start is is_t stands at = absurd (None-none v at)
      to_table End (Done x) is is_t stands at = inl (refl, Some-same 0 v at, refl)
      to_table End Free is is_t stands at = inl (refl, Some-same 0 v at, refl)
