-- Fact lines that are taken are founded, and what is known after them is known by their facts.
use Rattle.std.proofs.Common.{ℕ, ◌+◌, ◌*◌, ◌≤◌, ◌<◌, ◌≡◌, ◌≢◌, ◌⊎◌, Bool, true, false, true≢false, not, ◌||◌, List, [], ◌∷◌, ◌++◌, ◌-◌, length, map, refl, sym, ap, arith, inl, inr, eqb, leb, ltb, ◌∙◌}
use Rattle.std.proofs.Common.{subst, Option, Some, None, is_some, eqb-true, eq-eqb, ne_eqb, leb-true, ltb-true}
use Rattle.std.proofs.lemmas.Bool.{and_parts, or_cases, or_left, not-true, eqb-false}
use Rattle.s66_isa.specs.{Kind, every, has, Among, same_kind}
use Rattle.s66_isa.proofs.Lists.{split-among}
use Rattle.s66_model.specs.{Problem, row_at, copies, is_remaining}
use Rattle.s66_model.proofs.Remaining.{remaining-parts}
use Rattle.s66_model.proofs.LongestChain.{greatest-reached}
use Rattle.s66_moments.specs.{Stage, Issue, Start, Done, Free, Moment, Origin, At, End, FactLine, Pair, Load, LoadLine, KnownArc, is_moment, Fact, Arc, Before, Begins, IsNumber, AreOnce, IsStep, Hop}
use Rattle.s66_moments.specs.{IsPath, waits, Leads, Use, LoadArc, fact_of, IsLateByParcels, IsLateByUnit, use_time, IsBetween, AreBetween, IsFoundedByPaths, IsTooLate, IsFounded, AreFounded}
use Rattle.s66_moments.specs.{facts_after, Network, network, IsKnown, AreSteps, IsRising, RisesBy, HasOwnArcs, IsTransitive, HasNoRing, IsNetworkPath, targets, most_arcs, rank_by, place_by}
use Rattle.s66_moments.specs.{moments_of, with_arc, with_pair, soonest_path, tail, Known, is_front, is_back, use_of, kind_of_load, line_of, plus, span, reaches, known_first, with_line, with_loads}
use Rattle.s66_moments.specs.{arcs_of, is_number, is_late_by_parcels, is_late_by_unit, is_pair_taken, are_rising, leads_up, is_used_from, is_used, are_used, is_arc_up, is_load_taken, is_taken}
use Rattle.s66_moments.specs.{are_taken, known_after, next_value, is_turned}
use Rattle.s66_moments.proofs.TableArcs.{and_three, and_four, and_five, Some-same, moment-number}
use Rattle.s66_moments.proofs.Tails.{moment-target, network-steps, network-rises_by, network-own, own-among, tail-reached, path-tail, some-arc, arc-some}
use Rattle.s66_moments.proofs.MoreArcs.{with-steps, with-rises, with-own, with-longer, pair-known}
use Rattle.s66_moments.proofs.Rings.{places, pair-transitive, pair-no_ring}
use Rattle.s66_moments.proofs.Preceders.{precedes-known, precedes-transitive, precedes-no_ring}
use Rattle.s66_moments.proofs.NextLeaves.{precedes-more, next-late, turned-late, path-join, waits-join}
use Rattle.s66_moments.proofs.Spans.{height, plus-some, some-height, span-path, span-high}

-- WHAT IS KNOWN by facts

pub record IsSound (b : Problem) (facts : List Fact) (known : Known) : Type 0 where
  pub is_known : IsKnown b facts known.before
  pub transitive : IsTransitive b known.before
  pub no_ring : HasNoRing b known.before
  pub up : (load : KnownArc) → Among load known.loads → is_arc_up b known.before load.from load.to ≡ true
  pub among : (load : KnownArc) → Among load known.loads → Among (Arc load.from load.wait load.to 0) facts

pub number-is : (b : Problem) (n : ℕ) → is_number b n ≡ true → IsNumber b n
number-is b n h =
    let (low, high) = and_parts (leb 1 n) (leb n (length b.block)) h in
    (leb-true 1 n low, leb-true n (length b.block) high)

-- what its test says
pub up-parts : (b : Problem) (before : ℕ → ℕ → Bool) (e f : Moment) → is_arc_up b before e f ≡ true →
    (is_front e ≡ true) × (is_moment b e ≡ true) × (is_back f ≡ true) × (is_moment b f ≡ true) × (leads_up before e f ≡ true)
up-parts b before e f h = and_five (is_front e) (is_moment b e) (is_back f) (is_moment b f) (leads_up before e f) h

-- which still leads up with a pair more
pub up-pair : (b : Problem) (before : ℕ → ℕ → Bool) (m n : ℕ) (e f : Moment) → is_arc_up b before e f ≡ true → is_arc_up b (with_pair before m n) e f ≡ true
up-pair b before m n e f h =
    let (front, is_e, back, is_f, leads) = up-parts b before e f h in
    rw (front, is_e, back, is_f) (up-more e f leads)
  where
    up-more : (e f : Moment) → leads_up before e f ≡ true → leads_up (with_pair before m n) e f ≡ true
    up-more Origin f h = refl
    up-more (At i s) Origin h = refl
    up-more (At i s) (At j t) h = or_left (before i j) _ h
    up-more (At i s) End h = refl
    up-more End f h = refl

-- what the test of a pair says
pub pair-tests : (b : Problem) (bound : ℕ) (known : Known) (m n : ℕ) → is_pair_taken b bound known m n ≡ true →
    (m ≢ n) × IsNumber b m × IsNumber b n × (known.before n m ≡ false) × ((is_late_by_parcels b (arcs_of b known) bound m n || is_late_by_unit b (arcs_of b known) bound m n) ≡ true)
pair-tests b bound known m n h =
    let late_ways = is_late_by_parcels b (arcs_of b known) bound m n || is_late_by_unit b (arcs_of b known) bound m n in
    let (differ, is_m, is_n, off, late) = and_five (not (eqb m n)) (is_number b m) (is_number b n) (not (known.before n m)) late_ways h in
    (eqb-false m n (not-true (eqb m n) differ), number-is b m is_m, number-is b n is_n, not-true (known.before n m) off, late)

-- ITS ARCS

module _ (b : Problem) where
  loads-steps : (facts : List Fact) (arcs : Network) (loads : List KnownArc) → AreSteps b facts arcs → ((load : KnownArc) → Among load loads → Among (Arc load.from load.wait load.to 0) facts) → AreSteps b facts (with_loads arcs loads)
  loads-steps facts arcs [] steps among = steps
  loads-steps facts arcs (load ∷ loads) steps among =
      with-steps b facts (with_loads arcs loads) load.from load.wait load.to (loads-steps facts arcs loads steps (λ l in_loads. among l (inr in_loads))) (among load (inl refl))

  pub loads-own : (arcs : Network) (loads : List KnownArc) → HasOwnArcs b arcs → HasOwnArcs b (with_loads arcs loads)
  loads-own arcs [] own = own
  loads-own arcs (load ∷ loads) own = with-own (with_loads arcs loads) load.from load.wait load.to b (loads-own arcs loads own)

  -- an arc that is there stays
  pub loads-some : (arcs : Network) (loads : List KnownArc) (e f : Moment) → is_some (arcs e f) ≡ true → is_some (with_loads arcs loads e f) ≡ true
  loads-some arcs [] e f h = h
  loads-some arcs (load ∷ loads) e f h =
      let there = loads-some arcs loads e f h in
      let (v, is, le) = with-longer (with_loads arcs loads) load.from load.wait load.to e f _ (some-arc (with_loads arcs loads e f) there) in
      (arc-some (with_arc (with_loads arcs loads) load.from load.wait load.to e f) v is).0

  module _ (before : ℕ → ℕ → Bool) (through : IsTransitive b before) (none : HasNoRing b before) where
    abbrev rank : Moment → ℕ
    rank = rank_by b (place_by b before)

    arc-target : (f : Moment) → is_back f ≡ true → is_moment b f ≡ true → Among f (targets b)
    arc-target Origin back is = absurd (true≢false (sym back))
    arc-target (At n stage) back is = moment-target b n stage is
    arc-target End back is = inl refl

    arc-high : (f : Moment) → is_back f ≡ true → is_moment b f ≡ true → rank f ≤ most_arcs b
    arc-high (At n Issue) back is = (let placed = (places b before through none).0 n (moment-number b n Issue is) in omega (arith, placed.1))
    arc-high (At n Start) back is = (let placed = (places b before through none).0 n (moment-number b n Start is) in omega (arith, placed.1))
    arc-high End back is = omega arith
    arc-high _ back is = absurd (true≢false (sym back))

    -- an issue or a start
    early : (n : ℕ) (stage : Stage) → is_front (At n stage) ≡ true → rank (At n stage) ≤ 4 * place_by b before n - 2
    early n (Done x) h = absurd (true≢false (sym h))
    early n Free h = absurd (true≢false (sym h))
    early n _ h = omega arith

    late : (n : ℕ) (stage : Stage) → 4 * place_by b before n - 3 ≤ rank (At n stage)
    late n (Done x) = omega arith
    late n _ = omega arith

    arc-up : (e f : Moment) → is_front e ≡ true → is_moment b e ≡ true → is_back f ≡ true → is_moment b f ≡ true → leads_up before e f ≡ true → rank e < rank f
    arc-up Origin (At n stage) front is_e back is_f up =
        let placed = (places b before through none).0 n (moment-number b n stage is_f) in
        omega (arith, placed.0, late n stage)
    arc-up Origin End front is_e back is_f up = omega arith
    arc-up (At m e) (At n f) front is_e back is_f up =
        let is_m = moment-number b m e is_e in
        let is_n = moment-number b n f is_f in
        let rises = (places b before through none).1 m n is_m is_n up in
        let placed = (places b before through none).0 m is_m in
        omega (arith, placed.0, rises, early m e front, late n f)
    arc-up (At m e) End front is_e back is_f up =
        let placed = (places b before through none).0 m (moment-number b m e is_e) in
        omega (arith, placed.0, placed.1, early m e front)
    arc-up End f front is_e back is_f up = absurd (true≢false (sym front))
    arc-up _ Origin front is_e back is_f up = absurd (true≢false (sym back))

    pub loads-rise : (loads : List KnownArc) → ((load : KnownArc) → Among load loads → is_arc_up b before load.from load.to ≡ true) → RisesBy b (with_loads (network b before) loads) rank
    loads-rise [] up = network-rises_by b before (place_by b before) (places b before through none)
    loads-rise (load ∷ loads) up =
        let (front, is_e, back, is_f, leads) = up-parts b before load.from load.to (up load (inl refl)) in
        with-rises (with_loads (network b before) loads) load.from load.wait load.to b rank (loads-rise loads (λ l among. up l (inr among)))
        (arc-target load.to back is_f) (arc-up load.from load.to front is_e back is_f leads) (arc-high load.to back is_f)

module _ (b : Problem) (facts : List Fact) (known : Known) (sound : IsSound b facts known) where
  pub arcs-steps : AreSteps b facts (arcs_of b known)
  arcs-steps = loads-steps b facts (network b known.before) known.loads (network-steps b known.before facts sound.is_known) sound.among

  pub arcs-own : HasOwnArcs b (arcs_of b known)
  arcs-own = loads-own b (network b known.before) known.loads (network-own b known.before)

  pub arcs-rise : IsRising b (arcs_of b known)
  arcs-rise = (rank_by b (place_by b known.before), loads-rise b known.before sound.transitive sound.no_ring known.loads sound.up)

  -- SPANS LEAD

  step-path : (e f : Moment) (hops : List Hop) → IsNetworkPath (arcs_of b known) e hops f → IsPath (IsStep b facts) e hops f
  step-path e f [] path = path
  step-path e f (hop ∷ hops) path = (arcs-steps e hop.to hop.wait path.0, step-path hop.to f hops path.1)

  abbrev S : Moment → Moment → Option ℕ
  S e f = span b (arcs_of b known) e f

  pub span-leads : (e f : Moment) (w : ℕ) → S e f ≡ Some w → Leads b facts e w f
  span-leads e f w is =
      let (hops, path, takes) = span-path b (arcs_of b known) e f w is in
      (hops, step-path e f hops path, omega (arith, takes))

  pub reaches-some : (low : ℕ) (o : Option ℕ) → reaches low o ≡ true → (w : ℕ) × (o ≡ Some w) × (low ≤ w)
  reaches-some low None h = absurd (true≢false (sym h))
  reaches-some low (Some w) h = (w, refl, leb-true low w h)

  reaches-leads : (low : ℕ) (e f : Moment) → reaches low (S e f) ≡ true → Leads b facts e low f
  reaches-leads low e f h =
      let (w, is, le) = reaches-some low (S e f) h in
      let (hops, path, takes) = span-leads e f w is in
      (hops, path, omega (arith, le, takes))

  -- PAIRS

  module _ (bound m n : ℕ) where
    by_parcels : is_late_by_parcels b (arcs_of b known) bound m n ≡ true → IsLateByParcels b bound facts n m
    by_parcels h =
        let (w, is, le) = reaches-some bound (plus (plus (S Origin (At n Issue)) (Some (row_at b n).parcels)) (S (At m Issue) End)) h in
        let (u, t, first, tail, sum) = plus-some (plus (S Origin (At n Issue)) (Some (row_at b n).parcels)) (S (At m Issue) End) w is in
        let (v, p, head, parcels, sum2) = plus-some (S Origin (At n Issue)) (Some (row_at b n).parcels) u first in
        (v, t, span-leads Origin (At n Issue) v head, span-leads (At m Issue) End t tail, omega (arith, le, sum, sum2, Some-same (row_at b n).parcels p parcels))

    by_unit : is_late_by_unit b (arcs_of b known) bound m n ≡ true → IsLateByUnit b bound facts n m
    by_unit h =
        let (same, one, late) = and_three (same_kind (row_at b n).kind (row_at b m).kind) (eqb (copies b (row_at b m).kind) 1) (reaches bound (plus (S Origin (At n Free)) (S (At m Issue) End))) h in
        let (w, is, le) = reaches-some bound (plus (S Origin (At n Free)) (S (At m Issue) End)) late in
        let (u, t, head, tail, sum) = plus-some (S Origin (At n Free)) (S (At m Issue) End) w is in
        (u, t, (same, eqb-true (copies b (row_at b m).kind) 1 one), span-leads Origin (At n Free) u head, span-leads (At m Issue) End t tail, omega (arith, le, sum))

    pair-parts : is_pair_taken b bound known m n ≡ true → (m ≢ n) × IsNumber b m × IsNumber b n × (known.before n m ≡ false) × (IsLateByParcels b bound facts n m ⊎ IsLateByUnit b bound facts n m)
    pair-parts h =
        let (differ, is_m, is_n, off, late) = pair-tests b bound known m n h in
        let ways : IsLateByParcels b bound facts n m ⊎ IsLateByUnit b bound facts n m = elim (or_cases (is_late_by_parcels b (arcs_of b known) bound m n) (is_late_by_unit b (arcs_of b known) bound m n) late) [
          | inl parcels ↦ inl (by_parcels parcels)
          | inr unit ↦ inr (by_unit unit)
        ] in
        (differ, is_m, is_n, off, ways)

  -- LOADS

  module _ (line : LoadLine) (kind : Kind) (time : ℕ) where
    used-leads : (stage : Stage) (n : ℕ) → is_used_from b (arcs_of b known) line time stage n ≡ true →
        (t : ℕ) × Leads b facts line.from line.after (At n stage) × Leads b facts (At n stage) t line.to × ((row_at b n).hold + 1 + line.wait ≤ line.after + time + t)
    used-leads stage n h =
        let (head, rest) = and_parts (reaches line.after (S line.from (At n stage))) _ h in
        let (w, is, le) = reaches-some ((row_at b n).hold + 1 + line.wait) (plus (Some (line.after + time)) (S (At n stage) line.to)) rest in
        let (u, t, sum, tail, adds) = plus-some (Some (line.after + time)) (S (At n stage) line.to) w is in
        (t, reaches-leads line.after line.from (At n stage) head, span-leads (At n stage) line.to t tail, omega (arith, le, adds, Some-same (line.after + time) u sum))

    used-between : (n : ℕ) → is_used b (arcs_of b known) line kind time n ≡ true →
        IsNumber b n × (same_kind (row_at b n).kind kind ≡ true) × IsBetween b facts line.from line.to line.after line.wait time (use_of b n)
    used-between n h =
        let (is_n, same, ways) = and_three (is_number b n) (same_kind (row_at b n).kind kind) (is_used_from b (arcs_of b known) line time Issue n || is_used_from b (arcs_of b known) line time Start n) h in
        let between : IsBetween b facts line.from line.to line.after line.wait time (use_of b n) =
        elim (or_cases (is_used_from b (arcs_of b known) line time Issue n) (is_used_from b (arcs_of b known) line time Start n) ways) [
          | inl issue ↦ (let (t, head, tail, enough) = used-leads Issue n issue in inl (t, omega arith, head, tail, enough))
          | inr start ↦ (let (t, head, tail, enough) = used-leads Start n start in inr (inl (t, omega arith, head, tail, enough)))
        ] in
        (number-is b n is_n, same, between)

    all-between : (ns : List ℕ) → every (is_used b (arcs_of b known) line kind time) ns ≡ true → AreBetween b facts kind line.from line.to line.after line.wait time (map (use_of b) ns)
    all-between [] h = tt
    all-between (n ∷ ns) h =
        let (here, past) = and_parts (is_used b (arcs_of b known) line kind time n) _ h in
        let (is_n, same, between) = used-between n here in
        (is_n, same, between, all-between ns past)

-- what rises has no number twice
module _ (b : Problem) where
  abbrev numbers_used : List ℕ → List ℕ
  numbers_used ns = map (λ (v : Use). v.number) (map (use_of b) ns)

  rising-none : (k n : ℕ) (ns : List ℕ) → k < n → are_rising (n ∷ ns) ≡ true → has k (numbers_used (n ∷ ns)) ≡ false
  rising-none k n [] less h = rw (ne_eqb k n (λ e. absurd (omega (arith, less, e)))) refl
  rising-none k n (m ∷ ns) less h =
      let (up, rest) = and_parts (ltb n m) (are_rising (m ∷ ns)) h in
      let further : has k (numbers_used (m ∷ ns)) ≡ false = rising-none k m ns (omega (arith, less, ltb-true n m up)) rest in
      rw (ne_eqb k n (λ e. absurd (omega (arith, less, e)))) further

  pub rising-once : (n : ℕ) (ns : List ℕ) → are_rising (n ∷ ns) ≡ true → AreOnce (numbers_used (n ∷ ns))
  rising-once n [] h = (refl, tt)
  rising-once n (m ∷ ns) h =
      let (up, rest) = and_parts (ltb n m) (are_rising (m ∷ ns)) h in
      (rising-none n m ns (ltb-true n m up) rest, rising-once m ns rest)

-- A LINE

module _ (b : Problem) (bound : ℕ) (facts : List Fact) (known : Known) (sound : IsSound b facts known) where
  load-founded : (line : LoadLine) (ns : List ℕ) → line.numbers.items ≡ ns → ltb 0 (length ns) ≡ true → are_rising ns ≡ true → every (is_used b (arcs_of b known) line (kind_of_load b ns) (use_time b (kind_of_load b ns) (map (use_of b) ns))) ns ≡ true →
      IsFounded b bound facts (LoadArc (kind_of_load b ns) line.from line.to line.after line.wait (map (use_of b) ns))
  load-founded line [] is some rises used = absurd (true≢false (sym some))
  load-founded line (n ∷ ns) is some rises used =
      (rising-once b n ns rises, all-between b facts known sound line (kind_of_load b (n ∷ ns)) (use_time b (kind_of_load b (n ∷ ns)) (map (use_of b) (n ∷ ns))) (n ∷ ns) used)

  load-parts : (line : LoadLine) → is_load_taken b known line ≡ true →
      (is_arc_up b known.before line.from line.to ≡ true) × IsFounded b bound facts (line_of b (Load line))
  load-parts line h =
      let ns : List ℕ = line.numbers.items in
      let (up, some, rises, used) = and_four (is_arc_up b known.before line.from line.to) (ltb 0 (length ns)) (are_rising ns) (are_used b (arcs_of b known) line (kind_of_load b ns)) h in
      (up, load-founded line ns refl some rises used)

  pub line-by_paths : (line : FactLine) → is_taken b bound known line ≡ true → IsFoundedByPaths b bound facts (line_of b line)
  line-by_paths (Pair m n) h =
      let (differ, is_m, is_n, off, late) = pair-parts b facts known sound bound m n h in
      ((λ e. differ (sym e)), is_n, is_m, late)
  line-by_paths (Load line) h = (load-parts line h).1

  pub line-founded : (line : FactLine) → is_taken b bound known line ≡ true → IsFounded b bound facts (line_of b line)
  line-founded (Pair m n) h = line-by_paths (Pair m n) h
  line-founded (Load line) h = line-by_paths (Load line) h

  -- with a pair that forms no ring
  pub pair-sound : (m n : ℕ) → m ≢ n → IsNumber b m → IsNumber b n → known.before n m ≡ false →
      IsSound b (Before m n ∷ facts) (record { before = with_pair known.before m n; loads = known.loads })
  pair-sound m n differ is_m is_n off =
      record {
        is_known = pair-known b (Before m n ∷ facts) known.before m n (known-more (Before m n)) is_m is_n (inl refl);
        transitive = pair-transitive b known.before m n is_m is_n sound.transitive;
        no_ring = pair-no_ring b known.before m n is_m is_n sound.transitive sound.no_ring differ off;
        up = λ load among. up-pair b known.before m n load.from load.to (sound.up load among);
        among = λ load among. inr (sound.among load among);
      }
    where
      known-more : (fact : Fact) → IsKnown b (fact ∷ facts) known.before
      known-more fact i j is_i is_j first = precedes-more b facts fact i j (sound.is_known i j is_i is_j first)

  pub line-sound : (line : FactLine) → is_taken b bound known line ≡ true → IsSound b (fact_of (line_of b line) ∷ facts) (with_line known line)
  line-sound (Pair m n) h =
      let (differ, is_m, is_n, off, late) = pair-parts b facts known sound bound m n h in
      pair-sound m n differ is_m is_n off
  line-sound (Load line) h =
      let (up, founded) = load-parts line h in
      record {
        is_known = λ i j is_i is_j first. precedes-more b facts (Arc line.from line.wait line.to 0) i j (sound.is_known i j is_i is_j first);
        transitive = sound.transitive;
        no_ring = sound.no_ring;
        up = λ load among. elim (split-among load known.loads _ among) [
          | inl past ↦ sound.up load past
          | inr new ↦ subst (λ (l : KnownArc). is_arc_up b known.before l.from l.to ≡ true) (sym (only load new)) up
        ];
        among = λ load among. elim (split-among load known.loads _ among) [
          | inl past ↦ inr (sound.among load past)
          | inr new ↦ inl (ap (λ (l : KnownArc). Arc l.from l.wait l.to 0) (only load new))
        ];
      }
    where
      only : (load : KnownArc) → Among load (record { from = line.from; wait = line.wait; to = line.to } ∷ []) → load ≡ record { from = line.from; wait = line.wait; to = line.to }
      only load (inl here) = here
      only load (inr past) = absurd past

-- ALL LINES

pub lines-founded : (b : Problem) (bound : ℕ) (facts : List Fact) (known : Known) (lines : List FactLine) → IsSound b facts known → are_taken b bound known lines ≡ true →
    AreFounded b bound facts (map (line_of b) lines) × IsSound b (facts_after facts (map (line_of b) lines)) (known_after known lines)
lines-founded b bound facts known [] sound h = (tt, sound)
lines-founded b bound facts known (line ∷ lines) sound h =
    let (here, past) = and_parts (is_taken b bound known line) _ h in
    let (founded, after) = lines-founded b bound (fact_of (line_of b line) ∷ facts) (with_line known line) lines (line-sound b bound facts known sound line here) past in
    ((line-founded b bound facts known sound line here, founded), after)

-- before the first line
pub first-sound : (b : Problem) → IsSound b [] (known_first b)
first-sound b =
    record {
      is_known = precedes-known b [];
      transitive = precedes-transitive b;
      no_ring = precedes-no_ring b;
      up = λ load among. absurd among;
      among = λ load among. absurd among;
    }

pub after-sound : (b : Problem) (bound : ℕ) (lines : List FactLine) → are_taken b bound (known_first b) lines ≡ true →
    AreFounded b bound [] (map (line_of b) lines) × IsSound b (facts_after [] (map (line_of b) lines)) (known_after (known_first b) lines)
after-sound b bound lines h = lines-founded b bound [] (known_first b) lines (first-sound b) h

-- LEAVES

module _ (b : Problem) (facts : List Fact) (known : Known) (sound : IsSound b facts known) where
  abbrev arcs : Network
  arcs = arcs_of b known

  pub next-too_late : (bound : ℕ) (prefix : List ℕ) (n : ℕ) → is_remaining b.block prefix n ≡ true → bound ≤ next_value b known prefix n → IsTooLate b bound (Begins prefix ∷ facts)
  next-too_late bound prefix n remains le =
      let (e, among, same) = greatest-reached (soonest_path b arcs prefix) (At n Issue) (moments_of b n) (inl refl) in
      let (m, stage, is, number, there) = own-among b e n [] among in
      let of_n : m ≡ n = elim number [
        | inl here ↦ here
        | inr past ↦ absurd past
      ] in
      let left : is_remaining b.block prefix m ≡ true = subst (λ k. is_remaining b.block prefix k ≡ true) (sym of_n) remains in
      next-late b bound facts prefix arcs m stage (arcs-steps b facts known sound) (left, there) (omega (arith, le, same, ap (soonest_path b arcs prefix) is))

  pub turned-too_late : (bound : ℕ) (prefix : List ℕ) (m n : ℕ) → is_turned b known prefix m n ≡ true → IsTooLate b bound (Begins prefix ∷ facts)
  turned-too_late bound prefix m n h =
      let (remains, number, there, first) = and_four (is_remaining b.block prefix m) (is_number b n) (has n prefix) (known.before m n) h in
      let (low, high, new) = remaining-parts b.block prefix m remains in
      let is_n : IsNumber b n = number-is b n number in
      turned-late b bound facts prefix m n (low, high) is_n (sound.is_known m n (low, high) is_n first) (there, new)

  -- TAILS: each moment leads to the end

  abbrev LeadsOn : Moment → Type 0
  LeadsOn e = (hops : List Hop) × IsNetworkPath arcs e hops End

  -- by an arc of the table
  one-more : (e f : Moment) (w : ℕ) → network b known.before e f ≡ Some w → LeadsOn f → LeadsOn e
  one-more e f w is (hops, path) =
      let there : is_some (arcs e f) ≡ true = loads-some b (network b known.before) known.loads e f (arc-some (network b known.before e f) w is).0 in
      (record { wait = _; to = f } ∷ hops, (some-arc (arcs e f) there, path))

  free-on : (n : ℕ) → is_moment b (At n Free) ≡ true → LeadsOn (At n Free)
  free-on n is = one-more (At n Free) End 0 (rw is refl) ([], refl)

  start-on : (n : ℕ) → is_moment b (At n Start) ≡ true → LeadsOn (At n Start)
  start-on n is = one-more (At n Start) (At n Free) ((row_at b n).hold + 1) (rw (is, eq-eqb n n refl) refl) (free-on n is)

  leads-on : (e : Moment) → is_moment b e ≡ true → LeadsOn e
  leads-on Origin is = one-more Origin End 0 refl ([], refl)
  leads-on (At n Issue) is = one-more (At n Issue) (At n Start) 0 (rw (is, eq-eqb n n refl) refl) (start-on n is)
  leads-on (At n Start) is = start-on n is
  leads-on (At n (Done x)) is = one-more (At n (Done x)) End 0 (rw is refl) ([], refl)
  leads-on (At n Free) is = free-on n is
  leads-on End is = ([], refl)

  pub span-tail : (e : Moment) → is_moment b e ≡ true → span b arcs e End ≡ Some (tail b arcs e)
  span-tail e is =
      let rises : IsRising b arcs = arcs-rise b facts known sound in
      let (hops, f, path, takes, ends) = tail-reached b arcs (most_arcs b) e in
      let (more, then) = leads-on f (ends is) in
      let high : waits (hops ++ more) < height (span b arcs e End) = span-high b arcs rises e (hops ++ more) End (path-join (λ m w n. arcs m n ≡ Some w) e f End hops more path then) in
      let (v, there, le) = some-height (span b arcs e End) (waits (hops ++ more)) high in
      let (longest, along, sum) = span-path b arcs e End v there in
      there ∙ ap (λ k. Some k) (omega (arith, le, takes, waits-join hops more, sum, path-tail b arcs rises e longest End along))
