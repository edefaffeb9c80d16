-- An unsplit prefix is closed if what remains of some numbers of one kind takes the bound.
use Rattle.std.proofs.Common.{ℕ, ◌+◌, ◌≤◌, ◌≡◌, true, true≢false, ◌||◌, ◌&&◌, List, [], ◌∷◌, length, map, refl, sym, arith, inl, inr, leb, ltb, leb-true}
use Rattle.std.proofs.lemmas.Bool.{and_parts, or_cases}
use Rattle.s66_isa.specs.{Kind, every, same_kind}
use Rattle.s66_model.specs.{Problem, row_at, is_remaining}
use Rattle.s66_model.proofs.Remaining.{remaining-parts}
use Rattle.s66_moments.specs.{Stage, Issue, Start, Origin, At, End, has_stage, soonest, Fact, Begins, IsNumber, Leads, use_time, IsBetween, AreBetween, IsFounded, IsClosedByLines, Network, tail}
use Rattle.s66_moments.specs.{Known, use_of, kind_of_load, arcs_of, are_rising, is_left_from, is_left, is_loaded, load_of}
use Rattle.s66_moments.proofs.KnownLines.{IsSound, arcs-steps, rising-once}
use Rattle.s66_moments.proofs.NextLeaves.{tail-leads, soonest-leads, left-moment}

-- a path that takes longer takes as long
shorter : (b : Problem) (facts : List Fact) (n : ℕ) (stage : Stage) (v w : ℕ) → v ≤ w → Leads b facts Origin w (At n stage) → Leads b facts Origin v (At n stage)
shorter b facts n stage v w le (hops, path, takes) = (hops, path, omega (arith, le, takes))

module _ (b : Problem) (facts : List Fact) (known : Known) (sound : IsSound b facts known) (prefix : List ℕ) (bound after : ℕ) where
  abbrev arcs : Network
  arcs = arcs_of b known

  abbrev now : List Fact
  now = Begins prefix ∷ facts

  module _ (kind : Kind) (time : ℕ) where
    left-leads : (n : ℕ) (stage : Stage) → is_remaining b.block prefix n ≡ true → has_stage (row_at b n) stage ≡ true → is_left_from b known prefix bound after time stage n ≡ true →
        (t : ℕ) × Leads b now Origin after (At n stage) × Leads b now (At n stage) t End × ((row_at b n).hold + 1 + bound ≤ after + time + t)
    left-leads n stage remains there h =
        let (begins, enough) = and_parts (leb after (soonest b prefix n stage)) (leb ((row_at b n).hold + 1 + bound) (after + time + tail b arcs (At n stage))) h in (
          tail b arcs (At n stage),
          shorter b now n stage after (soonest b prefix n stage) (leb-true after (soonest b prefix n stage) begins) (soonest-leads b bound facts prefix n stage remains),
          tail-leads b bound facts prefix arcs (At n stage) (arcs-steps b facts known sound) (left-moment b bound facts prefix n stage (remains, there)),
          leb-true ((row_at b n).hold + 1 + bound) (after + time + tail b arcs (At n stage)) enough,
        )

    left-between : (n : ℕ) → is_left b known prefix kind bound after time n ≡ true →
        IsNumber b n × (same_kind (row_at b n).kind kind ≡ true) × IsBetween b now Origin End after bound time (use_of b n)
    left-between n h =
        let (rest, ways) = and_parts (is_remaining b.block prefix n && same_kind (row_at b n).kind kind) (is_left_from b known prefix bound after time Issue n || is_left_from b known prefix bound after time Start n) h in
        let (remains, same) = and_parts (is_remaining b.block prefix n) (same_kind (row_at b n).kind kind) rest in
        let (from, to, new) = remaining-parts b.block prefix n remains in
        let between : IsBetween b now Origin End after bound time (use_of b n) =
        elim (or_cases (is_left_from b known prefix bound after time Issue n) (is_left_from b known prefix bound after time Start n) ways) [
          | inl issue ↦ (let (t, head, on, enough) = left-leads n Issue remains refl issue in inl (t, omega arith, head, on, enough))
          | inr start ↦ (let (t, head, on, enough) = left-leads n Start remains refl start in inr (inl (t, omega arith, head, on, enough)))
        ] in
        ((from, to), same, between)

    all-left : (ns : List ℕ) → every (is_left b known prefix kind bound after time) ns ≡ true → AreBetween b now kind Origin End after bound time (map (use_of b) ns)
    all-left [] h = tt
    all-left (n ∷ ns) h =
        let (here, past) = and_parts (is_left b known prefix kind bound after time n) _ h in
        let (is_n, same, between) = left-between n here in
        (is_n, same, between, all-left ns past)

  load-founded : (ns : List ℕ) → ltb 0 (length ns) ≡ true → are_rising ns ≡ true → every (is_left b known prefix (kind_of_load b ns) bound after (use_time b (kind_of_load b ns) (map (use_of b) ns))) ns ≡ true → IsFounded b bound now (load_of b bound after ns)
  load-founded [] some rises left = absurd (true≢false (sym some))
  load-founded (n ∷ ns) some rises left =
      (rising-once b n ns rises, all-left (kind_of_load b (n ∷ ns)) (use_time b (kind_of_load b (n ∷ ns)) (map (use_of b) (n ∷ ns))) (n ∷ ns) left)

  pub loaded-closed : (ns : List ℕ) → is_loaded b known prefix bound after ns ≡ true → IsClosedByLines b bound facts prefix (load_of b bound after ns ∷ [])
  loaded-closed ns h =
      let (rest, left) = and_parts (ltb 0 (length ns) && are_rising ns) _ h in
      let (some, rises) = and_parts (ltb 0 (length ns)) (are_rising ns) rest in
      ((load-founded ns some rises left, tt), inl (record { wait = bound; to = End } ∷ [], (inr (inl (inl refl)), refl), omega arith))
