-- Where the test of dominance in use says yes there is such dominance, if what is known is. It does so of all that dominates clamped.
use Rattle.std.proofs.Common.{ℕ, ◌+◌, ◌≤◌, ◌<◌, ◌≡◌, ◌⊎◌, ◌==◌, Bool, true, max, List, [], get_or, arith, inr, leb, ltb, Decides, refl, None, false, le-leb, leb-true, eqb-true, eq-eqb}
use Rattle.std.proofs.lemmas.Bool.Decides.{Decides-like, Decides-and, Decides-or, Decides-ltb}
use Rattle.s66_isa.specs.{Instr, Reg, every, Among, Row, Write}
use Rattle.s66_isa.proofs.Lists.{every-each, each-every}
use Rattle.s66_model.specs.{ClampedStanding, Problem, Point, row_at, copies, next, done_of, memory_wait, readers_wait, point_of, points_of, total_of, IsBeginning, is_remaining, remaining}
use Rattle.s66_model.specs.{place_in_word, free_times, IsSameSet, DominatesClamped}
use Rattle.s66_model.proofs.Dominating.{clamped-total}
use Rattle.s66_model.proofs.Remaining.{among-remaining, remaining-among}
use Rattle.s66_moments.specs.{Fact, IsKnown, FindsNoLater, DominatesInUse, Known, issue_at_least, start_at_least}
use Rattle.s66_moments.proofs.InUse.{finds-later, clamped-finds}
use Rattle.s66_moments.proofs.Turns.{turn-comes}
use Rattle.s66_cert.specs.{Document}
use Rattle.s66_checker.specs.{problem_of, known_of, node_on, is_complete, is_name_at, name_of, at_line_fault, dominates_by, is_beginning, is_same_set, finds_no_later, number_finds_no_later}
use Rattle.s66_checker.specs.{dominates_in_use}
use Rattle.s66_checker.proofs.DominanceTests.{clamped-Decides, document-digits}
use Rattle.s66_checker.proofs.GoingTo.{goes_on-Decides}
use Rattle.s66_checker.proofs.NoLater.{le-Decides, places-Decides}
use Rattle.s66_checker.proofs.AheadOf.{same_set-Decides}

-- each is at most another
every-Decides : {X : Type 0} (f g : X → ℕ) (xs : List X) → Decides (every (λ x. leb (f x) (g x)) xs) ((x : X) → Among x xs → f x ≤ g x)
every-Decides f g xs = (
  λ h x among. leb-true (f x) (g x) (every-each (λ y. leb (f y) (g y)) x xs h among),
  λ each. each-every (λ y. leb (f y) (g y)) xs (λ x among. le-leb (f x) (g x) (each x among)),
)

module _ (b : Problem) (q p : List Point) (issue start n : ℕ) where
  abbrev r : Row
  r = row_at b n

  abbrev Found : Type 0
  Found =
      (((((w : Write) → Among w r.writes → done_of q w.reg ≤ max (done_of p w.reg) issue)
      × ((i : ℕ) → i < copies b r.kind → get_or (free_times r.kind q) i 0 ≤ max (get_or (free_times r.kind p) i 0) issue))
      × ((x : Reg) → Among x r.reads → done_of q x ≤ max (done_of p x) start))
      × (memory_wait q r ≤ max (memory_wait p r) start))
      × ((w : Write) → Among w r.writes → readers_wait q w.reg ≤ max (readers_wait p w.reg) (start + w.latency))

  pub finds-Decides : Decides (finds_no_later (copies b r.kind) q p issue start r) (FindsNoLater b q p issue start n)
  finds-Decides =
      Decides-like {P = Found} (finds_no_later (copies b r.kind) q p issue start r)
      (λ h. record { writers = h.0.0.0.0; units = h.0.0.0.1; operands = h.0.0.1; memory = h.0.1; readers = h.1 })
      (λ (h : FindsNoLater b q p issue start n). ((((h.writers, h.units), h.operands), h.memory), h.readers))
      (Decides-and _ _
      (Decides-and _ _
      (Decides-and _ _
      (Decides-and _ _ (every-Decides (λ (w : Write). done_of q w.reg) (λ (w : Write). max (done_of p w.reg) issue) r.writes) (places-Decides (copies b r.kind) issue (free_times r.kind q) (free_times r.kind p)))
      (every-Decides (λ x. done_of q x) (λ x. max (done_of p x) start) r.reads))
      (le-Decides (memory_wait q r) (max (memory_wait p r) start)))
      (every-Decides (λ (w : Write). readers_wait q w.reg) (λ (w : Write). max (readers_wait p w.reg) (start + w.latency)) r.writes))

-- what is found from some moments on is found from later ones on
pub finds-still : (b : Problem) (q p : List Point) (issue start issue2 start2 n : ℕ) → issue ≤ issue2 → start ≤ start2 → finds_no_later (copies b (row_at b n).kind) q p issue start (row_at b n) ≡ true → finds_no_later (copies b (row_at b n).kind) q p issue2 start2 (row_at b n) ≡ true
finds-still b q p issue start issue2 start2 n le le2 h =
    (finds-Decides b q p issue2 start2 n).1 (finds-later b q p issue start issue2 start2 n le le2 ((finds-Decides b q p issue start n).0 h))

-- what remains
pub remaining-Decides : (block : List Instr) (at : List ℕ) (test : ℕ → Bool) → Decides (every test (remaining block at)) ((n : ℕ) → is_remaining block at n ≡ true → test n ≡ true)
remaining-Decides block at test = (
  λ h n left. every-each test n (remaining block at) h (among-remaining block at n left),
  λ each. each-every test (remaining block at) (λ n among. each n (remaining-among block at n among)),
)

module _ (b : Problem) (low : ℕ) (known : Known) (name at : List ℕ) where
  abbrev named : List Point
  named = points_of b name

  abbrev here : List Point
  here = points_of b at

  abbrev Parts : Type 0
  Parts =
      ((((((IsBeginning b.block at × IsBeginning b.block name) × IsSameSet name at) × (next named ≤ next here)) × (place_in_word named ≡ place_in_word here))
      × ((total_of b name < low) ⊎ (total_of b name ≤ total_of b at)))
      × ((n : ℕ) → is_remaining b.block at n ≡ true → number_finds_no_later b known name at n ≡ true))

  parts-Decides : Decides (dominates_in_use b low known name at) Parts
  parts-Decides =
      let begins : Decides (is_beginning b.block at) (IsBeginning b.block at) = goes_on-Decides b.block [] at in
      let other_begins : Decides (is_beginning b.block name) (IsBeginning b.block name) = goes_on-Decides b.block [] name in
      let same : Decides (is_same_set name at) (IsSameSet name at) = same_set-Decides name at in
      let slot : Decides (leb (next named) (next here)) (next named ≤ next here) = le-Decides (next named) (next here) in
      let phase : Decides (place_in_word named == place_in_word here) (place_in_word named ≡ place_in_word here) = (eqb-true (place_in_word named) (place_in_word here), eq-eqb (place_in_word named) (place_in_word here)) in
      let total = Decides-or (ltb (total_of b name) low) (leb (total_of b name) (total_of b at)) (Decides-ltb (total_of b name) low) (le-Decides (total_of b name) (total_of b at)) in
      Decides-and _ _ (Decides-and _ _ (Decides-and _ _ (Decides-and _ _ (Decides-and _ _ (Decides-and _ _ begins other_begins) same) slot) phase) total) (remaining-Decides b.block at (number_finds_no_later b known name at))

  pub in_use-shown : (facts : List Fact) → IsKnown b facts known.before → dominates_in_use b low known name at ≡ true → DominatesInUse b low facts name at
  in_use-shown facts is_known passes =
      let h : Parts = parts-Decides.0 passes in
      record {
        begins = h.0.0.0.0.0.0;
        other_begins = h.0.0.0.0.0.1;
        same_set = h.0.0.0.0.1;
        slot = h.0.0.0.1;
        phase = h.0.0.1;
        finds = λ n left.
            (let issue = issue_at_least b known at n in
            let start = start_at_least b known at n in
            (issue, start, turn-comes b facts known is_known low at n left, (finds-Decides b named here issue start n).0 (h.1 n left)));
        total = h.0.1;
      }

  pub clamped-in_use : DominatesClamped b name at → dominates_in_use b low known name at ≡ true
  clamped-in_use h =
      parts-Decides.1 (
        (((((h.begins, h.other_begins), h.same_set), h.no_later.slot), h.no_later.phase), inr (clamped-total b name at h)),
        λ n left.
            (let t : Point = point_of b here n in
            let issue = issue_at_least b known at n in
            let start = start_at_least b known at n in
            (finds-Decides b named here issue start n).1 (finds-later b named here t.issue t.start issue start n (omega arith) (omega arith) (clamped-finds b named here n h.no_later))),
      )

-- a leaf that names a node which dominates clamped has no fault
pub clamped-fine : (d : Document) (at : List ℕ) (line : ℕ) → is_complete (problem_of d) at ≡ false → is_name_at d at (node_on d line) ≡ true → dominates_by ClampedStanding (problem_of d) (name_of (node_on d line)) at ≡ true → None ≡ at_line_fault d at line
clamped-fine d at line incomplete named clamped =
    let name : List ℕ = name_of (node_on d line) in
    let in_use : dominates_in_use (problem_of d) d.bound (known_of d) name at ≡ true = clamped-in_use (problem_of d) d.bound (known_of d) name at ((clamped-Decides (problem_of d) name at (document-digits d)).0 clamped) in
    rw (incomplete, named, in_use) refl
