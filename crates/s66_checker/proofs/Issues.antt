-- When an instruction issues, starts and is done, by looking back.
use Rattle.std.proofs.Common.{ℕ, ◌+◌, ◌≤◌, ◌<◌, ◌≡◌, cond, max, List, [], ◌∷◌, map, reverse, refl, sym, arith, ◌∙◌}
use Rattle.s66_isa.specs.{Reg, greatest, tally, Row, Write, has_reg, memory_pair}
use Rattle.s66_isa.proofs.Lists.{greatest-same}
use Rattle.s66_model.specs.{Problem, Point, ResultAt, copies, done_of, last_done, done_at, busy_at, issue_of, start_of, slot_of, parcel_of, result_at, free_after, point}
use Rattle.s66_model.proofs.Issue.{issue-join}
use Rattle.s66_checker.specs.{AreTimed}
use Rattle.s66_checker.proofs.Reversed.{greatest-reverse, tally-reverse}
use Rattle.s66_checker.proofs.KeptPoints.{timed-latest}

-- ISSUE

done_of-reverse : (xs : List Point) (r : Reg) → done_of (reverse xs) r ≡ done_of xs r
done_of-reverse xs r = greatest-reverse (λ (p : Point). done_at p r) xs

pub issue-looked : (b : Problem) (xs : List Point) (r : Row) (slot written many t : ℕ) → slot ≡ slot_of (reverse xs) r.parcels → written ≡ greatest (λ (w : Write). done_of xs w.reg) r.writes → many ≡ copies b r.kind →
    max slot written ≤ t → tally (busy_at r.kind t) xs < many →
    ((u : ℕ) → max slot written ≤ u → tally (busy_at r.kind u) xs < many → t ≤ u) → t ≡ issue_of b (reverse xs) r
issue-looked b xs r slot written many t e1 e2 e3 late free least =
    issue-join b (reverse xs) r written t
    (e2 ∙ greatest-same (λ (w : Write). done_of xs w.reg) (λ (w : Write). done_of (reverse xs) w.reg) r.writes (λ w _. sym (done_of-reverse xs w.reg)))
    (omega (arith, late, e1))
    (omega (arith, free, e3, tally-reverse (busy_at r.kind t) xs))
    (λ u ge few. least u (omega (arith, ge, e1)) (omega (arith, few, e3, tally-reverse (busy_at r.kind u) xs)))

-- START

pub start-looked : (b : Problem) (xs : List Point) (r : Row) (issue done wait : ℕ) → AreTimed xs → issue ≡ issue_of b (reverse xs) r → done ≡ greatest (λ x. done_of xs x) r.reads →
    wait ≡ greatest (λ (q : Point). cond (memory_pair q.row.memory r.memory) (q.start + 1) 0) xs → max issue (max done wait) ≡ start_of b (reverse xs) r
unfolding start_of
start-looked b xs r issue done wait timed e1 e2 e3 =
    let last = greatest-same (λ x. done_of xs x) (λ x. last_done x (reverse xs)) r.reads (λ x _. sym (timed-latest xs timed x ∙ done_of-reverse xs x)) in
    let waits = greatest-reverse (λ (q : Point). cond {A = ℕ} (memory_pair q.row.memory r.memory) (q.start + 1) 0) xs in
    rw (e1, e2 ∙ last, e3 ∙ sym waits) refl

-- RESULTS

pub results-looked : (xs : List Point) (start : ℕ) (ws : List Write) → map (result_at xs start) ws ≡ map (result_at (reverse xs) start) ws
results-looked xs start [] = refl
results-looked xs start (w ∷ ws) =
    let wait = greatest-reverse (λ (p : Point). cond {A = ℕ} (has_reg w.reg p.row.reads) (p.start + 1) 0) xs in
    rw (wait, results-looked xs start ws) refl

pub point-looked : (b : Problem) (xs : List Point) (n : ℕ) (r : Row) (parcel issue start : ℕ) (results : List ResultAt) (free : ℕ) →
    parcel ≡ parcel_of (reverse xs) r.parcels → issue ≡ issue_of b (reverse xs) r → start ≡ start_of b (reverse xs) r →
    results ≡ map (result_at xs start) r.writes → free ≡ free_after start r.hold results →
    ◌≡◌ {A = Point} (record { number = n; row = r; parcel = parcel; issue = issue; start = start; results = results; free = free }) (point b (reverse xs) n r)
unfolding point
point-looked b xs n r parcel issue start results free e1 e2 e3 e4 e5 = rw (e5, e4, results-looked xs start r.writes, e3, e2, e1) refl
