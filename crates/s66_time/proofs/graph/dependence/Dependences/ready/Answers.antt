use Rattle.std.proofs.Common.{ℕ, ◌≡◌, ◌∙◌, ◌+◌, ◌==◌, ◌||◌, ◌&&◌, not, ◌↔◌, IsTrue, List, true, refl, subst, sym, ap, arith, length, map, eq-eqb}
use Rattle.std.proofs.lemmas.Bool.{and_parts, or_left, or_right, not-true}
use Rattle.std.proofs.lemmas.List.{length-map}
use Rattle.std.proofs.Math.Bool.{or-false}
use Rattle.s66_isa.specs.{has, rising, numbers, Set, numbers_in}
use Rattle.s66_isa.proofs.Lists.{among-rising, has-among}
use Rattle.s66_isa.proofs.Sets.{within, within-same, rising-few, numbers_in-filter}
use Rattle.s66_model.specs.{needs, all_needs, is_ready}
use Rattle.s66_model.proofs.Beginnings.{length-rising}
use Rattle.s66_time.proofs.Readiness.{is_free, is_free-ready, free-rest, found-free, and_with, or_with}
use Rattle.s66_time.proofs.graph.dependence.Dependences.ready.Goals as goal

sets-count : (sets : List Set) (all : List (List ℕ)) → map numbers_in sets ≡ all → length sets ≡ length all
sets-count sets all is = sym (length-map sets numbers_in) ∙ ap (λ (ns : List (List ℕ)). length ns) is

pub loop-n-init : goal.loop-n-init
loop-n-init c =
    let all = c.args.self.now in
    let placed = numbers_in c.args.placed.now in
    let rest = numbers_in c.without-rest.result in
    let k = length all in
    let count : length c.self.inside.needs.items ≡ k = sets-count c.self.inside.needs.items all c.self.view_is in
    let unplaced : (m : ℕ) → has m rest ≡ (has m (rising k 1) && not (has m placed)) =
    λ m. c.without-rest.ensures m ∙ ap (λ ns. has m ns && not (has m placed)) (c.self.invariant ∙ ap (λ n. rising n 1) count) in
    record {
      rest = λ m is.
          let (listed, new) = and_parts (has m (rising k 1)) (not (has m placed)) (sym (unplaced m) ∙ is) in
          let (low, high) = among-rising k 1 m (has-among m (rising k 1) listed) in
          (low, omega (arith, high), not-true (has m placed) new);
      found = λ m. ap (λ ns. has m ns || (has m rest && is_free all placed m)) c.empty-ready.ensures ∙ free-rest all placed rest k m (unplaced m);
    }

pub needs-requires : goal.needs-requires
needs-requires c =
    let n : ℕ = c.in-Some.n in
    let (low, high, new) = c.loop-n.invariant.rest n (ap (has n) c.in-Some.ensures.some ∙ or_left (n == n) (has n (numbers_in c.pop_first.new.self)) (eq-eqb n n refl)) in
    (low, high)

pub loop-n-preserved-then-is_within : goal.loop-n-preserved-then-is_within
loop-n-preserved-then-is_within c =
    let all = c.args.self.now in
    let placed = numbers_in c.args.placed.now in
    let found = numbers_in c.loop-n.ready in
    let later = numbers_in c.pop_first.new.self in
    let n : ℕ = c.in-Some.n in
    let (low, high, new) = c.loop-n.invariant.rest n (ap (has n) c.in-Some.ensures.some ∙ or_left (n == n) (has n later) (eq-eqb n n refl)) in
    record {
      rest = λ m is. c.loop-n.invariant.rest m (ap (has m) c.in-Some.ensures.some ∙ or_right (m == n) (has m later) is);
      found =
          found-free all placed found (numbers_in c.with-ready.result) (numbers_in c.loop-n.rest) later n (length all) c.is_within.result c.in-Some.ensures.some new
          (subst (λ ns. IsTrue c.is_within.result ↔ ((m : ℕ) → has m ns ≡ true → has m placed ≡ true)) c.needs.ensures c.is_within.ensures)
          (λ m. c.with-ready.ensures m ∙ ap (λ b. b || has m found) (and_with (m == n) c.is_within.result c.if-is_within.true)) c.loop-n.invariant.found;
    }

pub loop-n-preserved : goal.loop-n-preserved
loop-n-preserved c =
    let all = c.args.self.now in
    let placed = numbers_in c.args.placed.now in
    let found = numbers_in c.loop-n.ready in
    let later = numbers_in c.pop_first.new.self in
    let n : ℕ = c.in-Some.n in
    let (low, high, new) = c.loop-n.invariant.rest n (ap (has n) c.in-Some.ensures.some ∙ or_left (n == n) (has n later) (eq-eqb n n refl)) in
    record {
      rest = λ m is. c.loop-n.invariant.rest m (ap (has m) c.in-Some.ensures.some ∙ or_right (m == n) (has m later) is);
      found =
          found-free all placed found found (numbers_in c.loop-n.rest) later n (length all) c.is_within.result c.in-Some.ensures.some new
          (subst (λ ns. IsTrue c.is_within.result ↔ ((m : ℕ) → has m ns ≡ true → has m placed ≡ true)) c.needs.ensures c.is_within.ensures)
          (λ m. or_with (m == n) c.is_within.result (has m found) c.if-is_within.false) c.loop-n.invariant.found;
    }

pub returns : goal.returns
returns c =
    λ block is.
    let all = c.args.self.now in
    let placed = numbers_in c.args.placed.now in
    let k = length block in
    let count : length all ≡ k = ap (λ (ns : List (List ℕ)). length ns) is ∙ (length-map (numbers block) (needs block) ∙ length-rising k 1) in
    let ready = numbers_in c.loop-n.ready in
    let found : (m : ℕ) → has m ready ≡ within (is_free all placed) (length all + 1) m =
    λ m. sym (or-false (has m ready)) ∙ (ap (λ ns. has m ready || (has m ns && is_free all placed m)) (sym c.in_default.ensures.none) ∙ c.loop-n.invariant.found m)
    in
    numbers_in-filter c.loop-n.ready (is_ready block placed) k (omega (arith, count, sets-count c.self.inside.needs.items all c.self.view_is, rising-few c.self.inside.all (length c.self.inside.needs.items) c.self.invariant))
    (λ m.
    found m
    ∙ (ap (λ n. within (is_free all placed) (n + 1) m) count
    ∙ (ap (λ ns. within (is_free ns placed) (k + 1) m) is
    ∙ within-same (is_free (all_needs block) placed) (is_ready block placed) (k + 1) m (λ n first last. is_free-ready block placed n first (omega arith)))))
