use Rattle.std.proofs.Common.{ℕ, Bool, ◌≡◌, ◌∙◌, ◌-◌, ◌||◌, ◌&&◌, ◌==◌, ◌↔◌, IsTrue, not, List, [], true, ap, sym, subst, refl, arith, length, get_or, eq-eqb}
use Rattle.std.proofs.lemmas.Bool.{or_left, or_right}
use Rattle.std.proofs.Math.Bool.{or-false}
use Rattle.s66_isa.specs.{has, every, numbers_in}
use Rattle.s66_time.specs.{needs_of, opens}
use Rattle.s66_time.proofs.Readiness.{every-tested, found-next, and_with, or_with}
use Rattle.s66_time.proofs.Opened.{count-needs, opens-range, after-is, ready-set}
use Rattle.s66_time.proofs.graph.openings.Openings.ready_after.Goals as goal

pub loop-m-init : goal.loop-m-init
loop-m-init c =
    let placed = numbers_in c.args.placed.now in
    let met : ℕ → Bool = λ m. every (λ a. has a placed) (needs_of c.args.self.now m) in
    let opened : numbers_in c.opened-rest.result ≡ opens c.args.self.now c.args.n = c.opened-rest.ensures.opened in
    record {
      rest = λ m is. opens-range c.args.self.now c.args.n m (sym (ap (has m) opened) ∙ is);
      found = λ m.
          ap (λ b. b || (has m (numbers_in c.opened-rest.result) && met m)) (c.without-after.ensures m)
          ∙ ap (λ ns. (has m (numbers_in c.args.before.now) && not (has m placed)) || (has m ns && met m)) opened;
    }

pub needs-requires : goal.needs-requires
needs-requires c =
    let m : ℕ = c.in-Some.m in
    let (first, last) = c.loop-m.invariant.rest m (ap (has m) c.in-Some.ensures.some ∙ or_left (m == m) (has m (numbers_in c.pop_first.new.self)) (eq-eqb m m refl)) in
    (first, omega (arith, last, ap (λ (ns : List (List ℕ)). length ns) c.self.view_is))

pub loop-m-preserved-then-is_within : goal.loop-m-preserved-then-is_within
loop-m-preserved-then-is_within c =
    let placed = numbers_in c.args.placed.now in
    let met : ℕ → Bool = λ m. every (λ a. has a placed) (needs_of c.args.self.now m) in
    let found = numbers_in c.loop-m.after in
    let later = numbers_in c.pop_first.new.self in
    let k : ℕ = c.in-Some.m in
    let tells : met k ≡ c.is_within.result = every-tested placed (needs_of c.args.self.now k) c.is_within.result (subst (λ ns. IsTrue c.is_within.result ↔ ((m : ℕ) → has m ns ≡ true → has m placed ≡ true)) (c.needs.ensures ∙ ap (λ (ns : List (List ℕ)). get_or ns (k - 1) []) c.self.view_is) c.is_within.ensures) in
    record {
      rest = λ m is. c.loop-m.invariant.rest m (ap (has m) c.in-Some.ensures.some ∙ or_right (m == k) (has m later) is);
      found = λ m.
          found-next met found (numbers_in c.with-after.result) (numbers_in c.loop-m.rest) later k c.is_within.result c.in-Some.ensures.some tells
          (λ a. c.with-after.ensures a ∙ ap (λ b. b || has a found) (and_with (a == k) c.is_within.result c.if-is_within.true)) m
          ∙ c.loop-m.invariant.found m;
    }

pub loop-m-preserved : goal.loop-m-preserved
loop-m-preserved c =
    let placed = numbers_in c.args.placed.now in
    let met : ℕ → Bool = λ m. every (λ a. has a placed) (needs_of c.args.self.now m) in
    let found = numbers_in c.loop-m.after in
    let later = numbers_in c.pop_first.new.self in
    let k : ℕ = c.in-Some.m in
    let tells : met k ≡ c.is_within.result = every-tested placed (needs_of c.args.self.now k) c.is_within.result (subst (λ ns. IsTrue c.is_within.result ↔ ((m : ℕ) → has m ns ≡ true → has m placed ≡ true)) (c.needs.ensures ∙ ap (λ (ns : List (List ℕ)). get_or ns (k - 1) []) c.self.view_is) c.is_within.ensures) in
    record {
      rest = λ m is. c.loop-m.invariant.rest m (ap (has m) c.in-Some.ensures.some ∙ or_right (m == k) (has m later) is);
      found = λ m.
          found-next met found found (numbers_in c.loop-m.rest) later k c.is_within.result c.in-Some.ensures.some tells
          (λ a. or_with (a == k) c.is_within.result (has a found) c.if-is_within.false) m
          ∙ c.loop-m.invariant.found m;
    }

pub returns : goal.returns
returns c =
    λ block prefix all begins now is same.
    let n : ℕ = c.args.n in
    let placed = numbers_in c.args.placed.now in
    let was = numbers_in c.args.before.now in
    let after = numbers_in c.loop-m.after in
    let few = c.opened-rest.ensures.few in
    let count = ap (λ (ns : List (List ℕ)). length ns) all in
    ready-set c.loop-m.after block _ (omega (arith, few, count, count-needs block))
    (λ m.
    sym (or-false (has m after))
    ∙ (ap (λ ns. has m after || (has m ns && every (λ a. has a placed) (needs_of c.args.self.now m))) (sym c.in_default.ensures.none)
    ∙ (c.loop-m.invariant.found m
    ∙ (ap (λ ns. (has m was && not (has m placed)) || (has m (opens ns n) && every (λ a. has a placed) (needs_of ns m))) all
    ∙ after-is block prefix n begins now was placed is same m))))
